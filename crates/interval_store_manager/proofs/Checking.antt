-- The well-formedness check: each of its ways out gives the answer that the definition gives.
use Prim.Native.Nat.{ℕ, zero, suc, ◌≤◌, ◌<◌}
use native.Mathlib.Omega.{arith}
use native.Mathlib.Decide.{ℕ_discrete, dec_lt}
use mathlib.Core.List.{List}
use mathlib.Core.Bool.{Bool, true, false, and-false}
use mathlib.Core.Path.{◌≡◌, refl, sym, ◌∙◌}
use lib.ListN.{get_or, get_or-eq_default, length, take}
use Rattle.std.proofs.lemmas.List.{get_or-take, length-take, length-take-le}
use lib.Dec.{leb, eqb}
use borrow.Author.Tests.{eq-eqb, ne_eqb, leb-true, le-leb}
use Rattle.std.specs.Prelude.{Some, None}
use Rattle.terms.specs.Below.{one_le, fails, and_make, sum_below, sum_same, every_at}
use Rattle.interval_store_manager.specs.declared.IntervalStoreManager.{IntervalStoreManager}
use Rattle.interval_store_manager.specs.Intervals.{inside, is_free, holders, free_number, in_bounds, none_shared}
use Rattle.interval_store_manager.specs.WellFormed.{capacity_allowed, lent_enough, well_formed}
use Rattle.interval_store_manager.specs.StackLaws.{sizes, bounded_make, free_number_lem, none_shared_lem}
use Rattle.interval_store_manager.specs.Sound.{sound, free_le_capacity}
use Rattle.interval_store_manager.specs.Marks.{sizes_checked, Swept, Marked}
use Rattle.interval_store_manager.specs.MarkLaws.{marks_count, swept_some, swept_none}

-- the marks of a part that is cut to so many
pub part_sum : (c : ℕ) (marks : List ℕ) → c ≤ length marks → sum_below (length (take c marks)) (λ k. get_or (take c marks) k 0) ≡ sum_below c (λ k. get_or marks k 0)
part_sum c marks h =
    rw (length-take-le c marks h) (sum_same c (λ k. get_or (take c marks) k 0) (λ k. get_or marks k 0) (λ k l. get_or-take c marks k 0 l))

pub part_small : (c : ℕ) (marks : List ℕ) → ((k : ℕ) → get_or marks k 0 ≤ 1) → (k : ℕ) → get_or (take c marks) k 0 ≤ 1
part_small c marks h k =
    elim (dec_lt k c) [
      | yes l ↦ rw (get_or-take c marks k 0 l) (h k)
      | no g ↦ rw (get_or-eq_default (take c marks) 0 {n = k} (omega (arith, length-take c marks))) (omega arith)
    ]

-- a mark is 0 or 1
pub marks_small : (c n : ℕ) (ss es marks : List ℕ) (total : ℕ) → Swept c n ss es marks (Some total) → (k : ℕ) → get_or marks k 0 ≤ 1
marks_small c n ss es marks total s k = rw (s.marked total refl k) (one_le (is_free n ss es k))

-- fewer than two intervals share no index, so their sizes count the marks
pub few_marked : (c n : ℕ) (ss es marks : List ℕ) (total : ℕ) → Swept c n ss es marks (Some total) → n < 2 → total ≡ sum_below c (λ k. get_or marks k 0)
unfolding holders
few_marked c n ss es marks total s h =
    sym (swept_some c n ss es total (sym s.is)).1
    ∙ sym (marks_count c n ss es marks (s.marked total refl) ∙ free_number_lem c n ss es (λ i l. few n h i))
  where
    few : (n : ℕ) → n < 2 → (i : ℕ) → holders n ss es i ≤ 1
    few zero h i = omega arith
    few (suc zero) h i = omega (arith, one_le (inside (get_or ss 0 0) (get_or es 0 0) i))
    few (suc (suc n)) h i = absurd (omega arith)

shared_test : (c n : ℕ) (ss es : List ℕ) → eqb (free_number c n ss es) (sizes c n ss es) ≡ none_shared c n ss es
unfolding none_shared
shared_test c n ss es =
    elim (ℕ_discrete (free_number c n ss es) (sizes c n ss es)) [
      | yes e ↦ eq-eqb (free_number c n ss es) (sizes c n ss es) e ∙ sym (none_shared_lem c n ss es e)
      | no d ↦
          ne_eqb (free_number c n ss es) (sizes c n ss es) d
          ∙ sym
          (fails (none_shared c n ss es)
          (λ t. d (free_number_lem c n ss es (λ i l. leb-true (holders n ss es i) 1 (every_at c (λ k. leb (holders n ss es k) 1) t i l)))))
    ]

-- not well-formed
pub check_fails : (m : IntervalStoreManager) (ss es marks : List ℕ) → well_formed m ss es ≡ false → Marked m ss es marks None
check_fails m ss es marks e =
    record { is = rw e; marked = λ t. absurd (let z : ◌≡◌ {A = ℕ} 0 1 = let y : true ≡ false = sym t ∙ e in cc in omega arith) }

-- the marks are as many as the sizes add up to exactly where no two intervals share an index
module _ (m : IntervalStoreManager) (ss es marks : List ℕ) (total free : ℕ) (a : capacity_allowed m.capacity ≡ true) (b : lent_enough m.capacity ss es ≡ true) (d : lent_enough m.last_in_use ss es ≡ true) (s : Swept m.capacity m.last_in_use ss es marks (Some total)) (f : free ≡ sum_below m.capacity (λ k. get_or marks k 0)) where
  number : free ≡ free_number m.capacity m.last_in_use ss es
  number = f ∙ marks_count m.capacity m.last_in_use ss es marks (s.marked total refl)

  well : (t : Bool) → eqb free total ≡ t → well_formed m ss es ≡ t
  unfolding well_formed
  well t e =
      let p = swept_some m.capacity m.last_in_use ss es total (sym s.is) in
      rw (a, b, d, p.0, sym (shared_test m.capacity m.last_in_use ss es), sym number, p.1, e)

  pub checks : free ≡ total → Marked m ss es marks (Some free)
  checks e =
      record {
        is = rw (well true (eq-eqb free total e), sym number);
        marked = λ t. s.marked total refl;
      }

  pub shared : (free ≡ total → ⊥) → Marked m ss es marks None
  shared e = check_fails m ss es marks (well false (ne_eqb free total e))

pub not_allowed : (m : IntervalStoreManager) (ss es : List ℕ) → capacity_allowed m.capacity ≡ false → well_formed m ss es ≡ false
unfolding well_formed
not_allowed m ss es e = rw e

pub not_lent : (m : IntervalStoreManager) (ss es : List ℕ) → lent_enough m.capacity ss es ≡ false → well_formed m ss es ≡ false
unfolding well_formed
not_lent m ss es e = rw e (and-false (capacity_allowed m.capacity))

pub not_lent_used : (m : IntervalStoreManager) (ss es : List ℕ) → lent_enough m.last_in_use ss es ≡ false → well_formed m ss es ≡ false
unfolding well_formed
not_lent_used m ss es e = rw (e, and-false (lent_enough m.capacity ss es)) (and-false (capacity_allowed m.capacity))

-- where no two intervals in bounds share an index, their sizes do not pass the capacity
pub not_swept : (m : IntervalStoreManager) (ss es : List ℕ) → sizes_checked m.capacity m.last_in_use ss es ≡ None → well_formed m ss es ≡ false
not_swept m ss es e =
    let c = m.capacity in
    let n = m.last_in_use in
    fails (well_formed m ss es)
    (λ w.
    let s = sound m ss es w in
    let fits : sizes c n ss es ≤ c = omega (arith, free_number_lem c n ss es s.single, free_le_capacity c n ss es) in
    let both_hold = and_make (in_bounds c n ss es) (leb (sizes c n ss es) c) (bounded_make c n ss es s.bounds) (le-leb (sizes c n ss es) c fits) in
    let none = swept_none c n ss es e in
    let z : ◌≡◌ {A = ℕ} 0 1 = let y : true ≡ false = sym both_hold ∙ none in cc in omega arith)
