-- Laws of the marks: one index more is marked, one interval more is marked, and where the marks are as many as the sizes
-- add up to.
use Rattle.std.specs.Prelude.{ℕ, zero, suc, ◌+◌, ◌≤◌, ◌<◌, List, Bool, true, false, cond, ◌&&◌, ◌≡◌, refl, Option, Some, None, Ok, Err, length, get_or, set, replicate, leb}
use Rattle.std.proofs.Common.{arith, sym, ◌∙◌, get_or-set_same, get_or-set_other, le-leb, le-ltb, lt-ltb}
use Rattle.std.proofs.Math.Decide.{dec_lt, ℕ_discrete}
use Rattle.std.proofs.Math.Bool.{and-false}
use Rattle.std.proofs.lemmas.Bool.{lt-leb}
use Rattle.std.specs.Option.{ok_or}
use Rattle.std.proofs.lemmas.Option.{cond_some, none-some}
use Rattle.terms.specs.declared.Refusal.{Refusal}
use Rattle.terms.specs.Below.{one, both, sum_below, sum_same, count_below}
use Rattle.interval_store_manager.specs.declared.IntervalStoreManager.{IntervalStoreManager}
use Rattle.interval_store_manager.specs.Intervals.{is_free, free_number, in_bounds}
use Rattle.interval_store_manager.specs.WellFormed.{well_formed}
use Rattle.interval_store_manager.specs.StackLaws.{sizes}
use Rattle.interval_store_manager.specs.Marks.{filled, Unmarked, Marks, sizes_checked, free_checked}

-- a list of zeros marks nothing
pub unmarked : (n : ℕ) → Unmarked (replicate n 0)
unmarked zero k = refl
unmarked (suc n) zero = refl
unmarked (suc n) (suc k) = unmarked n k

pub filled_in : (marks : List ℕ) (from to k : ℕ) → from ≤ k → k < to → filled marks from to k ≡ 1
filled_in marks from to k h g = rw (le-leb from k h, lt-ltb k to g)

pub filled_below : (marks : List ℕ) (from to k : ℕ) → k < from → filled marks from to k ≡ get_or marks k 0
filled_below marks from to k h = rw (lt-leb from k h)

pub filled_above : (marks : List ℕ) (from to k : ℕ) → to ≤ k → filled marks from to k ≡ get_or marks k 0
filled_above marks from to k h = rw (le-ltb k to h, and-false (leb from k))

pub filled_none : (marks : List ℕ) (from k : ℕ) → get_or marks k 0 ≡ filled marks from from k
filled_none marks from k =
    elim (dec_lt k from) [ yes l ↦ sym (filled_below marks from from k l) | no g ↦ sym (filled_above marks from from k (omega arith)) ]

pub filled_more : (old marks : List ℕ) (from i : ℕ) → from ≤ i → i < length marks → ((k : ℕ) → get_or marks k 0 ≡ filled old from i k) → (k : ℕ) → get_or (set marks i 1) k 0 ≡ filled old from (i + 1) k
filled_more old marks from i h g f k =
    elim (ℕ_discrete k i) [
      | yes e ↦ rw (e, get_or-set_same marks i 1 0 g) (sym (filled_in old from (i + 1) i h (omega arith)))
      | no d ↦
          get_or-set_other marks i k 1 0 d
          ∙ (f k
          ∙ elim (dec_lt k from) [
            | yes l ↦ filled_below old from i k l ∙ sym (filled_below old from (i + 1) k l)
            | no u ↦
                elim (dec_lt k i) [
                  | yes l ↦ filled_in old from i k (omega arith) l ∙ sym (filled_in old from (i + 1) k (omega arith) (omega arith))
                  | no v ↦
                      let past : i + 1 ≤ k = elim (dec_lt i k) [ yes l ↦ omega arith | no w ↦ absurd (d (omega arith)) ] in
                      filled_above old from i k (omega arith) ∙ sym (filled_above old from (i + 1) k past)
                ]
          ])
    ]

-- the marks below the capacity are as many as the free indices
pub marks_count : (c n : ℕ) (ss es marks : List ℕ) → Marks n ss es marks → sum_below c (λ k. get_or marks k 0) ≡ free_number c n ss es
unfolding free_number count_below
marks_count c n ss es marks m = sum_same c (λ k. get_or marks k 0) (λ k. one (is_free n ss es k)) (λ k l. m k)

-- a pass that adds up, and a check that passes: what they show, and what the other answer shows
none_if : {A : Type 0} (b : Bool) (x : A) → cond b (Some x) None ≡ None → b ≡ false
none_if true x e = absurd (none-some x (sym e))
none_if false x e = refl

pub swept_some : (c n : ℕ) (ss es : List ℕ) (t : ℕ) → sizes_checked c n ss es ≡ Some t → (in_bounds c n ss es ≡ true) × (sizes c n ss es ≡ t)
unfolding sizes_checked
swept_some c n ss es t e =
    let p = cond_some (in_bounds c n ss es && leb (sizes c n ss es) c) (sizes c n ss es) t e in
    ((both (in_bounds c n ss es) (leb (sizes c n ss es) c) p.0).0, p.1)

pub swept_none : (c n : ℕ) (ss es : List ℕ) → sizes_checked c n ss es ≡ None → (in_bounds c n ss es && leb (sizes c n ss es) c) ≡ false
unfolding sizes_checked
swept_none c n ss es e = none_if (in_bounds c n ss es && leb (sizes c n ss es) c) (sizes c n ss es) e

pub checked_some : (m : IntervalStoreManager) (ss es : List ℕ) (free : ℕ) → free_checked m ss es ≡ Some free → (well_formed m ss es ≡ true) × (free ≡ free_number m.capacity m.last_in_use ss es)
checked_some m ss es free e =
    let p = cond_some (well_formed m ss es) (free_number m.capacity m.last_in_use ss es) free e in (p.0, sym p.1)

pub checked_none : (m : IntervalStoreManager) (ss es : List ℕ) → free_checked m ss es ≡ None → well_formed m ss es ≡ false
checked_none m ss es e = none_if (well_formed m ss es) (free_number m.capacity m.last_in_use ss es) e

-- where the check's answer is one of `Ok`, with any refusal in place of none
pub checked_ok : (m : IntervalStoreManager) (ss es : List ℕ) (answer : Option ℕ) (why : Refusal) (free : ℕ) → answer ≡ free_checked m ss es → ok_or answer why ≡ Ok free → (well_formed m ss es ≡ true) × (free ≡ free_number m.capacity m.last_in_use ss es)
checked_ok m ss es None why free a e = absurd (err_ok e)
  where
    err_ok : {A E : Type 0} {x : E} {y : A} → Err x ≡ Ok y → ⊥
    err_ok p = absurd (let z : ◌≡◌ {A = ℕ} 0 1 = cc in omega arith)
checked_ok m ss es (Some f) why free a e = let same : f ≡ free = cc in checked_some m ss es free (sym a ∙ rw same)
