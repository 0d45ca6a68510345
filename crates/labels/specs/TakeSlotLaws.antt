-- Laws of taking a slot: which one is taken, and what it leaves of the classes and the counts.
use Rattle.std.specs.Prelude.{ℕ, ◌+◌, ◌≤◌, ◌<◌, List, Some, None, cond, refl, length, get_or, ltb, eqb}
use native.Mathlib.Omega.{arith}
use Rattle.std.proofs.Math.Decide.{dec_lt, ℕ_discrete}
use Rattle.std.proofs.Math.Bool.{true, false, and-false}
use Rattle.std.proofs.Math.Path.{◌≡◌, sym, ap₂}
use Rattle.std.proofs.Common.{◌∙◌, length-set}
use Rattle.std.proofs.Math.ListN.{set}
use Rattle.std.proofs.Math.Seq.{get_or-set_same, get_or-set_other}
use borrow.Author.Tests.{eq-eqb, ne_eqb, eqb-true, lt-ltb, le-ltb, ltb-true}
use Rattle.terms.specs.Below.{one, both}
use Rattle.terms.specs.Search.{First, first, first_is}
use Rattle.terms.specs.Entries.{stored}
use Rattle.interval_store_manager.specs.declared.IntervalStoreManager.{IntervalStoreManager}
use Rattle.interval_store_manager.specs.Answers.{outcome, given}
use Rattle.interval_store_manager.specs.Calls.{taken}
use Rattle.labels.specs.Counted.{Counted, counted, count_at, next_index, index_taken, raised}
use Rattle.labels.specs.CountedLaws.{WellCounted, raise_keeps, take_keeps, next_within, next_unused, index_given_lem, index_taken_lem}
use Rattle.labels.specs.Labels.{holds_class, class_slot, live_slot, SlotTaken, slot_taken}
use Rattle.labels.specs.Sound.{Distinct}

-- what taking a slot leaves
pub record Took (capacity : ℕ) (attributes : List ℕ) (t : Counted) (class : ℕ) (o : SlotTaken) : Type 0 where
  pub below : o.slot < capacity
  pub kept : WellCounted capacity o.table
  pub lent : capacity ≤ length o.attributes
  pub holds : get_or o.attributes o.slot 0 ≡ class
  pub counts : (s : ℕ) → s < capacity → count_at o.table s ≡ count_at t s + one (eqb o.slot s)
  pub others : (s : ℕ) → 0 < count_at t s → get_or o.attributes s 0 ≡ get_or attributes s 0
  pub distinct : Distinct capacity o.attributes o.table.counts

-- a slot that is not live, or holds another class
pub not_live : (held counts : List ℕ) (class s : ℕ) → get_or counts s 0 ≤ 0 → holds_class held counts class s ≡ false
unfolding holds_class
not_live held counts class s h = rw (le-ltb 0 (get_or counts s 0) h)

pub other_class : (held counts : List ℕ) (class s : ℕ) → (get_or held s 0 ≡ class → ⊥) → holds_class held counts class s ≡ false
unfolding holds_class
other_class held counts class s d = rw (ne_eqb (get_or held s 0) class d) (and-false (ltb 0 (get_or counts s 0)))

-- a search from the front finds the slot of the class, or passes them all
module _ (c : ℕ) (held counts : List ℕ) (class : ℕ) where
  pub first_found : (i : ℕ) → i < c → 0 < get_or counts i 0 → get_or held i 0 ≡ class → ((k : ℕ) → k < i → holds_class held counts class k ≡ false) → i ≡ class_slot c held counts class
  unfolding class_slot holds_class
  first_found i l u e f =
      sym (first_is c (holds_class held counts class) i
      (record { within = omega arith; passes = λ m. rw (lt-ltb 0 (get_or counts i 0) u, eq-eqb (get_or held i 0) class e); none_before = f }))

  pub first_none : ((k : ℕ) → k < c → holds_class held counts class k ≡ false) → c ≡ class_slot c held counts class
  unfolding class_slot
  first_none f =
      sym (first_is c (holds_class held counts class) c
      (record { within = omega arith; passes = λ m. absurd (omega arith); none_before = f }))

  pub class_found : (i : ℕ) → i < c → 0 < get_or counts i 0 → get_or held i 0 ≡ class → ((k : ℕ) → k < i → holds_class held counts class k ≡ false) → Some i ≡ live_slot c held counts class
  class_found i l u e f = rw (sym (first_found i l u e f), lt-ltb i c l)

  pub class_none : ((k : ℕ) → k < c → holds_class held counts class k ≡ false) → None ≡ live_slot c held counts class
  class_none f = rw (sym (first_none f), le-ltb c c (omega arith))

-- the slot found is the one that the definition takes, and none is found where it takes none
some_slot : (c r live : ℕ) → Some live ≡ cond (ltb r c) (Some r) None → (live ≡ r) × (live < c)
some_slot c r live e =
    elim (dec_lt r c) [
      | yes h ↦ let f : Some live ≡ Some r = rw (lt-ltb r c h) at e in let q : live ≡ r = cc in (q, rw q h)
      | no g ↦ absurd (let f : Some live ≡ None = rw (le-ltb r c (omega arith)) at e in let z : ◌≡◌ {A = ℕ} 0 1 = cc in omega arith)
    ]

no_slot : (c r : ℕ) → None ≡ cond (ltb r c) (Some r) None → c ≤ r
no_slot c r e =
    elim (dec_lt r c) [
      | yes h ↦ absurd (let f : None ≡ Some r = rw (lt-ltb r c h) at e in let z : ◌≡◌ {A = ℕ} 0 1 = cc in omega arith)
      | no g ↦ omega arith
    ]

-- the two forms of taking a slot
module _ (c : ℕ) (held : List ℕ) (t : Counted) (class : ℕ) where
  pub taken_live : (live : ℕ) → Some live ≡ live_slot c held t.counts class → record { slot = live; attributes = held; table = counted t.manager (set t.counts live (count_at t live + 1)) t.starts t.ends } ≡ slot_taken c held t class
  unfolding slot_taken raised
  taken_live live q = let p = some_slot c (class_slot c held t.counts class) live q in rw (sym p.0, lt-ltb live c p.1)

  pub taken_new : None ≡ live_slot c held t.counts class → (a free : ℕ) (r : IntervalStoreManager) (ss es : List ℕ) → outcome (given a free) r ss es ≡ taken t.manager t.starts t.ends → record { slot = a; attributes = set held a class; table = counted r (set t.counts a 1) ss es } ≡ slot_taken c held t class
  unfolding slot_taken
  taken_new q a free r ss es e =
      rw (le-ltb (class_slot c held t.counts class) c (no_slot c (class_slot c held t.counts class) q))
      (let i = index_given_lem t a free r ss es e in
      ap₂ (λ (n : ℕ) (x : Counted). record { slot = n; attributes = set held n class; table = x }) i (index_taken_lem t a free r ss es e))

module _ (c : ℕ) (held : List ℕ) (t : Counted) (class : ℕ) (w : WellCounted c t) (g : c ≤ length held) (d : Distinct c held t.counts) where
  abbrev r : ℕ
  r = class_slot c held t.counts class

  is_first_lem : First c (holds_class held t.counts class) r
  unfolding class_slot
  is_first_lem = first c (holds_class held t.counts class)

  -- the class is held by a live slot
  module _ (h : r < c) where
    found : (0 < count_at t r) × (get_or held r 0 ≡ class)
    unfolding holds_class
    found =
        let p = both (ltb 0 (count_at t r)) (eqb (get_or held r 0) class) (is_first_lem.passes h) in
        (ltb-true 0 (count_at t r) p.0, eqb-true (get_or held r 0) class p.1)

    was_live : (s : ℕ) → 0 < get_or (set t.counts r (count_at t r + 1)) s 0 → 0 < count_at t s
    was_live s p =
        stored (λ n. 0 < n → 0 < count_at t s) t.counts r (count_at t r + 1) s (omega (arith, w.lent)) (λ e q. rw e found.0) (λ f q. q) p

    took_live : Took c held t class (record { slot = r; attributes = held; table = raised t r })
    unfolding raised
    took_live =
        record {
          below = h;
          kept = raise_keeps c t w r h found.0;
          lent = g;
          holds = found.1;
          counts = λ s l.
              stored (λ n. n ≡ count_at t s + one (eqb r s)) t.counts r (count_at t r + 1) s (omega (arith, w.lent))
              (λ e. rw (eq-eqb r s (sym e), e)) (λ f. rw (ne_eqb r s (λ e. f (sym e))) (omega arith));
          others = λ s u. refl;
          distinct = λ s k l m p q e. d s k l m (was_live s p) (was_live k q) e;
        }

  -- it is not, and the manager gives a slot
  module _ (h : c ≤ r) (k : 0 < t.manager.last_in_use) where
    abbrev a : ℕ
    a = next_index t

    within : a < c
    within = next_within c t w k

    unused : count_at t a ≡ 0
    unused = next_unused c t w k

    not_a : (s : ℕ) → 0 < count_at t s → s ≡ a → ⊥
    not_a s u e = let z : count_at t s ≡ 0 = rw e unused in omega arith

    not_held : (s : ℕ) → s < c → 0 < count_at t s → get_or held s 0 ≡ class → ⊥
    unfolding holds_class
    not_held s l u e =
        let no = is_first_lem.none_before s (omega arith) in
        let yes : holds_class held t.counts class s ≡ true = rw (lt-ltb 0 (count_at t s) u, eq-eqb (get_or held s 0) class e) in
        let q : true ≡ false = sym yes ∙ no in
        let z : ◌≡◌ {A = ℕ} 0 1 = cc in
        omega arith

    was_live_or_a : (s : ℕ) → (s ≡ a → ⊥) → 0 < get_or (set t.counts a 1) s 0 → 0 < count_at t s
    was_live_or_a s f p = rw (get_or-set_other t.counts a s 1 0 f) at p

    apart : Distinct c (set held a class) (set t.counts a 1)
    apart s j l m p q e =
        elim (ℕ_discrete s a) [
          | yes x ↦
              elim (ℕ_discrete j a) [
                | yes y ↦ x ∙ sym y
                | no y ↦
                    absurd (not_held j m (was_live_or_a j y q)
                    (sym (rw (x, get_or-set_same held a class 0 (omega (arith, within)), get_or-set_other held a j class 0 y) at e)))
              ]
          | no x ↦
              elim (ℕ_discrete j a) [
                | yes y ↦
                    absurd (not_held s l (was_live_or_a s x p)
                    (rw (y, get_or-set_same held a class 0 (omega (arith, within)), get_or-set_other held a s class 0 x) at e))
                | no y ↦
                    d s j l m (was_live_or_a s x p) (was_live_or_a j y q)
                    (rw (get_or-set_other held a s class 0 x, get_or-set_other held a j class 0 y) at e)
              ]
        ]

    took_new : Took c held t class (record { slot = a; attributes = set held a class; table = index_taken t })
    unfolding index_taken
    took_new =
        record {
          below = within;
          kept = take_keeps c t w k;
          lent = rw (length-set held a class) g;
          holds = get_or-set_same held a class 0 (omega (arith, within));
          counts = λ s l.
              stored (λ n. n ≡ count_at t s + one (eqb a s)) t.counts a 1 s (omega (arith, w.lent, within))
              (λ e. rw (eq-eqb a s (sym e), e, unused)) (λ f. rw (ne_eqb a s (λ e. f (sym e))) (omega arith));
          others = λ s u. get_or-set_other held a s class 0 (not_a s u);
          distinct = apart;
        }

  pub slot_took : 0 < t.manager.last_in_use → Took c held t class (slot_taken c held t class)
  unfolding slot_taken
  slot_took k =
      elim (dec_lt r c) [
        | yes h ↦ rw (lt-ltb r c h) (took_live h)
        | no f ↦ rw (le-ltb r c (omega arith)) (took_new (omega arith) k)
      ]
