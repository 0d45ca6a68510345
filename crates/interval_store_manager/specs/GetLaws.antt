-- Laws of get, for every manager and stack: which of its two forms applies, what it leaves free, how many, and that the
-- manager stays well-formed.
use Rattle.std.specs.Prelude.{ℕ, ◌+◌, ◌-◌, ◌≤◌, ◌<◌, List, true, not, ◌&&◌, ◌≡◌, refl, set, eqb}
use Rattle.std.proofs.Common.{arith, sym, ◌∙◌, length-set}
use Rattle.std.proofs.Math.Decide.{dec_lt}
use Rattle.std.proofs.Math.Path.{ap}
use borrow.Author.Tests.{eq-eqb, ne_eqb, lt-ltb}
use Rattle.terms.specs.Below.{one}
use Rattle.interval_store_manager.specs.declared.IntervalStoreManager.{IntervalStoreManager}
use Rattle.interval_store_manager.specs.Intervals.{at_top, inside, holders, is_free, free_number}
use Rattle.interval_store_manager.specs.WellFormed.{well_formed}
use Rattle.interval_store_manager.specs.Answers.{Answer, Outcome, outcome, given}
use Rattle.interval_store_manager.specs.Calls.{manager, gives, taken}
use Rattle.interval_store_manager.specs.IntervalLaws.{inside_single, inside_first}
use Rattle.interval_store_manager.specs.StackLaws.{free_number_lem}
use Rattle.interval_store_manager.specs.Sound.{Sound, sound, sound_make, entries_le_capacity, restacked}
use Rattle.interval_store_manager.specs.TopLaws.{holders_top, top_start, bounded_fewer, bounded_start}
use Rattle.interval_store_manager.specs.FreeLaws.{free_less, sizes_one}

taken_pop : (c n : ℕ) (ss es : List ℕ) → at_top n ss ≡ at_top n es → taken (manager c n) ss es ≡ gives (at_top n ss) (manager c (n - 1)) ss es
unfolding taken
taken_pop c n ss es e = rw (eq-eqb (at_top n ss) (at_top n es) e)

taken_keep : (c n : ℕ) (ss es : List ℕ) → (at_top n ss ≡ at_top n es → ⊥) → taken (manager c n) ss es ≡ gives (at_top n ss) (manager c n) (set ss (n - 1) (at_top n ss + 1)) es
unfolding taken
taken_keep c n ss es e = rw (ne_eqb (at_top n ss) (at_top n es) e)

-- What get leaves: the given index is held once less, every other as before, and the rest is a sound stack.
pub record Took (c n : ℕ) (ss es : List ℕ) (o : Outcome) : Type 0 where
  pub answer : o.answer ≡ given (at_top n ss) (free_number o.manager.capacity o.manager.last_in_use o.starts o.ends)
  pub capacity : o.manager.capacity ≡ c
  pub held : (k : ℕ) → holders n ss es k ≡ holders o.manager.last_in_use o.starts o.ends k + one (eqb k (at_top n ss))
  pub kept : Sound o.manager.capacity o.manager.last_in_use o.starts o.ends

module _ (c n : ℕ) (ss es : List ℕ) (s : Sound c n ss es) (h : 0 < n) where
  pub next_below : at_top n ss < c
  next_below = omega (arith, s.bounds.ordered (n - 1) (omega arith), s.bounds.below (n - 1) (omega arith))

  pop_held : at_top n ss ≡ at_top n es → (k : ℕ) → holders n ss es k ≡ holders (n - 1) ss es k + one (eqb k (at_top n ss))
  pop_held e k =
      holders_top n ss es k h
      ∙ ap (λ (x : ℕ). holders (n - 1) ss es k + x)
      (ap (λ (x : ℕ). one (inside (at_top n ss) x k)) (sym e) ∙ inside_single (at_top n ss) k)

  keep_held : (k : ℕ) → holders n ss es k ≡ holders n (set ss (n - 1) (at_top n ss + 1)) es k + one (eqb k (at_top n ss))
  keep_held k =
      let first = inside_first (at_top n ss) (at_top n es) k (s.bounds.ordered (n - 1) (omega arith)) in
      let new = top_start n ss es (at_top n ss + 1) k h s.starts_used in
      let old = holders_top n ss es k h in
      omega arith

  popped : at_top n ss ≡ at_top n es → Took c n ss es (gives (at_top n ss) (manager c (n - 1)) ss es)
  popped e =
      record {
        answer = refl;
        capacity = refl;
        held = pop_held e;
        kept =
            restacked (n - 1) ss es s refl refl (omega (arith, entries_le_capacity s)) (bounded_fewer (n - 1) (omega arith) s.bounds)
            (λ i l. omega (arith, pop_held e i, s.single i l));
      }

  shortened : (at_top n ss ≡ at_top n es → ⊥) → Took c n ss es (gives (at_top n ss) (manager c n) (set ss (n - 1) (at_top n ss + 1)) es)
  shortened d =
      let less : at_top n ss + 1 ≤ at_top n es = elim (dec_lt (at_top n ss) (at_top n es)) [ yes l ↦ omega arith | no g ↦ absurd (d (omega (arith, s.bounds.ordered (n - 1) (omega arith)))) ] in
      record {
        answer = refl;
        capacity = refl;
        held = keep_held;
        kept =
            restacked n (set ss (n - 1) (at_top n ss + 1)) es s (length-set ss (n - 1) (at_top n ss + 1)) refl (entries_le_capacity s)
            (bounded_start (at_top n ss + 1) h s.starts_used less s.bounds)
            (λ i l. omega (arith, keep_held i, s.single i l));
      }

  pub took : Took c n ss es (taken (manager c n) ss es)
  took =
      elim (dec_lt (at_top n ss) (at_top n es)) [
        | yes l ↦ rw (taken_keep c n ss es (λ e. omega arith)) (shortened (λ e. omega arith))
        | no g ↦
            let e : at_top n ss ≡ at_top n es = omega (arith, s.bounds.ordered (n - 1) (omega arith)) in
            rw (taken_pop c n ss es e) (popped e)
      ]

-- after get exactly the given index is no longer free, one index fewer is free, and the manager stays well-formed
module _ (m : IntervalStoreManager) (ss es : List ℕ) (w : well_formed m ss es ≡ true) (h : 0 < m.last_in_use) where
  abbrev after : Outcome
  after = taken m ss es

  what : Took m.capacity m.last_in_use ss es after
  what = took m.capacity m.last_in_use ss es (sound m ss es w) h

  pub get_keeps : well_formed after.manager after.starts after.ends ≡ true
  get_keeps = sound_make after.manager after.starts after.ends what.kept

  pub get_free : (k : ℕ) → k < m.capacity → is_free after.manager.last_in_use after.starts after.ends k ≡ (is_free m.last_in_use ss es k && not (eqb k (at_top m.last_in_use ss)))
  get_free k l =
      free_less (eqb k (at_top m.last_in_use ss)) m.last_in_use after.manager.last_in_use ss es after.starts after.ends k
      ((sound m ss es w).single k l) (what.held k)

  -- the given index was free
  pub get_was_free : is_free m.last_in_use ss es (at_top m.last_in_use ss) ≡ true
  unfolding is_free
  get_was_free =
      let i = at_top m.last_in_use ss in
      let t : one (eqb i i) ≡ 1 = ap one (eq-eqb i i refl) in
      lt-ltb 0 (holders m.last_in_use ss es i) (omega (arith, what.held i))

  pub get_number : free_number m.capacity m.last_in_use ss es ≡ free_number m.capacity after.manager.last_in_use after.starts after.ends + 1
  get_number =
      let c = m.capacity in
      let n = m.last_in_use in
      let n' = after.manager.last_in_use in
      let more = sizes_one c (at_top n ss) n' n after.starts after.ends ss es (next_below c n ss es (sound m ss es w) h) what.held in
      let before = free_number_lem c n ss es (sound m ss es w).single in
      let now = free_number_lem c n' after.starts after.ends (λ i l. omega (arith, what.held i, (sound m ss es w).single i l)) in
      omega arith

  -- one fewer than were free before
  pub get_figure : (free : ℕ) → free ≡ free_number m.capacity m.last_in_use ss es → after.answer ≡ given (at_top m.last_in_use ss) (free - 1)
  get_figure free e =
      let less : free_number after.manager.capacity after.manager.last_in_use after.starts after.ends ≡ free - 1 = rw what.capacity (omega (arith, get_number)) in
      what.answer ∙ ap (λ (k : ℕ). given (at_top m.last_in_use ss) k) less

  -- the two forms of get with the figure that the check counted
  module _ (free : ℕ) (counted : free ≡ free_number m.capacity m.last_in_use ss es) where
    pub some_free : 0 < free
    some_free = omega (arith, get_number)

    figured : (o : Outcome) → after ≡ o → outcome (given (at_top m.last_in_use ss) (free - 1)) o.manager o.starts o.ends ≡ after
    figured o e =
        ap (λ (a : Answer). outcome a o.manager o.starts o.ends) (sym (get_figure free counted) ∙ ap (λ (x : Outcome). x.answer) e) ∙ sym e

    pub pop_given : at_top m.last_in_use ss ≡ at_top m.last_in_use es → outcome (given (at_top m.last_in_use ss) (free - 1)) (manager m.capacity (m.last_in_use - 1)) ss es ≡ after
    pop_given e = figured (gives (at_top m.last_in_use ss) (manager m.capacity (m.last_in_use - 1)) ss es) (taken_pop m.capacity m.last_in_use ss es e)

    pub keep_given : (at_top m.last_in_use ss ≡ at_top m.last_in_use es → ⊥) → outcome (given (at_top m.last_in_use ss) (free - 1)) m (set ss (m.last_in_use - 1) (at_top m.last_in_use ss + 1)) es ≡ after
    keep_given d = figured (gives (at_top m.last_in_use ss) m (set ss (m.last_in_use - 1) (at_top m.last_in_use ss + 1)) es) (taken_keep m.capacity m.last_in_use ss es d)
