-- Laws of release, for every manager and stack: which of its forms applies, what is free after it, how many, and that the
-- manager stays well-formed.
use Rattle.std.specs.Prelude.{ℕ, ◌+◌, ◌-◌, ◌≤◌, ◌<◌, List, true, false, ◌||◌, ◌≡◌, refl, set, eqb}
use Rattle.std.proofs.Common.{arith, ◌∙◌, ap, length-set, eq-eqb, ne_eqb, lt-ltb, le-ltb}
use Rattle.std.proofs.Math.Decide.{dec_lt, ℕ_discrete}
use Rattle.terms.specs.Below.{one}
use Rattle.interval_store_manager.specs.declared.IntervalStoreManager.{IntervalStoreManager}
use Rattle.interval_store_manager.specs.Intervals.{at_top, inside, holders, is_free, free_number}
use Rattle.interval_store_manager.specs.WellFormed.{well_formed}
use Rattle.interval_store_manager.specs.Answers.{Outcome, outcome, done}
use Rattle.interval_store_manager.specs.Calls.{manager, pushed, released}
use Rattle.interval_store_manager.specs.IntervalLaws.{inside_single, inside_first, inside_last}
use Rattle.interval_store_manager.specs.StackLaws.{free_number_lem}
use Rattle.interval_store_manager.specs.Sound.{Sound, sound, sound_make, entries_le_capacity, restacked}
use Rattle.interval_store_manager.specs.TopLaws.{holders_top, top_start, top_end, push, bounded_start, bounded_end, bounded_push}
use Rattle.interval_store_manager.specs.FreeLaws.{not_free_held, free_more, sizes_one, single_more, room}

pub released_start : (c n : ℕ) (ss es : List ℕ) (i : ℕ) → 0 < n → at_top n ss ≡ i + 1 → released (manager c n) ss es i ≡ outcome done (manager c n) (set ss (n - 1) i) es
unfolding released
released_start c n ss es i h e = rw (lt-ltb 0 n h, eq-eqb (at_top n ss) (i + 1) e)

pub released_end : (c n : ℕ) (ss es : List ℕ) (i : ℕ) → 0 < n → (at_top n ss ≡ i + 1 → ⊥) → at_top n es + 1 ≡ i → released (manager c n) ss es i ≡ outcome done (manager c n) ss (set es (n - 1) i)
unfolding released
released_end c n ss es i h d e = rw (lt-ltb 0 n h, ne_eqb (at_top n ss) (i + 1) d, eq-eqb (at_top n es + 1) i e)

pub released_apart : (c n : ℕ) (ss es : List ℕ) (i : ℕ) → 0 < n → (at_top n ss ≡ i + 1 → ⊥) → (at_top n es + 1 ≡ i → ⊥) → released (manager c n) ss es i ≡ pushed done c n ss es i i
unfolding released
released_apart c n ss es i h d e = rw (lt-ltb 0 n h, ne_eqb (at_top n ss) (i + 1) d, ne_eqb (at_top n es + 1) i e)

pub released_first : (c n : ℕ) (ss es : List ℕ) (i : ℕ) → n ≡ 0 → released (manager c n) ss es i ≡ pushed done c n ss es i i
unfolding released
released_first c n ss es i e = rw (le-ltb 0 n (omega arith))

-- What release leaves: index i is held once more, every other as before, and the stack is sound.
pub record Gave (c n : ℕ) (ss es : List ℕ) (i : ℕ) (o : Outcome) : Type 0 where
  pub answer : o.answer ≡ done
  pub capacity : o.manager.capacity ≡ c
  pub held : (k : ℕ) → holders o.manager.last_in_use o.starts o.ends k ≡ holders n ss es k + one (eqb k i)
  pub kept : Sound o.manager.capacity o.manager.last_in_use o.starts o.ends

module _ (c n : ℕ) (ss es : List ℕ) (i : ℕ) (s : Sound c n ss es) (l : i < c) (z : holders n ss es i ≡ 0) where
  start_held : 0 < n → at_top n ss ≡ i + 1 → (k : ℕ) → holders n (set ss (n - 1) i) es k ≡ holders n ss es k + one (eqb k i)
  start_held h e k =
      let first = inside_first i (at_top n es) k (omega (arith, s.bounds.ordered (n - 1) (omega arith))) in
      let same : one (inside (at_top n ss) (at_top n es) k) ≡ one (inside (i + 1) (at_top n es) k) = ap (λ (x : ℕ). one (inside x (at_top n es) k)) e in
      let new = top_start n ss es i k h s.starts_used in
      let old = holders_top n ss es k h in
      omega arith

  end_held : 0 < n → at_top n es + 1 ≡ i → (k : ℕ) → holders n ss (set es (n - 1) i) k ≡ holders n ss es k + one (eqb k i)
  end_held h e k =
      let last = rw e at (inside_last (at_top n ss) (at_top n es) k (s.bounds.ordered (n - 1) (omega arith))) in
      let new = top_end n ss es i k h s.ends_used in
      let old = holders_top n ss es k h in
      omega arith

  apart_held : (k : ℕ) → holders (n + 1) (set ss n i) (set es n i) k ≡ holders n ss es k + one (eqb k i)
  apart_held k =
      push n ss es i i k (omega (arith, room i s l z, s.starts_lent)) (omega (arith, room i s l z, s.ends_lent))
      ∙ ap (λ (x : ℕ). holders n ss es k + x) (inside_single i k)

  single_after : (n' : ℕ) (ss' es' : List ℕ) → ((k : ℕ) → holders n' ss' es' k ≡ holders n ss es k + one (eqb k i)) → (k : ℕ) → k < c → holders n' ss' es' k ≤ 1
  single_after n' ss' es' e k m = rw (e k) (single_more (holders n ss es) i k z (s.single k m))

  gave_start : 0 < n → at_top n ss ≡ i + 1 → Gave c n ss es i (outcome done (manager c n) (set ss (n - 1) i) es)
  gave_start h e =
      record {
        answer = refl;
        capacity = refl;
        held = start_held h e;
        kept =
            restacked n (set ss (n - 1) i) es s (length-set ss (n - 1) i) refl (entries_le_capacity s)
            (bounded_start i h s.starts_used (omega (arith, s.bounds.ordered (n - 1) (omega arith))) s.bounds)
            (single_after n (set ss (n - 1) i) es (start_held h e));
      }

  gave_end : 0 < n → at_top n es + 1 ≡ i → Gave c n ss es i (outcome done (manager c n) ss (set es (n - 1) i))
  gave_end h e =
      record {
        answer = refl;
        capacity = refl;
        held = end_held h e;
        kept =
            restacked n ss (set es (n - 1) i) s refl (length-set es (n - 1) i) (entries_le_capacity s)
            (bounded_end i h s.ends_used (omega (arith, s.bounds.ordered (n - 1) (omega arith))) l s.bounds)
            (single_after n ss (set es (n - 1) i) (end_held h e));
      }

  gave_apart : Gave c n ss es i (pushed done c n ss es i i)
  unfolding pushed
  gave_apart =
      let more = room i s l z in
      record {
        answer = refl;
        capacity = refl;
        held = apart_held;
        kept =
            restacked (n + 1) (set ss n i) (set es n i) s (length-set ss n i) (length-set es n i) (omega arith)
            (bounded_push i i (omega (arith, s.starts_lent)) (omega (arith, s.ends_lent)) (omega arith) l s.bounds)
            (single_after (n + 1) (set ss n i) (set es n i) apart_held);
      }

  pub gave : Gave c n ss es i (released (manager c n) ss es i)
  gave =
      elim (dec_lt 0 n) [
        | no g ↦ rw (released_first c n ss es i (omega arith)) gave_apart
        | yes h ↦
            elim (ℕ_discrete (at_top n ss) (i + 1)) [
              | yes e ↦ rw (released_start c n ss es i h e) (gave_start h e)
              | no d ↦
                  elim (ℕ_discrete (at_top n es + 1) i) [
                    | yes e ↦ rw (released_end c n ss es i h d e) (gave_end h e)
                    | no f ↦ rw (released_apart c n ss es i h d f) gave_apart
                  ]
            ]
      ]

-- after release exactly that index is free besides, one index more is free, and the manager stays well-formed
module _ (m : IntervalStoreManager) (ss es : List ℕ) (i : ℕ) (w : well_formed m ss es ≡ true) (l : i < m.capacity) (u : is_free m.last_in_use ss es i ≡ false) where
  abbrev after : Outcome
  after = released m ss es i

  what : Gave m.capacity m.last_in_use ss es i after
  what = gave m.capacity m.last_in_use ss es i (sound m ss es w) l (not_free_held m.last_in_use ss es i u)

  pub release_keeps : well_formed after.manager after.starts after.ends ≡ true
  release_keeps = sound_make after.manager after.starts after.ends what.kept

  pub release_free : (k : ℕ) → is_free after.manager.last_in_use after.starts after.ends k ≡ (is_free m.last_in_use ss es k || eqb k i)
  release_free k = free_more (eqb k i) m.last_in_use after.manager.last_in_use ss es after.starts after.ends k (what.held k)

  pub release_number : free_number m.capacity after.manager.last_in_use after.starts after.ends ≡ free_number m.capacity m.last_in_use ss es + 1
  release_number =
      let c = m.capacity in
      let n = m.last_in_use in
      let n' = after.manager.last_in_use in
      let more = sizes_one c i n n' ss es after.starts after.ends l what.held in
      let before = free_number_lem c n ss es (sound m ss es w).single in
      let now = free_number_lem c n' after.starts after.ends (λ k j. rw (what.held k) (single_more (holders n ss es) i k (not_free_held n ss es i u) ((sound m ss es w).single k j))) in
      omega arith
