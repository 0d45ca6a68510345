-- Laws of new and of a change upwards, for every capacity and stack: both push one interval that was held nowhere.
use Rattle.std.specs.Prelude.{ℕ, zero, suc, ◌+◌, ◌-◌, ◌≤◌, ◌<◌, List, true, ◌||◌, ◌≡◌, refl, length, get_or, set}
use native.Mathlib.Omega.{arith}
use Rattle.std.proofs.Math.Decide.{dec_lt}
use Rattle.std.proofs.Math.Bool.{or-true}
use Rattle.std.proofs.Common.{◌∙◌, length-set, lt-ltb, le-ltb}
use Rattle.terms.specs.Below.{one, one_le, sum_same, sum_add, sum_beyond}
use Rattle.interval_store_manager.specs.declared.IntervalStoreManager.{IntervalStoreManager}
use Rattle.interval_store_manager.specs.Intervals.{inside, holders, is_free, free_number}
use Rattle.interval_store_manager.specs.WellFormed.{well_formed}
use Rattle.interval_store_manager.specs.Answers.{Outcome, outcome, done}
use Rattle.interval_store_manager.specs.Calls.{manager, pushed, changed}
use Rattle.interval_store_manager.specs.IntervalLaws.{inside_left, inside_right, inside_yes, interval_size}
use Rattle.interval_store_manager.specs.StackLaws.{Bounded, sizes, free_number_lem}
use Rattle.interval_store_manager.specs.Sound.{Sound, sound, sound_make, entries_le_capacity, free_le_capacity}
use Rattle.interval_store_manager.specs.TopLaws.{push, bounded_fewer, bounded_wider, bounded_push}
use Rattle.interval_store_manager.specs.FreeLaws.{free_more}

-- no interval of a stack holds an index from its capacity on
beyond : (c n : ℕ) (ss es : List ℕ) (k : ℕ) → Bounded c n ss es → c ≤ k → holders n ss es k ≡ 0
unfolding holders
beyond c zero ss es k b h = refl
beyond c (suc n) ss es k b h =
    rw (beyond c n ss es k (bounded_fewer n (omega arith) b) h, inside_right (get_or ss n 0) (get_or es n 0) k (omega (arith, b.below n (omega arith))))

-- What pushing [c, d − 1] on a stack below c leaves, at capacity d.
module _ (c d n : ℕ) (ss es : List ℕ) (b : Bounded c n ss es) (f : (i : ℕ) → i < c → holders n ss es i ≤ 1) (l : c < d) (m : d ≤ 1024) (g : d ≤ length ss) (h : d ≤ length es) (u : n ≤ c) where
  abbrev ss' : List ℕ
  ss' = set ss n c

  abbrev es' : List ℕ
  es' = set es n (d - 1)

  wider_held : (k : ℕ) → holders (n + 1) ss' es' k ≡ holders n ss es k + one (inside c (d - 1) k)
  wider_held k = push n ss es c (d - 1) k (omega arith) (omega arith)

  wider_single : (k : ℕ) → holders (n + 1) ss' es' k ≤ 1
  wider_single k =
      rw (wider_held k)
      (elim (dec_lt k c) [
        | yes p ↦ rw (inside_left c (d - 1) k p) (omega (arith, f k p))
        | no q ↦ rw (beyond c n ss es k b (omega arith)) (omega (arith, one_le (inside c (d - 1) k)))
      ])

  wider : Sound d (n + 1) ss' es'
  wider =
      record {
        least = omega arith;
        most = m;
        starts_lent = rw (length-set ss n c) g;
        ends_lent = rw (length-set es n (d - 1)) h;
        starts_used = rw (length-set ss n c) (omega arith);
        ends_used = rw (length-set es n (d - 1)) (omega arith);
        bounds = bounded_push c (d - 1) (omega arith) (omega arith) (omega arith) (omega arith) (bounded_wider d (omega arith) b);
        single = λ i p. wider_single i;
      }

  wider_sizes : sizes d (n + 1) ss' es' ≡ sizes c n ss es + (d - c)
  unfolding sizes
  wider_sizes =
      let more = sum_add d (holders n ss es) (λ k. one (inside c (d - 1) k)) in
      let same = sum_beyond c d (holders n ss es) (λ k p. beyond c n ss es k b p) (omega arith) in
      let size = interval_size d c (d - 1) (omega arith) (omega arith) in
      let all = sum_same d (holders (n + 1) ss' es') (λ k. holders n ss es k + one (inside c (d - 1) k)) (λ k p. wider_held k) in
      omega arith

  wider_number : free_number d (n + 1) ss' es' ≡ free_number c n ss es + (d - c)
  wider_number =
      let now = free_number_lem d (n + 1) ss' es' (λ i p. wider_single i) in
      let before = free_number_lem c n ss es f in
      omega (arith, wider_sizes)

pub changed_up : (c n : ℕ) (ss es : List ℕ) (d : ℕ) → c < d → changed (manager c n) ss es d ≡ pushed done d n ss es c (d - 1)
unfolding changed
changed_up c n ss es d h = rw (lt-ltb c d h)

pub changed_not : (c n : ℕ) (ss es : List ℕ) (d : ℕ) → d ≤ c → changed (manager c n) ss es d ≡ outcome done (manager c n) ss es
unfolding changed
changed_not c n ss es d h = rw (le-ltb c d h)

-- after a change upwards exactly the new indices are free besides, and the manager stays well-formed
module _ (m : IntervalStoreManager) (ss es : List ℕ) (d : ℕ) (w : well_formed m ss es ≡ true) (l : m.capacity < d) (u : d ≤ 1024) (g : d ≤ length ss) (h : d ≤ length es) where
  abbrev c : ℕ
  c = m.capacity

  abbrev n : ℕ
  n = m.last_in_use

  s : Sound c n ss es
  s = sound m ss es w

  abbrev after : Outcome
  after = changed m ss es d

  pub change_keeps : well_formed after.manager after.starts after.ends ≡ true
  unfolding pushed
  change_keeps =
      rw (changed_up c n ss es d l)
      (sound_make (manager d (n + 1)) (set ss n c) (set es n (d - 1)) (wider c d n ss es s.bounds s.single l u g h (entries_le_capacity s)))

  pub change_free : (k : ℕ) → is_free after.manager.last_in_use after.starts after.ends k ≡ (is_free n ss es k || inside c (d - 1) k)
  unfolding pushed
  change_free k =
      rw (changed_up c n ss es d l)
      (free_more (inside c (d - 1) k) n (n + 1) ss es (set ss n c) (set es n (d - 1)) k
      (wider_held c d n ss es s.bounds s.single l u g h (entries_le_capacity s) k))

  pub change_number : free_number d after.manager.last_in_use after.starts after.ends ≡ free_number c n ss es + (d - c)
  unfolding pushed
  change_number = rw (changed_up c n ss es d l) (wider_number c d n ss es s.bounds s.single l u g h (entries_le_capacity s))

-- a new manager is well-formed, and every index below its capacity is free
module _ (d : ℕ) (ss es : List ℕ) (l : 0 < d) (u : d ≤ 1024) (g : d ≤ length ss) (h : d ≤ length es) where
  nothing : Bounded 0 0 ss es
  nothing = record { ordered = λ j p. absurd (omega arith); below = λ j p. absurd (omega arith) }

  pub new_well_formed : well_formed (manager d 1) (set ss 0 0) (set es 0 (d - 1)) ≡ true
  new_well_formed = sound_make (manager d 1) (set ss 0 0) (set es 0 (d - 1)) (wider 0 d 0 ss es nothing (λ i p. absurd (omega arith)) l u g h (omega arith))

  pub new_free : (k : ℕ) → k < d → is_free 1 (set ss 0 0) (set es 0 (d - 1)) k ≡ true
  new_free k p =
      free_more (inside 0 (d - 1) k) 0 1 ss es (set ss 0 0) (set es 0 (d - 1)) k
      (wider_held 0 d 0 ss es nothing (λ i p. absurd (omega arith)) l u g h (omega arith) k)
      ∙ (rw (inside_yes 0 (d - 1) k (omega arith) (omega arith)) (or-true (is_free 0 ss es k)))

  pub new_number : free_number d 1 (set ss 0 0) (set es 0 (d - 1)) ≡ d
  new_number =
      let none = free_le_capacity 0 0 ss es in
      omega (arith, wider_number 0 d 0 ss es nothing (λ i p. absurd (omega arith)) l u g h (omega arith))
