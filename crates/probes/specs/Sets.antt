-- A set as its code takes it: judged, filled, added, tallied.
use Rattle.std.specs.Prelude.{ℕ, ◌-◌, ◌≤◌, ◌<◌, Bool, true, false, cond, not, ◌≡◌, refl, length, get_or, take, drop, eqb, is_ok, Option, Some, None, Result, Ok, Err}
use Rattle.terms.specs.Refusals.{number}
use Rattle.terms.specs.declared.Refusal.{Refusal}
use Rattle.store_definitions.specs.declared.Kept.{Kept}
use Rattle.std.proofs.Common.{arith, sym, subst, ◌∙◌}
use mathlib.Core.List.{List}
use Rattle.std.proofs.Math.Path.{ap}
use borrow.Author.Tests.{eqb-true, not-false}
use Rattle.interval_store_manager.specs.Calls.{Decided, go, refuse}
use Rattle.store_definitions.specs.Memory.{PointStore}
use Rattle.store_definitions.specs.Answers.{Answer, kept, waiting, done, is, says, refused, refused_after, added_means, Outcome, outcome}
use Rattle.store_definitions.specs.Decisions.{and_then, refuse_if}
use Rattle.store_definitions.specs.Adding.{add_spec}
use Rattle.store_laws.specs.DecisionLaws.{both_go, not_refused}
use Rattle.store_laws.specs.Sound.{sound}
use Rattle.probes_definitions.specs.declared.Reading.{Reading}
use Rattle.probes_definitions.specs.Memory.{PointProbes, point_probes, store_of, last_floats}
use Rattle.probes_definitions.specs.Answers.{ProbesOutcome, probes_outcome}
use Rattle.probes_definitions.specs.Readings.{ProbeReading, filled, of_kinds, of_floats}
use Rattle.probes_definitions.specs.WellFormed.{probes_well_formed}
use Rattle.probes_definitions.specs.Setting.{set_added, set_decided, kinds_decided, then_set, set_checked, set_spec, set_kinds_spec}
use Rattle.probes_definitions.proofs.Sound.{probes_sound}
use Rattle.probes_definitions.specs.WindowAfter.{Leaves, add_leaves, eight_wide}
use Rattle.probes_definitions.proofs.SettingLaws.{kinds_set}
use Rattle.probe_readings.specs.Kinds.{kinds_of, words_of, set_same, floats_decided, tallied_kinds, is_accepted, tallied_answer, tallied_if}
use Rattle.probe_readings.specs.Deciding.{set_asked, asked_is}

module _ {E : Type 0} (eq : E → E → Bool) (zero_element : E) (p : PointProbes E) (kinds : List ℕ) (xs : List E) (code : ℕ) where
  abbrev set : List (ProbeReading E)
  set = of_kinds kinds xs

  abbrev point : List E
  point = filled set (last_floats (store_of p))

  abbrev added : Outcome E
  added = add_spec eq zero_element (store_of p) point code

  abbrev asked : Decided
  asked = set_asked p.header.store.next_sequence_index kinds (length xs)

  -- ---- the ways out before the store's add

  pub words_ill : probes_well_formed p ≡ false → probes_outcome (refused 1) p ≡ set_kinds_spec eq zero_element p kinds xs code
  unfolding set_kinds_spec
  words_ill e = rw e

  twice : (a b : Decided) (o : ProbesOutcome E) → then_set a p (then_set b p o) ≡ then_set (and_then a b) p o
  twice go b o = refl
  twice (refuse n) b o = refl

  judged : probes_well_formed p ≡ true → set_kinds_spec eq zero_element p kinds xs code ≡ then_set asked p (set_added p set added)
  unfolding set_kinds_spec set_checked
  judged e = rw e (twice (kinds_decided kinds xs) (set_decided p set) (set_added p set added) ∙ ap (λ (d : Decided). then_set d p (set_added p set added)) (sym (asked_is p kinds xs)))

  pub words_refused : probes_well_formed p ≡ true → (n : ℕ) → asked ≡ refuse n → probes_outcome (refused n) p ≡ set_kinds_spec eq zero_element p kinds xs code
  words_refused e n q = sym (judged e ∙ ap (λ (d : Decided). then_set d p (set_added p set added)) q)

  pub words_go : probes_well_formed p ≡ true → asked ≡ go → set_added p set added ≡ set_kinds_spec eq zero_element p kinds xs code
  words_go e q = sym (judged e ∙ ap (λ (d : Decided). then_set d p (set_added p set added)) q)

  pub eight_each : asked ≡ go → (length kinds ≡ 8) × (length xs ≡ 8)
  unfolding set_asked
  eight_each q =
      let a = both_go (refuse_if (not (eqb (length kinds) 8)) 3) _ q in
      let b = both_go (refuse_if (not (eqb (length xs) 8)) 3) _ a.1 in
      (eqb-true (length kinds) 8 (not-false (eqb (length kinds) 8) (not_refused _ 3 a.0)), eqb-true (length xs) 8 (not-false (eqb (length xs) 8) (not_refused _ 3 b.0)))

  -- ---- the store's add

  -- of the set filled from the window's last eight
  pub add_of : (ys : List E) → ys ≡ filled set (drop (p.header.store.dimensions - 8) (take p.header.store.dimensions p.memory.last_known_shingle)) → (o : Outcome E) → o ≡ add_spec eq zero_element (store_of p) ys code → o ≡ added
  unfolding last_floats
  add_of ys e o d = d ∙ ap (λ (zs : List E). add_spec eq zero_element (store_of p) zs code) e

  module _ (e : probes_well_formed p ≡ true) where
    -- the window has the last floats
    pub window_enough : (8 ≤ p.header.store.dimensions) × (p.header.store.dimensions ≤ length p.memory.last_known_shingle)
    window_enough =
        let w = probes_sound p e in
        let s = sound (store_of p) w.well in
        (eight_wide (store_of p) s w.base_eight, s.lent.window_lent)

    module _ (a : Answer) (q : PointStore E) (d : outcome a q ≡ added) where
      leaves : Leaves (store_of p) point a q
      leaves = subst (λ (o : Outcome E). Leaves (store_of p) point o.answer o.after) (sym d) (add_leaves eq zero_element (store_of p) point code)

      -- an accepted set leaves room for one more in every tally
      pub answer_room : is_accepted a ≡ true → (k : ℕ) → k < 8 → get_or p.header.tallies k 0 < 4294967295
      answer_room t k h =
          let w = probes_sound p e in
          let most = (sound (store_of p) w.well).sequence_most in
          let below = w.tallies_most k h in
          let open_yet = unfinished a leaves t in
          omega (arith, most, below, open_yet)
        where
          unfinished : (x : Answer) → Leaves (store_of p) point x q → is_accepted x ≡ true → p.header.store.next_sequence_index ≡ 4294967295 → ⊥
          unfinished (kept i l laid left) m y = m.unfinished
          unfinished waiting m y = m.unfinished
          unfinished done m y = absurd (let z : ◌≡◌ {A = ℕ} 0 1 = cc in omega arith)
          unfinished (is n) m y = absurd (let z : ◌≡◌ {A = ℕ} 0 1 = cc in omega arith)
          unfinished (says b) m y = absurd (let z : ◌≡◌ {A = ℕ} 0 1 = cc in omega arith)
          unfinished (refused n) m y = absurd (let z : ◌≡◌ {A = ℕ} 0 1 = cc in omega arith)
          unfinished (refused_after n j) m y = absurd (let z : ◌≡◌ {A = ℕ} 0 1 = cc in omega arith)

      pub answer_set : length kinds ≡ length xs → (b : Bool) → b ≡ is_accepted a → (ts : List ℕ) → ts ≡ cond b (tallied_kinds kinds p.header.tallies) p.header.tallies
          → probes_outcome a (point_probes (record { store = q.header; tallies = ts }) q.memory) ≡ set_added p set added
      answer_set same b f ts g =
          ap (λ (x : List ℕ). probes_outcome a (point_probes (record { store = q.header; tallies = x }) q.memory))
          (g ∙ ap (λ (x : Bool). cond x (tallied_kinds kinds p.header.tallies) p.header.tallies) f ∙ tallied_answer kinds xs p.header.tallies a same)
          ∙ ap (λ (o : Outcome E). set_added p set o) d

    -- the same of the answer that the store's add gives
    module _ (answer : Result (Option Kept) Refusal) (q : PointStore E) (d : outcome (added_means answer) q ≡ added) where
      pub tally_room : (given : Option Kept) → answer ≡ Ok given → (k : ℕ) → k < 8 → get_or p.header.tallies k 0 < 4294967295
      tally_room given f = answer_room (added_means answer) q d (accepted given f)
        where
          accepted : (k : Option Kept) → answer ≡ Ok k → is_accepted (added_means answer) ≡ true
          accepted (Some k) f = ap (λ (r : Result (Option Kept) Refusal). is_accepted (added_means r)) f
          accepted None f = ap (λ (r : Result (Option Kept) Refusal). is_accepted (added_means r)) f

      set_after : (r : Result (Option Kept) Refusal) → answer ≡ r → length kinds ≡ length xs
          → probes_outcome (added_means r) (point_probes (record { store = q.header; tallies = cond (is_ok r) (tallied_kinds kinds p.header.tallies) p.header.tallies }) q.memory) ≡ set_added p set added
      set_after r f same =
          ap (λ (ts : List ℕ). probes_outcome (added_means r) (point_probes (record { store = q.header; tallies = ts }) q.memory)) (tallied_if kinds xs p.header.tallies r same)
          ∙ ap (λ (x : Result (Option Kept) Refusal). set_added p set (outcome (added_means x) q)) (sym f)
          ∙ ap (λ (o : Outcome E). set_added p set o) d

      pub set_done : length kinds ≡ length xs → (given : Option Kept) → answer ≡ Ok given → (ts : List ℕ) → ts ≡ tallied_kinds kinds p.header.tallies
          → probes_outcome (added_means (Ok given)) (point_probes (record { store = q.header; tallies = ts }) q.memory) ≡ set_added p set added
      set_done same given f ts g =
          ap (λ (x : List ℕ). probes_outcome (added_means (Ok given)) (point_probes (record { store = q.header; tallies = x }) q.memory)) g
          ∙ set_after (Ok given) f same

      pub set_failed : length kinds ≡ length xs → (why : Refusal) → answer ≡ Err why
          → probes_outcome (refused (number why)) (point_probes (record { store = q.header; tallies = p.header.tallies }) q.memory) ≡ set_added p set added
      set_failed same why f = set_after (Err why) f same

-- eight floats as kinds and words
pub floats_set : (eq : ℕ → ℕ → Bool) (p : PointProbes ℕ) (readings : List Reading) (code : ℕ) → length readings ≡ 8 → set_kinds_spec eq 0 p (kinds_of readings) (words_of readings) code ≡ set_spec eq 0 p (of_floats readings) code
floats_set eq p readings code e =
    kinds_set eq 0 p (kinds_of readings) (words_of readings) code (floats_decided readings e)
    ∙ ap (λ (x : List (ProbeReading ℕ)). set_spec eq 0 p x code) (set_same readings)
