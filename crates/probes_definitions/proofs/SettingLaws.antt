-- A product stays well-formed whatever set is taken.
use Rattle.std.specs.Prelude.{ℕ, Bool, true, false, List, ◌≡◌, refl, get_or}
use Rattle.std.proofs.Common.{arith, sym, subst, ◌∙◌}
use Rattle.interval_store_manager.specs.Calls.{Decided, go, refuse}
use Rattle.store_definitions.specs.Memory.{PointStore}
use Rattle.store_definitions.specs.Answers.{Answer, kept, waiting, done, is, says, refused, refused_after, Outcome, outcome}
use Rattle.store_definitions.specs.Parts.{base_of}
use Rattle.store_definitions.specs.Adding.{add_spec}
use Rattle.store_definitions.specs.WellFormed.{well_formed}
use Rattle.store_laws.specs.Cases.{by_cases}
use Rattle.store_laws.specs.AddingLaws.{add_keeps}
use Rattle.probes_definitions.specs.Memory.{PointProbes, store_of, last_floats}
use Rattle.probes_definitions.specs.Answers.{ProbesOutcome, probes_outcome}
use Rattle.probes_definitions.specs.Readings.{ProbeReading, absent, filled, tallied, of_kinds}
use Rattle.probes_definitions.specs.ReadingLaws.{tallied_length, estimates_most, tallied_at}
use Rattle.probes_definitions.specs.WellFormed.{probes_well_formed}
use Rattle.probes_definitions.specs.Setting.{tallied_with, set_added, set_decided, kinds_decided, then_set, set_checked, set_spec, set_kinds_spec}
use Rattle.probes_definitions.proofs.Sound.{ProbesSound, probes_sound, probes_sound_make}
use Rattle.probes_definitions.specs.WindowAfter.{SameShape, Unmoved, Moved, Leaves, add_leaves}

module _ {E : Type 0} (p : PointProbes E) (w : ProbesSound p) (set : List (ProbeReading E)) (point : List E) (q : PointStore E) (well : well_formed q ≡ true) where
  abbrev ts : List ℕ
  ts = p.header.tallies

  base_same : SameShape (store_of p) q → base_of q.header ≡ 8
  base_same s = rw (s.dimensions_same, s.shingle_same) w.base_eight

  moved_sound : (i : Answer) → Moved (store_of p) point q → tallied_with set i ts ≡ tallied set ts → ProbesSound (set_added p set (outcome i q)).after
  moved_sound i m e =
      record {
        well = well;
        base_eight = base_same m.shape;
        internal = m.shape.internal_same ∙ w.internal;
        eight_tallies = rw e (tallied_length set ts ∙ w.eight_tallies);
        tallies_most = λ k h. rw (e, m.sequence, tallied_at set ts k (omega (arith, w.eight_tallies))) (omega (arith, w.tallies_most k h, estimates_most (get_or set k absent)));
      }

  unmoved_sound : (i : Answer) → Unmoved (store_of p) q → tallied_with set i ts ≡ ts → ProbesSound (set_added p set (outcome i q)).after
  unmoved_sound i m e =
      record {
        well = well;
        base_eight = base_same m.shape;
        internal = m.shape.internal_same ∙ w.internal;
        eight_tallies = rw e w.eight_tallies;
        tallies_most = λ k h. rw (e, m.sequence) (w.tallies_most k h);
      }

  -- whatever the store's answer
  pub added_sound : (a : Answer) → Leaves (store_of p) point a q → ProbesSound (set_added p set (outcome a q)).after
  added_sound (kept i l laid left) m = moved_sound (kept i l laid left) m refl
  added_sound waiting m = moved_sound waiting m refl
  added_sound done m = unmoved_sound done m refl
  added_sound (is n) m = unmoved_sound (is n) m refl
  added_sound (says b) m = unmoved_sound (says b) m refl
  added_sound (refused n) m = unmoved_sound (refused n) m refl
  added_sound (refused_after n k) m = unmoved_sound (refused_after n k) m refl

module _ {E : Type 0} (eq : E → E → Bool) (zero_element : E) (p : PointProbes E) (set : List (ProbeReading E)) (code : ℕ) where
  -- a well-formed product goes on; an ill-formed one gives 1, and nothing is changed
  pub set_checks : probes_well_formed p ≡ true → set_spec eq zero_element p set code ≡ set_checked eq zero_element p set code
  unfolding set_spec
  set_checks e = rw e

  pub set_ill : probes_well_formed p ≡ false → set_spec eq zero_element p set code ≡ probes_outcome (refused 1) p
  unfolding set_spec
  set_ill e = rw e

  abbrev point : List E
  point = filled set (last_floats (store_of p))

  abbrev o : Outcome E
  o = add_spec eq zero_element (store_of p) point code

  pub checked_sound : ProbesSound p → ProbesSound (set_checked eq zero_element p set code).after
  unfolding set_checked
  checked_sound w = split (set_decided p set)
    where
      split : (d : Decided) → ProbesSound (then_set d p (set_added p set o)).after
      split go =
          added_sound p w set point o.after (add_keeps eq zero_element (store_of p) point code w.well) o.answer
          (add_leaves eq zero_element (store_of p) point code)
      split (refuse n) = w

  pub set_sound : ProbesSound p → ProbesSound (set_spec eq zero_element p set code).after
  set_sound w = subst (λ (o : ProbesOutcome E). ProbesSound o.after) (sym (set_checks (probes_sound_make p w))) (checked_sound w)

  -- a set, kept, waiting or refused, keeps a product well-formed
  pub set_keeps : probes_well_formed p ≡ true → probes_well_formed (set_spec eq zero_element p set code).after ≡ true
  set_keeps e = probes_sound_make (set_spec eq zero_element p set code).after (set_sound (probes_sound p e))

-- kinds that stand for readings are that set; others are no set, and nothing is changed
module _ {E : Type 0} (eq : E → E → Bool) (zero_element : E) (p : PointProbes E) (kinds : List ℕ) (xs : List E) (code : ℕ) where
  pub kinds_set : kinds_decided kinds xs ≡ go → set_kinds_spec eq zero_element p kinds xs code ≡ set_spec eq zero_element p (of_kinds kinds xs) code
  unfolding set_kinds_spec set_spec
  kinds_set e = rw e

  pub kinds_none : (n : ℕ) → kinds_decided kinds xs ≡ refuse n → (set_kinds_spec eq zero_element p kinds xs code).after ≡ p
  unfolding set_kinds_spec
  kinds_none n e = rw e (by_cases (λ o. o.after ≡ p) (probes_well_formed p) (probes_outcome (refused n) p) (probes_outcome (refused 1) p) (λ w. refl) (λ w. refl))
