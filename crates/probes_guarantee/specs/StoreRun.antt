-- A product's run as a run of the store inside: one set more.
use Rattle.std.specs.Prelude.{ℕ, ◌+◌, ◌<◌, Bool, cond, not, List, ◌∷◌, ◌≡◌, length, get_or, eqb}
use Rattle.std.proofs.Common.{arith, sym, ap, ◌∙◌}
use Rattle.std.proofs.Math.Bool.{true, false}
use Rattle.std.proofs.Math.Path.{refl}
use Rattle.store_definitions.specs.declared.Shape.{Shape}
use Rattle.store_definitions.specs.Memory.{PointStore}
use Rattle.store_definitions.specs.Answers.{Answer, kept, waiting, done, is, says, refused, refused_after, outcome}
use Rattle.store_definitions.specs.Decisions.{and_then, refuse_if}
use Rattle.store_definitions.specs.Adding.{add_spec}
use Rattle.store_definitions.specs.WellFormed.{well_formed}
use Rattle.store_laws.specs.Sound.{sound}
use Rattle.guarantee.specs.Run.{Call, add, after}
use Rattle.guarantee.specs.History.{History, history, recorded, changed_by, points_with}
use Rattle.probes_definitions.specs.Memory.{PointProbes, store_of, last_floats}
use Rattle.probes_definitions.specs.Answers.{ProbesOutcome, probes_outcome}
use Rattle.probes_definitions.specs.Readings.{ProbeReading, absent, estimates, filled, tallied}
use Rattle.probes_definitions.specs.ReadingLaws.{tallied_at}
use Rattle.probes_definitions.specs.Setting.{tallied_with, set_added, no_earlier, set_decided, then_set, set_checked}
use Rattle.probes_definitions.proofs.Sound.{ProbesSound}
use Rattle.probes_definitions.specs.WindowAfter.{Unmoved, Moved, Leaves, last_moved, last_unmoved}
use Rattle.probes_definitions.proofs.SettingLaws.{added_sound}
use Rattle.probes_guarantee.specs.History.{estimates_with, last_of}

-- a checked set, by the two tests before the store's add
module _ {E : Type 0} (eq : E → E → Bool) (zero_element : E) (p : PointProbes E) (set : List (ProbeReading E)) (code : ℕ) where
  abbrev checked_as : (eight_readings absent_first : Bool) → ProbesOutcome E
  checked_as eight none =
      cond eight
      (cond none (probes_outcome (refused 16) p) (set_added p set (add_spec eq zero_element (store_of p) (filled set (last_floats (store_of p))) code)))
      (probes_outcome (refused 3) p)

  pub checked_as_lem : set_checked eq zero_element p set code ≡ checked_as (eqb (length set) 8) (no_earlier p set)
  unfolding set_checked set_decided
  checked_as_lem = split (eqb (length set) 8) (no_earlier p set)
    where
      split : (b c : Bool) → then_set (and_then (refuse_if (not b) 3) (refuse_if c 16)) p (set_added p set (add_spec eq zero_element (store_of p) (filled set (last_floats (store_of p))) code)) ≡ checked_as b c
      split true true = refl
      split true false = refl
      split false c = refl

module _ {E : Type 0} (eq : E → E → Bool) (zero_element : E) (s : Shape) (start : PointStore E) where
  abbrev past : List (Call E) → History E
  past calls = history eq zero_element s start calls

  -- how a product stands to the store's calls, to the filled sets and to the Estimated readings
  pub record Follows (p : PointProbes E) (calls : List (Call E)) (points : List (List E)) (counts : ℕ → ℕ) : Type 0 where
    pub probes_well : ProbesSound p
    pub run : store_of p ≡ after eq zero_element start calls
    pub sequence : p.header.store.next_sequence_index ≡ length points
    pub last : last_floats (store_of p) ≡ last_of zero_element points
    pub points_same : (past calls).points ≡ points
    pub tallies_same : (k : ℕ) → k < 8 → get_or p.header.tallies k 0 ≡ counts k

  module _ (p : PointProbes E) (calls : List (Call E)) (points : List (List E)) (counts : ℕ → ℕ) (f : Follows p calls points counts) (set : List (ProbeReading E)) (point : List E) (sized : length point ≡ 8) (code : ℕ) (q : PointStore E) (well : well_formed q ≡ true) (added : after eq zero_element start (add point code ∷ calls) ≡ q) where
    abbrev then : List (Call E)
    then = add point code ∷ calls

    abbrev recorded_with : Answer → History E
    recorded_with a = recorded s (add point code) calls a (past calls)

    abbrev FollowsWith : Answer → Type 0
    FollowsWith a = Follows (set_added p set (outcome a q)).after then (points_with point a points) (λ k. estimates_with set a k (counts k))

    -- an accepted set
    taken : (a : Answer) → past then ≡ recorded_with a → Moved (store_of p) point q → ProbesSound (set_added p set (outcome a q)).after → (recorded_with a).points ≡ point ∷ (past calls).points
        → tallied_with set a p.header.tallies ≡ tallied set p.header.tallies → Follows (set_added p set (outcome a q)).after then (point ∷ points) (λ k. counts k + estimates (get_or set k absent))
    taken a hist m w pts e =
        record {
          probes_well = w;
          run = sym added;
          sequence = m.sequence ∙ (let n : p.header.store.next_sequence_index + 1 ≡ length (point ∷ points) = omega (arith, f.sequence) in n);
          last = last_moved (store_of p) (sound (store_of p) f.probes_well.well) f.probes_well.base_eight f.probes_well.internal point sized q m;
          points_same = ap (λ (x : History E). x.points) hist ∙ pts ∙ ap (λ (x : List (List E)). point ∷ x) f.points_same;
          tallies_same = λ k h.
              ap (λ (ts : List ℕ). get_or ts k 0) e
              ∙ tallied_at set p.header.tallies k (omega (arith, f.probes_well.eight_tallies))
              ∙ ap (λ (n : ℕ). n + estimates (get_or set k absent)) (f.tallies_same k h);
        }

    -- a refused one
    left : (a : Answer) → past then ≡ recorded_with a → Unmoved (store_of p) q → ProbesSound (set_added p set (outcome a q)).after → (recorded_with a).points ≡ (past calls).points
        → tallied_with set a p.header.tallies ≡ p.header.tallies → Follows (set_added p set (outcome a q)).after then points counts
    left a hist m w pts e =
        record {
          probes_well = w;
          run = sym added;
          sequence = m.sequence ∙ f.sequence;
          last = last_unmoved (store_of p) q m ∙ f.last;
          points_same = ap (λ (x : History E). x.points) hist ∙ pts ∙ f.points_same;
          tallies_same = λ k h. ap (λ (ts : List ℕ). get_or ts k 0) e ∙ f.tallies_same k h;
        }

    -- whatever the store's answer
    pub set_follows : (a : Answer) → past then ≡ recorded_with a → Leaves (store_of p) point a q → FollowsWith a
    unfolding recorded changed_by
    set_follows (kept i l laid free) hist m = taken (kept i l laid free) hist m (added_sound p f.probes_well set point q well (kept i l laid free) m) refl refl
    set_follows waiting hist m = taken waiting hist m (added_sound p f.probes_well set point q well waiting m) refl refl
    set_follows done hist m = left done hist m (added_sound p f.probes_well set point q well done m) refl refl
    set_follows (is n) hist m = left (is n) hist m (added_sound p f.probes_well set point q well (is n) m) refl refl
    set_follows (says b) hist m = left (says b) hist m (added_sound p f.probes_well set point q well (says b) m) refl refl
    set_follows (refused n) hist m = left (refused n) hist m (added_sound p f.probes_well set point q well (refused n) m) refl refl
    set_follows (refused_after n k) hist m = left (refused_after n k) hist m (added_sound p f.probes_well set point q well (refused_after n k) m) refl refl
