-- 'A set of eight readings becomes one add with internal shingling, and a set that is refused alters no tally and no last float.'
use Rattle.std.specs.Prelude.{ℕ, Bool, cond, not, ◌&&◌, List, length, eqb}
use Rattle.interval_store_manager.specs.Calls.{Decided, go, refuse}
use Rattle.store_definitions.specs.Answers.{Answer, kept, waiting, done, is, says, refused, refused_after, Outcome}
use Rattle.store_definitions.specs.Decisions.{and_then, refuse_if}
use Rattle.store_definitions.specs.Adding.{add_spec}
use Rattle.probes_definitions.specs.Memory.{PointProbes, store_of, last_floats}
use Rattle.probes_definitions.specs.Answers.{ProbesOutcome, probes_outcome}
use Rattle.probes_definitions.specs.Readings.{ProbeReading, any_absent, filled, tallied, of_kinds, any_above}
use Rattle.probes_definitions.specs.WellFormed.{probes_well_formed}

module _ {E : Type 0} where
  -- the tallies after a set with this answer: an accepted one, kept or waiting, is tallied
  abbrev pub tallied_with : List (ProbeReading E) → Answer → List ℕ → List ℕ
  tallied_with set (kept i l laid left) ts = tallied set ts
  tallied_with set waiting ts = tallied set ts
  tallied_with set done ts = ts
  tallied_with set (is n) ts = ts
  tallied_with set (says b) ts = ts
  tallied_with set (refused n) ts = ts
  tallied_with set (refused_after n k) ts = ts

  -- the product after its store's add
  abbrev pub set_added : PointProbes E → List (ProbeReading E) → Outcome E → ProbesOutcome E
  set_added p set o =
      probes_outcome o.answer
      (record {
        header = record { store = o.after.header; tallies = tallied_with set o.answer p.header.tallies };
        memory = o.after.memory;
      })

  -- 'An Absent with no earlier reading of that probe gets 16'; 'a probe has an earlier reading once the store's sequence is above 0'
  unfoldable pub no_earlier : PointProbes E → List (ProbeReading E) → Bool
  no_earlier p set = any_absent set && eqb p.header.store.next_sequence_index 0

  -- a set has eight readings, else 3; then 16, 'after every check for 1 and before 12'
  unfoldable pub set_decided : PointProbes E → List (ProbeReading E) → Decided
  set_decided p set = and_then (refuse_if (not (eqb (length set) 8)) 3) (refuse_if (no_earlier p set) 16)

  -- readings as kinds and elements: eight of each, else 3; then 11 for a kind above 2
  unfoldable pub kinds_decided : List ℕ → List E → Decided
  kinds_decided kinds xs =
      and_then (refuse_if (not (eqb (length kinds) 8)) 3)
      (and_then (refuse_if (not (eqb (length xs) 8)) 3) (refuse_if (any_above 2 kinds) 11))

  abbrev pub then_set : Decided → PointProbes E → ProbesOutcome E → ProbesOutcome E
  then_set go p o = o
  then_set (refuse n) p o = probes_outcome (refused n) p

module _ {E : Type 0} (eq : E → E → Bool) (zero_element : E) where
  -- what follows the check for 1: the store has the rest of the order, 12, 4 and, if kept, 8, 9, 10
  unfoldable pub set_checked : PointProbes E → List (ProbeReading E) → ℕ → ProbesOutcome E
  set_checked p set code =
      then_set (set_decided p set) p (set_added p set (add_spec eq zero_element (store_of p) (filled set (last_floats (store_of p))) code))

  unfoldable pub set_spec : PointProbes E → List (ProbeReading E) → ℕ → ProbesOutcome E
  set_spec p set code = cond (probes_well_formed p) (set_checked p set code) (probes_outcome (refused 1) p)

  unfoldable pub set_kinds_spec : PointProbes E → List ℕ → List E → ℕ → ProbesOutcome E
  set_kinds_spec p kinds xs code =
      cond (probes_well_formed p) (then_set (kinds_decided kinds xs) p (set_checked p (of_kinds kinds xs) code)) (probes_outcome (refused 1) p)
