-- The readings of a hold: the held indices in order, and how many they are. Copy, count and the others are the store's, on the
-- record inside.
use Rattle.std.specs.Prelude.{ℕ, cond, not, List, length, eqb}
use Rattle.interval_store_manager.specs.Calls.{Decided, go, refuse}
use Rattle.store_definitions.specs.Answers.{Answer, Output}
use Rattle.store_definitions.specs.Decisions.{and_then, refuse_if, reads, writes}
use Rattle.hold_definitions.specs.Memory.{PointHold, indices_of}
use Rattle.hold_definitions.specs.WellFormed.{hold_well_formed}

module _ {E : Type 0} where
  -- 1
  unfoldable pub hold_form_decided : PointHold E → Decided
  hold_form_decided h = cond (hold_well_formed h) go (refuse 1)

  -- 'An output slice is exactly as long as its answer', else 3
  unfoldable pub held_spec : PointHold E → List ℕ → Output ℕ
  held_spec h out =
      writes (and_then (hold_form_decided h) (refuse_if (not (eqb (length out) h.header.held)) 3)) out (indices_of h)

  unfoldable pub held_number_spec : PointHold E → Answer
  held_number_spec h = reads (hold_form_decided h) h.header.held
