-- Opening a hold: its store, its width, and an empty list.
use Rattle.std.specs.Prelude.{ℕ, not, List, Result, Ok, Err}
use Rattle.terms.specs.Refusals.{number}
use Rattle.terms.specs.declared.Refusal.{Refusal}
use Rattle.interval_store_manager.specs.Calls.{Decided, go, refuse}
use Rattle.store_definitions.specs.declared.Shape.{Shape}
use Rattle.store_definitions.specs.Memory.{PointStore}
use Rattle.store_definitions.specs.Decisions.{and_then, refuse_if}
use Rattle.store_definitions.specs.Answers.{done, refused}
use Rattle.store_definitions.specs.Opening.{shape_allowed, open_decided, no_record, opened}
use Rattle.hold_definitions.specs.declared.Hold.{Hold}
use Rattle.hold_definitions.specs.Memory.{HoldMemory, PointHold, point_hold}
use Rattle.hold_definitions.specs.Answers.{HoldOutcome, hold_outcome}
use Rattle.hold_definitions.specs.WellFormed.{width_allowed, tables_lent}

-- 2, then 15, then 1, then 17: 'A width of 0, or one not below capacity, gets 15 after the shape check.'
unfoldable pub hold_open_decided : {E : Type 0} → Shape → ℕ → (text : List ℕ) → HoldMemory E → Decided
hold_open_decided s width text m =
    and_then (refuse_if (not (shape_allowed s)) 2)
    (and_then (refuse_if (not (width_allowed width s.capacity)) 15)
    (and_then (refuse_if (not (tables_lent s.capacity s.store_labels m)) 1) (open_decided s text m.store)))

-- nothing is held; the two tables keep what they held
abbrev pub fresh_hold : {E : Type 0} → ℕ → PointStore E → HoldMemory E → PointHold E
fresh_hold width p m =
    record {
      header = record { store = p.header; width = width; held = 0 };
      memory = record { store = p.memory; held_indices = m.held_indices; held_labels = m.held_labels };
    }

-- the record of zeros, where there is no hold
abbrev pub no_hold : Hold
no_hold = record { store = no_record; width = 0; held = 0 }

-- what an opening answers, with the hold and the memory after it
abbrev pub hold_opened : {E : Type 0} → Result Hold Refusal → HoldMemory E → HoldOutcome E
hold_opened (Ok h) m = hold_outcome done (point_hold h m)
hold_opened (Err r) m = hold_outcome (refused (number r)) (point_hold no_hold m)

module _ {E : Type 0} (zero_element : E) where
  -- a refused opening gives the record of zeros, and the memory as it was
  abbrev pub hold_open_carried_out : Decided → Shape → ℕ → (text : List ℕ) → HoldMemory E → HoldOutcome E
  hold_open_carried_out go s width text m = hold_outcome done (fresh_hold width (opened zero_element s text m.store) m)
  hold_open_carried_out (refuse n) s width text m = hold_outcome (refused n) (point_hold no_hold m)

  unfoldable pub hold_open_spec : Shape → ℕ → (text : List ℕ) → HoldMemory E → HoldOutcome E
  hold_open_spec s width text m = hold_open_carried_out (hold_open_decided s width text m) s width text m
