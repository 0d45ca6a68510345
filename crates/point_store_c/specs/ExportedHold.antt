-- What the hold's definitions become for a C caller, as the store's do.
use Rattle.std.specs.Prelude.{ℕ, cond, List, [], leb, length}
use Rattle.store_definitions.specs.declared.Shape.{Shape}
use Rattle.store_definitions.specs.Answers.{Answer, kept, waiting, done, is, says, refused, refused_after}
use Rattle.hold_definitions.specs.declared.Hold.{Hold}
use Rattle.hold_definitions.specs.Answers.{HoldOutcome}
use Rattle.hold_definitions.specs.Memory.{HoldMemory}
use Rattle.store_definitions.specs.Opening.{shape_allowed}
use Rattle.hold_definitions.specs.Opening.{hold_open_spec}
use Rattle.hold_definitions.specs.WellFormed.{width_allowed}
use Rattle.point_store_c.specs.ExportedStore.{returned, answered}
use Rattle.point_store_c.specs.HoldRecords.{hold_out, hold_recorded}

-- what a C caller has after a call: the return value, its record, its lent numbers and its lent memory
pub record HoldExported : Type 0 where
  pub value : ℕ
  pub words : List ℕ
  pub numbers : List ℕ
  pub memory : HoldMemory ℕ

abbrev pub hold_exported : ℕ → List ℕ → List ℕ → HoldMemory ℕ → HoldExported
hold_exported value words numbers memory =
    record { value = value; words = words; numbers = numbers; memory = memory }

-- an outcome, for a caller whose record and lent numbers held these
unfoldable pub hold_exported_call : List ℕ → List ℕ → HoldOutcome ℕ → HoldExported
hold_exported_call words xs o =
    hold_exported (returned o.answer) (hold_recorded words o.after.header) (answered xs o.answer) o.after.memory

-- the record after an opening: a refused one leaves it
abbrev pub hold_opened_words : List ℕ → Answer → Hold → List ℕ
hold_opened_words words (kept i l w left) h = words
hold_opened_words words waiting h = words
hold_opened_words words done h = hold_out words h
hold_opened_words words (is n) h = words
hold_opened_words words (says b) h = words
hold_opened_words words (refused n) h = words
hold_opened_words words (refused_after n before) h = words

abbrev pub hold_opened_as : List ℕ → HoldOutcome ℕ → HoldExported
hold_opened_as words o =
    hold_exported (returned o.answer) (hold_opened_words words o.answer o.after.header) [] o.after.memory

-- a record too short: 2, then 15, then 1
unfoldable pub short_hold : Shape → ℕ → ℕ
short_hold s width = cond (shape_allowed s) (cond (width_allowed width s.capacity) 1 15) 2

-- an opening, for a caller whose record held these words
unfoldable pub hold_exported_opening : List ℕ → Shape → ℕ → (text : List ℕ) → HoldMemory ℕ → HoldExported
hold_exported_opening words s width text m =
    cond (leb 41 (length words)) (hold_opened_as words (hold_open_spec 0 s width text m)) (hold_exported (short_hold s width) words [] m)
