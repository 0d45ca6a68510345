-- The calls that the hold's guarantee speaks of, each bound once.
use Rattle.std.specs.Prelude.{ℕ, Bool, List}
use Rattle.store_definitions.specs.declared.Shape.{Shape}
use Rattle.store_definitions.specs.Answers.{Answer, Output}
use Rattle.hold_definitions.specs.Memory.{HoldMemory, PointHold}
use Rattle.hold_definitions.specs.Answers.{HoldOutcome}
use Rattle.hold_definitions.specs.Opening.{hold_open_spec}
use Rattle.hold_definitions.specs.Adding.{hold_add_spec}
use Rattle.hold_definitions.specs.Readings.{held_spec, held_number_spec}

module _ {E : Type 0} (zero_element : E) where
  abbrev pub hold_open_call : Shape → ℕ → List ℕ → HoldMemory E → HoldOutcome E
  hold_open_call = hold_open_spec zero_element

module _ {E : Type 0} (eq : E → E → Bool) (zero_element : E) where
  abbrev pub hold_add_call : PointHold E → List E → ℕ → HoldOutcome E
  hold_add_call = hold_add_spec eq zero_element

module _ {E : Type 0} where
  abbrev pub held_call : PointHold E → List ℕ → Output ℕ
  held_call = held_spec

  abbrev pub held_number_call : PointHold E → Answer
  held_number_call = held_number_spec
