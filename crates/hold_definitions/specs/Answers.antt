-- An answer with the hold after the call.
use Rattle.store_definitions.specs.Answers.{Answer}
use Rattle.hold_definitions.specs.Memory.{PointHold}

pub record HoldOutcome (E : Type 0) : Type 0 where
  pub answer : Answer
  pub after : PointHold E

abbrev pub hold_outcome : {E : Type 0} → Answer → PointHold E → HoldOutcome E
hold_outcome a h = record { answer = a; after = h }
