-- A run: any list of hold adds on a hold, each on the hold as the last one left it. Lists stand with the last add first.
use Rattle.std.specs.Prelude.{ℕ, Bool, List, [], ◌∷◌}
use Rattle.store_definitions.specs.Answers.{Answer}
use Rattle.hold_definitions.specs.Memory.{PointHold}
use Rattle.hold_guarantee.specs.Calls.{hold_add_call}

-- a point and a label code
pub record HoldAdd (E : Type 0) : Type 0 where
  pub point : List E
  pub code : ℕ

module _ {E : Type 0} (eq : E → E → Bool) (zero_element : E) where
  -- the hold after the adds
  unfoldable pub hold_after : PointHold E → List (HoldAdd E) → PointHold E
  hold_after start [] = start
  hold_after start (a ∷ before) = (hold_add_call eq zero_element (hold_after start before) a.point a.code).after

  -- what an add after these adds answers
  abbrev pub hold_answer_to : PointHold E → HoldAdd E → List (HoldAdd E) → Answer
  hold_answer_to start a before = (hold_add_call eq zero_element (hold_after start before) a.point a.code).answer
