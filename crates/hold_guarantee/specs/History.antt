-- What a list of hold adds says of the points held, from the adds and their answers alone.
use Rattle.std.specs.Prelude.{ℕ, zero, suc, Bool, List, [], ◌∷◌, ◌++◌}
use Rattle.placement.specs.Laying.{place_of}
use Rattle.store_definitions.specs.declared.Shape.{Shape}
use Rattle.store_definitions.specs.Answers.{Answer, kept, waiting, done, is, says, refused, refused_after}
use Rattle.guarantee.specs.History.{points_with, row_of_add}
use Rattle.hold_definitions.specs.Memory.{PointHold}
use Rattle.hold_guarantee.specs.Run.{HoldAdd, hold_answer_to}

-- a kept add: the adds up to it, the index in its answer, its row, and the place in its answer
pub record KeptAdd (E : Type 0) : Type 0 where
  pub adds : List (HoldAdd E)
  pub index : ℕ
  pub row : List E
  pub place : ℕ

module _ {E : Type 0} where
  -- an add with this answer, after other kept adds
  abbrev pub kept_with : List (HoldAdd E) → List E → Answer → List (KeptAdd E) → List (KeptAdd E)
  kept_with adds row (kept i l laid left) before = record { adds = adds; index = i; row = row; place = place_of laid } ∷ before
  kept_with adds row waiting before = before
  kept_with adds row done before = before
  kept_with adds row (is n) before = before
  kept_with adds row (says b) before = before
  kept_with adds row (refused n) before = before
  kept_with adds row (refused_after n k) before = before

  -- the indices of kept adds
  unfoldable pub indices : List (KeptAdd E) → List ℕ
  indices [] = []
  indices (k ∷ ks) = k.index ∷ indices ks

-- the first n of a list that has the last one first, in order, oldest first; all, if they are fewer
unfoldable pub newest : {A : Type 0} → ℕ → List A → List A
newest zero xs = []
newest (suc n) [] = []
newest (suc n) (x ∷ xs) = newest n xs ++ x ∷ []

module _ {E : Type 0} (eq : E → E → Bool) (zero_element : E) (start : PointHold E) where
  -- the points of the accepted adds, the last one first
  unfoldable pub accepted_points : List (HoldAdd E) → List (List E)
  accepted_points [] = []
  accepted_points (a ∷ before) = points_with a.point (hold_answer_to eq zero_element start a before) (accepted_points before)

  -- the kept adds, the last one first
  unfoldable pub kept_adds : Shape → List (HoldAdd E) → List (KeptAdd E)
  kept_adds s [] = []
  kept_adds s (a ∷ before) =
      kept_with (a ∷ before) (row_of_add s (accepted_points (a ∷ before))) (hold_answer_to eq zero_element start a before) (kept_adds s before)
