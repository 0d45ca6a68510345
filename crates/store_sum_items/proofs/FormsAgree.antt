-- That the plain form of a sum takes the same items as the form over structs.
use Rattle.std.specs.Prelude.{ℕ, List, [], ◌∷◌, ◌≡◌, refl}
use Rattle.std.proofs.Common.{ap}
use Rattle.store_definitions.specs.declared.Item.{Item}
use Rattle.store_definitions.specs.Memory.{PointStore}
use Rattle.store_definitions.specs.Sums.{Weighted, point_sum_spec}
use Rattle.row_readings.specs.Items.{weightings, weighting_of, weightings_of}
use Rattle.store_sum_items.specs.Records.{numbers_of}

pub same_weightings : (xs : List Item) → weightings (numbers_of xs) ≡ weightings_of xs
unfolding weightings weightings_of numbers_of
same_weightings [] = refl
same_weightings (x ∷ xs) = ap (λ (ws : List Weighted). weighting_of x ∷ ws) (same_weightings xs)

-- the sum over structs and the sum over plain numbers are one sum
pub forms_agree : {E S : Type 0} (add : ℕ → List S → List E → List S) (zero_sum : S) (p : PointStore E) (xs : List Item) (out : List S) → point_sum_spec add zero_sum p (weightings (numbers_of xs)) out ≡ point_sum_spec add zero_sum p (weightings_of xs) out
forms_agree add zero_sum p xs out = ap (λ (ws : List Weighted). point_sum_spec add zero_sum p ws out) (same_weightings xs)
