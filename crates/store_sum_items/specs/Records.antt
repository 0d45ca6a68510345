-- The items of a sum as plain numbers.
use Rattle.std.specs.Prelude.{ℕ, List, [], ◌∷◌}
use Rattle.store_definitions.specs.declared.Item.{Item}

-- two of each item
unfoldable pub numbers_of : List Item → List (List ℕ)
numbers_of [] = []
numbers_of (x ∷ xs) = (x.index.0 ∷ x.weight ∷ []) ∷ numbers_of xs
