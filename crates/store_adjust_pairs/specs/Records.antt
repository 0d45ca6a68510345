-- The pairs of an adjust as plain numbers.
use Rattle.std.specs.Prelude.{ℕ, List, [], ◌∷◌}
use Rattle.store_definitions.specs.declared.Pair.{Pair}

-- four of each pair
unfoldable pub numbers_of : List Pair → List (List ℕ)
numbers_of [] = []
numbers_of (p ∷ ps) =
    (p.insert.index.0 ∷ p.insert.label.0 ∷ p.delete.index.0 ∷ p.delete.label.0 ∷ []) ∷ numbers_of ps
