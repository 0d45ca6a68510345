-- Lines of fields of one width, each followed by one line feed. Point 6 has two fields of 4 columns a line, Point 7 three of 6,
-- Point 10 one of 10.
use Rattle.std.specs.Prelude.{ℕ, ◌^◌, ◌<◌, List, [], ◌∷◌, ◌++◌, ◌≡◌, length}
use Rattle.decimal.specs.Field.{field}

-- fields one behind the other
unfoldable pub fields : ℕ → List ℕ → List ℕ
fields w [] = []
fields w (n ∷ ns) = field w n ++ fields w ns

unfoldable pub line : ℕ → List ℕ → List ℕ
line w ns = fields w ns ++ (10 ∷ [])

unfoldable pub lines : ℕ → List (List ℕ) → List ℕ
lines w [] = []
lines w (r ∷ rs) = line w r ++ lines w rs

-- every number fits its field
abbrev pub Fit : ℕ → List ℕ → Type 0
Fit w [] = Unit {0}
Fit w (n ∷ ns) = (n < 10 ^ w) × Fit w ns

-- every row has k numbers, and they fit
abbrev pub RowsFit : ℕ → ℕ → List (List ℕ) → Type 0
RowsFit w k [] = Unit {0}
RowsFit w k (r ∷ rs) = ((length r ≡ k) × Fit w r) × RowsFit w k rs
