-- The items of a sum, as structs and as plain numbers, what of a store a sum reads, and the sum on a store that is known to be well-formed.
use Rattle.std.specs.Prelude.{ℕ, ◌+◌, ◌*◌, ◌≤◌, ◌<◌, List, [], ◌∷◌, length, get_or}
use Rattle.store_definitions.specs.declared.Item.{Item}
use Rattle.store_definitions.specs.declared.Store.{Store}
use Rattle.store_definitions.specs.Memory.{point_store, rows_alone}
use Rattle.store_definitions.specs.Answers.{Output}
use Rattle.store_definitions.specs.Parts.{base_of}
use Rattle.store_definitions.specs.Sums.{Weighted, sum_written}

abbrev pub weighted : ℕ → ℕ → Weighted
weighted i w = record { index = i; weight = w }

-- of an item as it is lent
abbrev pub weighting_of : Item → Weighted
weighting_of x = weighted x.index.0 x.weight

unfoldable pub weightings_of : List Item → List Weighted
weightings_of [] = []
weightings_of (x ∷ xs) = weighting_of x ∷ weightings_of xs

-- what a list gives where it has no item
abbrev pub no_item : Item
no_item = record { index = record { 0 = 0 }; weight = 0 }

abbrev pub item_at : List Item → ℕ → Item
item_at xs i = get_or xs i no_item

-- as two plain numbers
abbrev pub weighting : List ℕ → Weighted
weighting r = weighted (get_or r 0 0) (get_or r 1 0)

unfoldable pub weightings : List (List ℕ) → List Weighted
weightings [] = []
weightings (r ∷ rs) = weighting r ∷ weightings rs

-- what adding an item relies on: its row within the elements, and a weight whose float is exact
pub record Addable (s : Store) (floats : ℕ) (location : List ℕ) (w : Weighted) : Type 0 where
  pub shingle_some : 0 < s.shingle_size
  pub place_lent : w.index < length location
  pub row_within : get_or location w.index 0 * base_of s + s.dimensions ≤ floats
  pub weight_most : w.weight ≤ 16777216

pub record AllAddable (s : Store) (floats : ℕ) (location : List ℕ) (items : List Item) : Type 0 where
  pub each : (k : ℕ) → k < length items → Addable s floats location (weighting_of (item_at items k))

-- what a sum reads of a store
abbrev pub checked_sum : {E S : Type 0} → (ℕ → List S → List E → List S) → S → Store → List E → (counts location : List ℕ) → List Weighted → List S → Output S
checked_sum add zero_sum s elements counts location ws out =
    sum_written add zero_sum (point_store s (rows_alone elements counts location)) ws out
