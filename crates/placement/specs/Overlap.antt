-- When a row shares its first elements with what stands before the free start.
use Rattle.std.specs.Prelude.{Bool, false, cond, List, ℕ, ◌-◌, ltb, take}
use Rattle.terms.specs.Rows.{all_equal}
use Rattle.placement.specs.Row.{piece}

-- Document 01, 'Add': 'Overlap is used when shingle size exceeds 1, free start exceeds extra, and the extra floats before
-- the free start equal the row's first extra by float ==.' Document 02, Point 5: 'Equality in overlap and in is_equal becomes equality of
-- the 32 bits' in place of float ==. Here `eq` is any equality, which need not hold of an element and itself.
unfoldable pub overlaps : {E : Type 0} → (E → E → Bool) → (shingle extra free : ℕ) → List E → List E → Bool
overlaps eq shingle extra free elements row =
    cond (ltb 1 shingle)
    (cond (ltb extra free) (all_equal eq (piece (free - extra) extra elements) (take extra row)) false)
    false
