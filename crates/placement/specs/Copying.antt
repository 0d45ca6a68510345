-- A stored row is copied out, turned by its place where the store rotates.
use Rattle.std.specs.Prelude.{Bool, cond, List, ◌++◌, ℕ, ◌*◌, ◌-◌, ◌%◌, take, drop}
use Rattle.placement.specs.Row.{piece}

-- Document 01, 'Copy': 't is place × base mod dimensions with rotation, else 0.'
unfoldable pub turn : Bool → (dims base place : ℕ) → ℕ
turn rotation dims base place = cond rotation (place * base % dims) 0

-- 'Entry (i + t) mod dimensions is stored float i': the last t stored elements come first (`copied_entry` is the sentence itself)
unfoldable pub turned : {E : Type 0} → (dims t : ℕ) → List E → List E
turned dims t stored = drop (dims - t) stored ++ take (dims - t) stored

-- the copy of the point at a place
unfoldable pub copied : {E : Type 0} → Bool → (dims base place : ℕ) → List E → List E
copied rotation dims base place elements = turned dims (turn rotation dims base place) (piece (place * base) dims elements)
