-- Compaction by steps in order of place (document 02, Point 3): a step is given the next live place and no later one.
use Rattle.std.specs.Prelude.{Bool, cond, List, [], ◌∷◌, ℕ, ◌+◌, ◌*◌, ◌-◌, ◌/◌, leb}
use Rattle.placement.specs.Alignment.{zeros_before}
use Rattle.placement.specs.Compaction.{Written, copied_down, nothing_written}

-- what has been written, and the end of what has been read
pub record Progress (E : Type 0) : Type 0 where
  pub written : Written E
  pub read : ℕ

module _ {E : Type 0} (zero_element : E) (dims base : ℕ) (elements : List E) where
  -- the elements from `from` to the end of the point at `place` are copied down after some zeros; the point ends where writing does
  unfoldable pub taken : (zeros from place : ℕ) → Progress E → Progress E
  taken zeros from place s =
      let count : ℕ = place * base + dims - from in
      let new : ℕ = (s.written.free + zeros + count - dims) / base in
      record {
        written = copied_down zero_element elements zeros from count (record { old = place; new = new } ∷ []) s.written;
        read = place * base + dims;
      }

module _ {E : Type 0} (zero_element : E) (dims base : ℕ) (rotation : Bool) (elements : List E) where
  -- a point that starts at or before the end of what was read goes on the block; any other starts one
  unfoldable pub step : Progress E → ℕ → Progress E
  step s place =
      cond (leb (place * base) s.read)
      (taken zero_element dims base elements 0 s.read place s)
      (taken zero_element dims base elements (zeros_before rotation dims s.written.free (place * base)) (place * base) place s)

  unfoldable pub steps_from : Progress E → List ℕ → Progress E
  steps_from s [] = s
  steps_from s (place ∷ places) = steps_from (step s place) places

  unfoldable pub steps : List ℕ → Progress E
  steps places = steps_from (record { written = nothing_written; read = 0 }) places
