-- Document 01, 'The other readings': is_equal and point_sum.
use Rattle.std.specs.Prelude.{ℕ, ◌*◌, Bool, not, List, [], ◌∷◌, length, get_or, replicate, ltb, eqb}
use Rattle.terms.specs.Rows.{all_equal}
use Rattle.placement.specs.Row.{piece}
use Rattle.interval_store_manager.specs.Calls.{Decided, go, refuse}
use Rattle.store_definitions.specs.Memory.{PointStore}
use Rattle.store_definitions.specs.Answers.{Answer, says, refused, Output}
use Rattle.store_definitions.specs.Parts.{base_of}
use Rattle.store_definitions.specs.Decisions.{and_then, refuse_if, form_decided, touch_decided, writes, then_answer, then_output}
use Rattle.store_definitions.specs.Rows.{copy_of, copy_decided}

-- an index and its weight
pub record Weighted : Type 0 where
  pub index : ℕ
  pub weight : ℕ

abbrev pub answers : Decided → Bool → Answer
answers go b = says b
answers (refuse n) b = refused n

module _ {E : Type 0} (eq : E → E → Bool) where
  -- 'is_equal compares copy and point by float ==', in whose place document 02, Point 5, puts 'equality of the 32 bits'. Of a store that is
  -- checked
  unfoldable pub equality : PointStore E → ℕ → List E → Answer
  equality p i point = answers (copy_decided p i (length point)) (all_equal eq (copy_of p i) point)

  unfoldable pub is_equal_spec : PointStore E → ℕ → List E → Answer
  is_equal_spec p i point = then_answer (form_decided p) (equality p i point)

module _ {E : Type 0} where
  -- 'sum 3, then per item 5, 11': 'weight above 16,777,216'
  unfoldable pub items_decided : PointStore E → List Weighted → Decided
  items_decided p [] = go
  items_decided p (w ∷ ws) =
      and_then (touch_decided p w.index) (and_then (refuse_if (ltb 16777216 w.weight) 11) (items_decided p ws))

  -- a stored row, unturned
  unfoldable pub stored_row : PointStore E → ℕ → List E
  stored_row p i =
      piece (get_or p.memory.location i 65535 * base_of p.header) p.header.dimensions p.memory.store

  -- 'point_sum starts from 0.0 and for each item in order adds stored float i × weight (converted, nothing lost), one rounding each,
  -- unturned': `add` adds a row times a weight to the sums
  unfoldable pub summed : {S : Type 0} → (ℕ → List S → List E → List S) → PointStore E → List Weighted → List S → List S
  summed add p [] sums = sums
  summed add p (w ∷ ws) sums = summed add p ws (add w.weight sums (stored_row p w.index))

  -- the sum of a store that is checked
  unfoldable pub sum_written : {S : Type 0} → (ℕ → List S → List E → List S) → S → PointStore E → List Weighted → List S → Output S
  sum_written add zero_sum p ws out =
      writes (and_then (refuse_if (not (eqb (length out) p.header.dimensions)) 3) (items_decided p ws)) out
      (summed add p ws (replicate p.header.dimensions zero_sum))

  unfoldable pub point_sum_spec : {S : Type 0} → (ℕ → List S → List E → List S) → S → PointStore E → List Weighted → List S → Output S
  point_sum_spec add zero_sum p ws out = then_output (form_decided p) out (sum_written add zero_sum p ws out)
