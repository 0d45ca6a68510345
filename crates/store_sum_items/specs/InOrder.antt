-- What a sum that goes through comes to: from zeros on, each item's row as it is stored, times its weight, in the items' order.
use Rattle.std.specs.Prelude.{ℕ, List, [], ◌∷◌, ◌≡◌, true, refl, length, replicate, fold}
use Rattle.std.proofs.Common.{ap, eq-eqb}
use Rattle.interval_store_manager.specs.Calls.{go}
use Rattle.store_definitions.specs.declared.Item.{Item}
use Rattle.store_definitions.specs.Answers.{done, output}
use Rattle.store_definitions.specs.Decisions.{form_decided}
use Rattle.store_definitions.specs.Memory.{PointStore}
use Rattle.store_definitions.specs.Sums.{items_decided, stored_row, summed, sum_written, point_sum_spec}
use Rattle.store_definitions.specs.WellFormed.{well_formed}
use Rattle.row_readings.specs.Items.{weightings_of}

module _ {E S : Type 0} (add : ℕ → List S → List E → List S) (p : PointStore E) where
  -- one item more: its row, unturned
  abbrev pub item_added : List S → Item → List S
  item_added sums x = add x.weight sums (stored_row p x.index.0)

  pub sum_in_order : (zero_sum : S) (xs : List Item) (out : List S) → well_formed p ≡ true → length out ≡ p.header.dimensions → items_decided p (weightings_of xs) ≡ go
      → point_sum_spec add zero_sum p (weightings_of xs) out ≡ output done (fold item_added (replicate p.header.dimensions zero_sum) xs)
  unfolding point_sum_spec sum_written form_decided summed weightings_of
  sum_in_order zero_sum xs out e l d =
      rw (e, eq-eqb (length out) p.header.dimensions l, d) (ap (λ (sums : List S). output done sums) (each xs (replicate p.header.dimensions zero_sum)))
    where
      each : (ys : List Item) (sums : List S) → summed add p (weightings_of ys) sums ≡ fold item_added sums ys
      each [] sums = refl
      each (y ∷ ys) sums = each ys (item_added sums y)
