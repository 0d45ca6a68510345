-- A turn is one item: the rest of the list is added to the sums so far.
use mathlib.Core.List.{[]}
use mathlib.Core.Path.{◌≡◌}
use lib.ListN.{length, drop}
use Rattle.float_bits.specs.Rows.{add_scaled}
use Rattle.store_definitions.specs.Memory.{point_store, rows_alone}
use Rattle.store_definitions.specs.Sums.{summed}
use Rattle.row_readings.specs.Items.{weightings_of}
use Rattle.row_readings.proofs.sum.add_items.Given as goal

abbrev pub invariant-loop-item : goal.invariant-loop-item
invariant-loop-item l = (length l.out ≡ length l.initial.out) × (summed add_scaled (point_store l.s (rows_alone l.store [] l.location)) (weightings_of (drop l.item-index l.items)) l.out ≡ summed add_scaled (point_store l.s (rows_alone l.store [] l.location)) (weightings_of l.items) l.initial.out)
