-- A turn is one row: the rest of the list is added to the sums so far.
use mathlib.Core.List.{[]}
use mathlib.Core.Path.{◌≡◌}
use lib.ListN.{length, drop}
use Rattle.float_bits.specs.Rows.{add_scaled}
use Rattle.store_definitions.specs.Memory.{point_store, rows_alone}
use Rattle.store_definitions.specs.Sums.{summed}
use Rattle.row_readings.specs.Items.{weightings}
use Rattle.row_readings.proofs.plain_sum.add_rows.Given as goal

abbrev pub invariant-loop-row : goal.invariant-loop-row
invariant-loop-row l = (length l.out ≡ length l.initial.out) × (summed add_scaled (point_store l.s (rows_alone l.store [] l.location)) (weightings (drop l.row-index l.rows)) l.out ≡ summed add_scaled (point_store l.s (rows_alone l.store [] l.location)) (weightings l.rows) l.initial.out)
