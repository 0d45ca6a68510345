-- A turn is one row: the rest of the list is decided as the whole is.
use mathlib.Core.Path.{◌≡◌}
use lib.ListN.{drop}
use mathlib.Core.List.{[]}
use Rattle.store_definitions.specs.Memory.{point_store}
use Rattle.store_counts.specs.Tables.{counts_alone}
use Rattle.store_definitions.specs.Sums.{items_decided}
use Rattle.row_readings.specs.Items.{weightings}
use Rattle.row_readings.proofs.plain_sum.rows_test.Given as goal

abbrev pub invariant-loop-row : goal.invariant-loop-row
invariant-loop-row l = items_decided (point_store l.s (counts_alone l.reference_count [])) (weightings (drop l.row-index l.rows)) ≡ items_decided (point_store l.s (counts_alone l.reference_count [])) (weightings l.rows)
