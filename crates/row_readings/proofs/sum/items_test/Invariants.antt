-- A turn is one item: the rest of the list is decided as the whole is.
use mathlib.Core.Path.{◌≡◌}
use lib.ListN.{drop}
use mathlib.Core.List.{[]}
use Rattle.store_definitions.specs.Memory.{point_store}
use Rattle.store_counts.specs.Tables.{counts_alone}
use Rattle.store_definitions.specs.Sums.{items_decided}
use Rattle.row_readings.specs.Items.{weightings_of}
use Rattle.row_readings.proofs.sum.items_test.Given as goal

abbrev pub invariant-loop-item : goal.invariant-loop-item
invariant-loop-item l = items_decided (point_store l.s (counts_alone l.reference_count [])) (weightings_of (drop l.item-index l.items)) ≡ items_decided (point_store l.s (counts_alone l.reference_count [])) (weightings_of l.items)
