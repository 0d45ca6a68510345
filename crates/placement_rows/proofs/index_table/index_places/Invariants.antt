-- The loop's invariant: the indices before i are entered.
use Rattle.std.proofs.Common.{◌≡◌, length}
use Rattle.placement_rows.specs.IndexTable.{Indexed}
use Rattle.placement_rows.proofs.index_table.index_places.Given as goal

abbrev pub invariant-loop-i : goal.invariant-loop-i
invariant-loop-i l = (length l.index_at ≡ length l.initial.index_at) × Indexed l.location l.index_at l.i
