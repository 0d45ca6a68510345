-- The invariant: what holds of the entries below i.
use mathlib.Core.Path.{◌≡◌}
use Rattle.store_check.specs.Entries.{entries_well}
use Rattle.store_check.proofs.points.entries_well.Given as goal

abbrev pub invariant-loop-i : goal.invariant-loop-i
invariant-loop-i l = l.ok ≡ entries_well l.i l.limit l.marks l.reference_count l.location
