-- The invariant: the first k words are those of the filled set.
use mathlib.Core.Path.{◌≡◌}
use lib.ListN.{length, take}
use Rattle.probes_definitions.specs.Readings.{filled, of_kinds}
use Rattle.probe_readings.proofs.fill.fill.Given as goal

abbrev pub invariant-loop-k : goal.invariant-loop-k
invariant-loop-k l = (length l.set ≡ 8) × (take l.k l.set ≡ take l.k (filled (of_kinds l.kinds l.words) l.last))
