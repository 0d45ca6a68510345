-- The invariant: the first k tallies are raised.
use mathlib.Core.Path.{◌≡◌}
use lib.ListN.{length, take}
use Rattle.probe_readings.specs.Kinds.{tallied_kinds}
use Rattle.probe_readings.proofs.tally.tallied.Given as goal

abbrev pub invariant-loop-k : goal.invariant-loop-k
invariant-loop-k l = (length l.counted ≡ 8) × (take l.k l.counted ≡ take l.k (tallied_kinds l.kinds l.tallies))
