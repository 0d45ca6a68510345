-- The invariant: what holds of the entries below i.
use Rattle.std.proofs.Common.{◌≡◌}
use Rattle.hold_check.specs.Steady.{entries_held}
use Rattle.hold_check.proofs.steady.entries_held.Given as goal

abbrev pub invariant-loop-i : goal.invariant-loop-i
invariant-loop-i l = l.ok ≡ entries_held l.i l.pair.start l.pair.more l.pair.other l.pair.further l.counts l.location
