-- The invariant: what holds of the counts so far.
use Rattle.std.proofs.Common.{◌≡◌}
use Rattle.hold_check.specs.Rising.{single_counts}
use Rattle.hold_check.proofs.list.counts_single.Given as goal

abbrev pub invariant-loop-count : goal.invariant-loop-count
invariant-loop-count l = l.ok ≡ single_counts l.count-index l.counts
