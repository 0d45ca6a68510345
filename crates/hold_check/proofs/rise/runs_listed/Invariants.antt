-- The invariant: what holds of the entries below k.
use Rattle.std.proofs.Common.{◌≡◌}
use Rattle.hold_check.specs.Runs.{runs_listed}
use Rattle.hold_check.proofs.rise.runs_listed.Given as goal

abbrev pub invariant-loop-k : goal.invariant-loop-k
invariant-loop-k l = l.ok ≡ runs_listed l.k l.first l.end l.list
