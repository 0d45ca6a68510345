-- The invariant is `Sweeping`; each way out is one of its laws.
use Rattle.interval_store_manager.proofs.Sweeping.{Sweeping}
use Rattle.interval_store_manager.proofs.check.mark_intervals.Given as goal

abbrev pub invariant-loop-i : goal.invariant-loop-i
invariant-loop-i l = Sweeping l.capacity l.n l.starts l.ends l.initial.marks l.marks l.total l.i
