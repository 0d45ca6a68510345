-- The invariant is `Sweeping`; each way out is one of its laws.
use Prim.Native.Nat.{◌+◌}
use native.Mathlib.Omega.{arith}
use Rattle.interval_store_manager.specs.StackLaws.{bounded}
use Rattle.interval_store_manager.proofs.Sweeping.{begins, total_more, goes_on, stops, finished, too_many}
use Rattle.interval_store_manager.proofs.check.mark_intervals.Goals as goal

pub loop-i-init : goal.loop-i-init
loop-i-init c = begins c.args.capacity c.args.n c.args.starts.now c.args.ends.now c.args.marks.now c.requires.1.1.1.1

pub returns-then-end-start : goal.returns-then-end-start
returns-then-end-start c = stops c.args.capacity c.args.n c.args.starts.now c.args.ends.now c.loop-i.marks (λ b s. omega (arith, (bounded c.args.capacity c.args.n c.args.starts.now c.args.ends.now b).ordered c.loop-i.i c.loop-i-test.true))

pub returns-then-capacity-end : goal.returns-then-capacity-end
returns-then-capacity-end c = stops c.args.capacity c.args.n c.args.starts.now c.args.ends.now c.loop-i.marks (λ b s. omega (arith, (bounded c.args.capacity c.args.n c.args.starts.now c.args.ends.now b).below c.loop-i.i c.loop-i-test.true))

pub returns-then-capacity-total : goal.returns-then-capacity-total
returns-then-capacity-total c = stops c.args.capacity c.args.n c.args.starts.now c.args.ends.now c.loop-i.marks (λ b s. too_many c.args.capacity c.args.n (c.loop-i.i + 1) c.args.starts.now c.args.ends.now (omega arith) (omega (arith, total_more c.args.capacity c.args.n c.args.starts.now c.args.ends.now c.args.marks.now c.loop-i.marks c.loop-i.total c.loop-i.i c.loop-i.invariant c.loop-i-test.true (omega arith) (omega arith))) s)

pub loop-i-preserved : goal.loop-i-preserved
loop-i-preserved c = goes_on c.args.capacity c.args.n c.args.starts.now c.args.ends.now c.args.marks.now c.loop-i.marks c.loop-i.total c.loop-i.i c.loop-i.invariant c.loop-i-test.true _ (omega arith) (omega arith) (omega arith) c.fill_ones.auto.marks c.fill_ones.ensures

pub returns : goal.returns
returns c = finished c.args.capacity c.args.n c.args.starts.now c.args.ends.now c.args.marks.now c.loop-i.marks c.loop-i.total c.loop-i.i c.loop-i.invariant c.loop-i-test.false
