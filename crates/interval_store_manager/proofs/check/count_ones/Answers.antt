-- The invariant: the sum so far is that of the marks passed. A mark is at most 1, so the sum fits.
use native.Mathlib.Omega.{arith}
use native.Mathlib.Numerals.{add-one}
use mathlib.Core.Path.{refl}
use Rattle.terms.specs.Below.{sum_below}
use Rattle.interval_store_manager.proofs.check.count_ones.Goals as goal

pub loop-mark-init : goal.loop-mark-init
unfolding sum_below
loop-mark-init c = (refl, omega arith)

pub loop-mark-preserved : goal.loop-mark-preserved
unfolding sum_below
loop-mark-preserved c = (rw add-one (omega (arith, c.loop-mark.invariant.0)), omega (arith, c.requires.1 c.loop-mark.mark-index))
