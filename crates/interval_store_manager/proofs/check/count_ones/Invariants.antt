-- The invariant: the sum so far is that of the marks passed. A mark is at most 1, so the sum fits.
use Prim.Native.Nat.{◌≤◌}
use mathlib.Core.Path.{◌≡◌}
use lib.ListN.{get_or}
use Rattle.terms.specs.Below.{sum_below}
use Rattle.interval_store_manager.proofs.check.count_ones.Given as goal

abbrev pub invariant-loop-mark : goal.invariant-loop-mark
invariant-loop-mark l = (l.total ≡ sum_below l.mark-index (λ k. get_or l.marks k 0)) × (l.total ≤ l.mark-index)
