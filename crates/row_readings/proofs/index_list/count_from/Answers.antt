-- The loop's invariant: the first i entries are written.
use Prim.Native.Nat.{◌+◌}
use native.Mathlib.Omega.{arith}
use mathlib.Core.Path.{refl}
use lib.ListN.{length-set}
use Rattle.store_definitions.specs.IndexLists.{up_to}
use Rattle.row_readings.proofs.ListTurns.{count_turn}
use Rattle.row_readings.proofs.index_list.count_from.Goals as goal

pub loop-i-init : goal.loop-i-init
unfolding up_to
loop-i-init c = (refl, refl)

pub loop-i-preserved : goal.loop-i-preserved
loop-i-preserved c =
    let at = c in
    let a = at.args in
    let inv = at.loop-i.invariant in
    (simp length-set inv.0, count_turn (λ v. a.first + v) at.loop-i.out at.loop-i.i (omega arith) inv.1)
