-- A turn is one row: the rest of the list comes to what the whole comes to.
use Rattle.labels.specs.Lent.{SameLowering}
use Rattle.store_definitions.specs.Lent.{SamePoints}
use Rattle.store_definitions.specs.Memory.{point_store}
use Rattle.store_check.specs.Tables.{tables_lowering}
use Rattle.store_adjust.specs.Run.{State}
use Rattle.store_adjust.specs.RowRun.{pairs}
use Rattle.store_adjust.proofs.plain.adjust_rows.Given as goal

abbrev pub invariant-loop-i : goal.invariant-loop-i
invariant-loop-i l =
    (SamePoints l.initial.points l.points × SameLowering l.initial.labels l.labels)
    × State (pairs l.pairs) (point_store l.initial.s (tables_lowering l.floats l.window l.initial.points l.initial.labels)) (point_store l.s (tables_lowering l.floats l.window l.points l.labels)) l.i
