-- The loop keeps `Masked`.
use Rattle.class_table.specs.Marks.{Masked}
use Rattle.class_table.proofs.allowed.table_allowed.Given as goal

abbrev pub invariant-loop-class : goal.invariant-loop-class
invariant-loop-class l = Masked l.fn.classes l.class-index l.high l.mask
