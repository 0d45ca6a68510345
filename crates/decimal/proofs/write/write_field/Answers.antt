-- The loop keeps that the columns left of k, before what is written, make the field.
use mathlib.Core.Path.{◌∙◌}
use native.Mathlib.Omega.{arith}
use borrow.Author.Rules.{rules}
use Rattle.decimal.proofs.WriterTurns.{field_none, last_written, column_written, columns_none}
use Rattle.decimal.proofs.write.write_field.Goals as goal

pub returns-then-width-eq0 : goal.returns-then-width-eq0
returns-then-width-eq0 c = field_none c.args.out.now c.args.number c.if-width-eq0.true

pub loop-k-init : goal.loop-k-init
loop-k-init c = rw c.last_digit.ensures (last_written c.args.out.now c.args.number (omega arith))

pub loop-k-preserved : goal.loop-k-preserved
loop-k-preserved c =
    let l = c.loop-k in
    rw c.column_of.ensures (column_written l.out l.k l.rest c.loop-k-test.true (search rules) ∙ l.invariant)

pub returns : goal.returns
returns c =
    let l = c.loop-k in
    columns_none l.out l.k l.rest (omega (arith, c.loop-k-test.false)) ∙ l.invariant
