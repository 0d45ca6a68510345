-- The loop keeps that the lines that are left decide, and the classes filled in; every way out is a law of `Reading`.
use mathlib.Core.Path.{◌∙◌}
use lib.ListN.{length-set}
use Rattle.class_table.proofs.Reading.{wrong_length, large_class, line_right, line_wrong, class_filled, table_read_lem}
use Rattle.class_table.proofs.read.read_classes.Goals as goal

pub returns-then-text-ne216 : goal.returns-then-text-ne216
returns-then-text-ne216 c = wrong_length c.args.text.now c.if-text-ne216.true

pub returns-then-class-gt9 : goal.returns-then-class-gt9
returns-then-class-gt9 c =
    let l = c.loop-code in
    let k = c.class_in-class in
    large_class c.args.text.now l.code k.result c.loop-code-test.true k.ensures c.if-class-gt9.true

pub returns-then-not-is_class_line : goal.returns-then-not-is_class_line
returns-then-not-is_class_line c =
    let l = c.loop-code in
    let k = c.class_in-class in
    let f = c.is_class_line in
    line_wrong c.args.text.now c.if-text-ne216.false l.code k.result f.result c.loop-code-test.true k.ensures f.ensures c.if-not-is_class_line.true l.invariant.1.0

pub loop-code-preserved : goal.loop-code-preserved
loop-code-preserved c =
    let l = c.loop-code in
    let k = c.class_in-class in
    let f = c.is_class_line in
    let t = c.args.text.now in
    let sized = c.if-text-ne216.false in (
      length-set l.classes l.code k.result ∙ l.invariant.0,
      (
        line_right t sized l.code k.result f.result c.loop-code-test.true k.ensures f.ensures c.if-not-is_class_line.false l.invariant.1.0,
        class_filled t sized l.code k.result l.classes c.loop-code-test.true l.invariant.0 k.ensures ∙ l.invariant.1.1,
      ),
    )

pub returns : goal.returns
returns c =
    let l = c.loop-code in
    c.then_some.ensures ∙ table_read_lem c.args.text.now c.if-text-ne216.false l.code l.classes c.table_allowed.result l.auto.code-end c.loop-code-test.false l.invariant.0 l.invariant.1.0 l.invariant.1.1 c.table_allowed.ensures
