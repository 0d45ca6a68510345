-- The loop keeps where field k begins, and that the line from there on decides.
use mathlib.Core.Path.{sym, ◌∙◌}
use native.Mathlib.Omega.{arith}
use Rattle.decimal.proofs.ReaderTurns.{begins_next, begins_room, part_compared, end_room, feed_compared}
use Rattle.decimal.proofs.read.is_line.Goals as goal

pub overflow_add-end : goal.overflow_add-end
overflow_add-end c =
    let l = c.loop-number in
    omega (arith, begins_room c.args.text.now c.args.width c.args.numbers.now l.at l.number-index c.loop-number-test.true l.invariant.0)

pub slice_bounds-is_field-end : goal.slice_bounds-is_field-end
slice_bounds-is_field-end c =
    let l = c.loop-number in
    omega (arith, begins_room c.args.text.now c.args.width c.args.numbers.now l.at l.number-index c.loop-number-test.true l.invariant.0)

pub returns-then-not-is_field : goal.returns-then-not-is_field
returns-then-not-is_field c =
    let l = c.loop-number in
    let f = c.is_field in
    sym (sym l.invariant.1 ∙ part_compared c.args.text.now c.args.width c.args.numbers.now l.at l.number-index f.result c.loop-number-test.true l.invariant.0 f.ensures ∙ (rw c.if-not-is_field.true))

pub loop-number-preserved : goal.loop-number-preserved
loop-number-preserved c =
    let l = c.loop-number in
    let f = c.is_field in
    let t = c.args.text.now in
    let ns = c.args.numbers.now in (
      begins_next t c.args.width ns l.at l.number-index c.loop-number-test.true l.invariant.0,
      sym (sym l.invariant.1 ∙ part_compared t c.args.width ns l.at l.number-index f.result c.loop-number-test.true l.invariant.0 f.ensures ∙ (rw c.if-not-is_field.false)),
    )

pub bounds-text-at : goal.bounds-text-at
bounds-text-at c =
    let l = c.loop-number in
    omega (arith, end_room c.args.text.now c.args.width c.args.numbers.now l.at l.number-index (omega (arith, c.loop-number-test.false)) l.invariant.0)

pub returns : goal.returns
returns c =
    let l = c.loop-number in
    feed_compared c.args.text.now c.args.width c.args.numbers.now l.at l.number-index (omega (arith, c.loop-number-test.false)) l.invariant.0 ∙ l.invariant.1
