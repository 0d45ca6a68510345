-- The loop keeps that the first k fields are put, and where they end.
use mathlib.Core.Path.{refl, ◌∙◌}
use native.Mathlib.Omega.{arith}
use Rattle.decimal.proofs.WriterTurns.{line_start, line_start_at, line_turn, line_turn_at, line_turn_room, line_end, line_end_room}
use Rattle.decimal.proofs.write.put_line.Goals as goal

pub loop-number-init : goal.loop-number-init
loop-number-init c =
    let t = c.args.text.now in
    let ns = c.args.numbers.now in
    (refl, (line_start_at t c.args.at c.args.width ns c.requires, line_start t c.args.at c.args.width ns c.requires))

pub put_field-requires : goal.put_field-requires
put_field-requires c =
    let l = c.loop-number in
    omega (arith, l.invariant.0, line_turn_room c.args.text.now c.args.at c.args.width c.args.numbers.now c.requires l.number-index l.end c.loop-number-test.true l.invariant.1.0)

pub overflow_add-end : goal.overflow_add-end
overflow_add-end c =
    let l = c.loop-number in
    omega (arith, line_turn_room c.args.text.now c.args.at c.args.width c.args.numbers.now c.requires l.number-index l.end c.loop-number-test.true l.invariant.1.0)

pub loop-number-preserved : goal.loop-number-preserved
loop-number-preserved c =
    let l = c.loop-number in
    let p = c.put_field in
    let t = c.args.text.now in
    let ns = c.args.numbers.now in (
      p.auto.text ∙ l.invariant.0,
      (
        line_turn_at t c.args.at c.args.width ns c.requires l.number-index l.end c.loop-number-test.true l.invariant.1.0,
        p.ensures ∙ (rw l.invariant.1.1 (line_turn t c.args.at c.args.width ns c.requires l.number-index l.end c.loop-number-test.true l.invariant.1.0)),
      ),
    )

pub bounds-text-end : goal.bounds-text-end
bounds-text-end c =
    let l = c.loop-number in
    omega (arith, l.invariant.0, line_end_room c.args.text.now c.args.at c.args.width c.args.numbers.now c.requires l.number-index l.end (omega (arith, c.loop-number-test.false)) l.invariant.1.0)

pub returns : goal.returns
returns c =
    let l = c.loop-number in
    rw l.invariant.1.1 (line_end c.args.text.now c.args.at c.args.width c.args.numbers.now c.requires l.number-index l.end (omega (arith, c.loop-number-test.false)) l.invariant.1.0 (rw l.invariant.1.1 at l.invariant.0))
