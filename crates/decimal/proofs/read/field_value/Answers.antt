-- The loop keeps what is left to count behind the value so far; a value of i digits is below 10 to the i.
use mathlib.Core.Path.{◌∙◌}
use native.Mathlib.Omega.{arith}
use lib.ListN.{get_or}
use Rattle.decimal.proofs.ReaderTurns.{value_turn, value_end, below_turn, value_fits}
use Rattle.decimal.proofs.read.field_value.Goals as goal

pub overflow_mul-value : goal.overflow_mul-value
overflow_mul-value c =
    let l = c.loop-b in
    omega (arith, value_fits l.value l.b-index 0 l.invariant.0 (omega arith))

pub overflow_add-value : goal.overflow_add-value
overflow_add-value c =
    let l = c.loop-b in
    omega (arith, value_fits l.value l.b-index (get_or c.args.text.now l.b-index 0) l.invariant.0 (omega arith), c.digit_of.ensures)

pub loop-b-preserved : goal.loop-b-preserved
loop-b-preserved c =
    let l = c.loop-b in
    let t = c.args.text.now in (
      rw c.digit_of.ensures (below_turn l.value l.b-index (get_or t l.b-index 0) l.invariant.0),
      rw c.digit_of.ensures (value_turn t l.value l.b-index c.loop-b-test.true ∙ l.invariant.1),
    )

pub returns : goal.returns
returns c =
    let l = c.loop-b in
    value_end c.args.text.now l.value l.b-index (omega (arith, c.loop-b-test.false)) ∙ l.invariant.1
