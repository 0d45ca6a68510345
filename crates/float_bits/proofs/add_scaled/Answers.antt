-- The loop's invariant: the sums passed, and what adding the rest of the row makes of the others, are what is to come out.
use native.Mathlib.Omega.{arith}
use mathlib.Core.Path.{sym, ◌∙◌}
use lib.Ieee.{nan}
use Rattle.float_bits.specs.Rows.{add_product}
use Rattle.float_bits.proofs.ZipInto.{taken_turn, all_taken}
use Rattle.float_bits.proofs.add_scaled.Goals as goal

pub loop-i-preserved : goal.loop-i-preserved
unfolding add_product
loop-i-preserved c =
    let l = c.loop-i in
    rw c.float_of_word.ensures (taken_turn (add_product c.args.weight) c.args.row.now nan 0 l.sums l.i (omega arith) (omega arith) ∙ l.invariant)

pub returns : goal.returns
returns c =
    let l = c.loop-i in
    sym (all_taken (add_product c.args.weight) c.args.row.now l.sums l.i (omega arith)) ∙ l.invariant
