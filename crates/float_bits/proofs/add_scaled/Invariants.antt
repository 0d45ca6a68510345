-- The loop's invariant: the sums passed, and what adding the rest of the row makes of the others, are what is to come out.
use mathlib.Core.Path.{◌≡◌}
use Rattle.float_bits.specs.Rows.{add_product, add_scaled}
use Rattle.float_bits.proofs.ZipInto.{rest}
use Rattle.float_bits.proofs.add_scaled.Given as goal

abbrev pub invariant-loop-i : goal.invariant-loop-i
invariant-loop-i l = rest (add_product l.weight) l.row l.sums l.i ≡ add_scaled l.weight l.initial.sums l.row
