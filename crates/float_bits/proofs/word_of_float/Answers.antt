-- The one NaN has its word. Any other float's bits are written.
use mathlib.Core.Path.{sym, ◌∙◌}
use lib.Ieee.{to_bits}
use Rattle.float_bits.proofs.OneNan.{one_nan}
use Rattle.float_bits.proofs.word_of_float.Goals as goal

pub returns-then-is_nan : goal.returns-then-is_nan
unfolding to_bits
returns-then-is_nan c = rw (one_nan c.args.x (sym c.is_nan.ensures.value ∙ c.if-is_nan.true))
