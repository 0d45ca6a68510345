-- A NaN's word holds the one NaN. Any other word's bits are read.
use mathlib.Core.Path.{sym, ◌∙◌}
use lib.Ieee.{binary32, of_bits}
use lib.Ieee.Bits.{nan_bits_is}
use Rattle.float_bits.specs.Words.{float_of}
use Rattle.float_bits.proofs.OneNan.{one_nan}
use Rattle.float_bits.proofs.float_of_word.Goals as goal

pub returns-then-is_nan_word : goal.returns-then-is_nan_word
unfolding of_bits
returns-then-is_nan_word c =
    let w = c.args.w in
    sym (one_nan (float_of w) (sym (nan_bits_is binary32 w) ∙ sym c.is_nan_word.ensures ∙ c.if-is_nan_word.true))
