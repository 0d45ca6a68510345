-- A NaN's bits below the sign are above those of an infinity.
use mathlib.Core.Path.{sym}
use lib.Ieee.{binary32}
use lib.Ieee.Bits.{nan_bits_above}
use Rattle.float_bits.proofs.is_nan_word.Goals as goal

pub returns : goal.returns
returns c = sym (nan_bits_above binary32 c.args.w)
