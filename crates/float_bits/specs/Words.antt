-- A binary32 float held as its word: its 32 bits, read as a whole number.
use Rattle.std.specs.Prelude.{ℕ, ◌≡◌, refl, Bool, false, pos, eqb, Float}
use Rattle.std.specs.Float.{fin, binary32}
use Rattle.std.specs.Float.Ieee.{of_bits, to_bits, nan_bits}
use Rattle.std.proofs.Common.{eqb-true}
use Rattle.terms.specs.Rows.{Exact}

-- the float that a word holds: there is one NaN, and every NaN's word holds it
abbrev pub float_of : ℕ → Float
float_of w = of_bits binary32 w

-- the word that holds a float; for a NaN it is 0x7fc00000
abbrev pub word_of : Float → ℕ
word_of x = to_bits binary32 x

-- whether a word is a NaN's
abbrev pub nan_word : ℕ → Bool
nan_word w = nan_bits binary32 w

-- document 02, Point 5: 'equality of the 32 bits: −0.0 no longer matches 0.0, and a NaN matches a NaN of the same bits'
unfoldable pub words_equal : ℕ → ℕ → Bool
words_equal a b = eqb a b

-- so equal words are the same word
pub words_exact : Exact words_equal
unfolding words_equal
words_exact a b e = eqb-true a b e

-- the words of 0.0, with which a store is filled, and of −0.0
abbrev pub plus_zero : ℕ
plus_zero = 0

abbrev pub minus_zero : ℕ
minus_zero = 2147483648

pub plus_zero_lem : float_of plus_zero ≡ fin false 0 (pos 0)
unfolding of_bits
plus_zero_lem = refl
