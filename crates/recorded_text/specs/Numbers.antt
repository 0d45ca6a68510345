-- What the reader of numbers reads, and the laws of its turns.
use Rattle.std.specs.Prelude.{ℕ, ◌+◌, ◌-◌, ◌*◌, ◌≤◌, ◌<◌, List, [], ◌∷◌, Bool, true, false, cond, ◌&&◌, ◌≡◌, length, get_or, take, drop, leb}
use Rattle.std.proofs.Common.{add-one, drop_of_length-le, drop-cons, le-leb, sym, ◌∙◌}
use Prim.Native.Nat.{min, max}
use native.Mathlib.Omega.{arith}
use Rattle.std.proofs.lemmas.Bool.{lt-leb}
use Rattle.std.proofs.lemmas.List.{get_or-take, get_or-drop, length-take-le, length-drop}
use Rattle.std.proofs.Math.Bool.{and-false}
use Rattle.std.specs.Char.{is_ascii_digit}
use Rattle.recorded_text.specs.declared.Numeral.{Numeral}

abbrev pub numeral : ℕ → ℕ → Numeral
numeral value next = record { value = value; next = next }

-- a digit that the number takes after the value so far
unfoldable pub taken : ℕ → ℕ → Bool
taken value b = is_ascii_digit b && leb value 999999999

-- the digits from place i on, after the value so far, and one byte more
unfoldable pub digits : List ℕ → ℕ → ℕ → Numeral
digits [] value i = numeral value i
digits (b ∷ bs) value i = cond (taken value b) (digits bs (value * 10 + (b - 48)) (i + 1)) (numeral value (i + 1))

unfoldable pub number_at : List ℕ → ℕ → Numeral
number_at text at = digits (drop at text) 0 at

-- one turn of the reader
module _ (text : List ℕ) (value i : ℕ) where
  pub digits_end : length text ≤ i → numeral value i ≡ digits (drop i text) value i
  unfolding digits
  digits_end h = rw (drop_of_length-le text h)

  module _ (h : i < length text) where
    opened : digits (drop i text) value i ≡ digits (get_or text i 0 ∷ drop (i + 1) text) value i
    opened = rw (add-one i, drop-cons text i 0 h)

    pub digits_stop : taken value (get_or text i 0) ≡ false → numeral value (i + 1) ≡ digits (drop i text) value i
    unfolding digits
    digits_stop e = rw (opened, e)

    pub digits_go : taken value (get_or text i 0) ≡ true → digits (drop (i + 1) text) (value * 10 + (get_or text i 0 - 48)) (i + 1) ≡ digits (drop i text) value i
    unfolding digits
    digits_go e = rw (opened, e)

-- the text from place at on: from its end on where it is shorter
module _ (text : List ℕ) (at start : ℕ) (e : start ≡ min at (length text)) where
  abbrev rest : List ℕ
  rest = take (length text - start) (drop start text)

  rest_length : length rest ≡ length text - start
  rest_length = length-take-le (length text - start) (drop start text) (rw (length-drop start text) (omega arith))

  module _ (i : ℕ) (h : i < length rest) where
    pub rest_start : start ≡ at
    rest_start = omega (arith, e, h, rest_length)

    pub rest_within : at + i < length text
    rest_within = omega (arith, e, h, rest_length)

    pub rest_byte : get_or rest i 0 ≡ get_or text (at + i) 0
    rest_byte = get_or-take (length text - start) (drop start text) i 0 (omega (arith, h, rest_length)) ∙ get_or-drop start text i 0 ∙ rw rest_start

  pub rest_end : (i : ℕ) → length rest ≤ i → i ≤ length rest → at + i ≡ max at (length text)
  rest_end i h g = omega (arith, e, h, g, rest_length)

-- when a byte is taken, by the tests that the reader makes
pub no_digit : (value b : ℕ) → is_ascii_digit b ≡ false → taken value b ≡ false
unfolding taken
no_digit value b e = rw e

pub too_large : (value b : ℕ) → 999999999 < value → taken value b ≡ false
unfolding taken
too_large value b l = rw (lt-leb value 999999999 l) (and-false (is_ascii_digit b))

pub a_digit : (value b : ℕ) → is_ascii_digit b ≡ true → value ≤ 999999999 → taken value b ≡ true
unfolding taken
a_digit value b e l = rw (e, le-leb value 999999999 l)

-- the same of the byte as a number
pub below_digits : (value b : ℕ) → b < 48 → taken value b ≡ false
unfolding taken
below_digits value b h = rw (lt-leb 48 b h)

pub above_digits : (value b : ℕ) → 48 ≤ b → 57 < b → taken value b ≡ false
unfolding taken
above_digits value b h g = rw (le-leb 48 b h, lt-leb b 57 g)

pub digit_taken : (value b : ℕ) → 48 ≤ b → b ≤ 57 → value ≤ 999999999 → taken value b ≡ true
unfolding taken
digit_taken value b h g l = rw (le-leb 48 b h, le-leb b 57 g, le-leb value 999999999 l)
