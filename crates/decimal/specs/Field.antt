-- Document 02, Points 6, 7 and 10: a decimal number in a field of any width, 'right-justified with spaces, no leading zeros'.
use Rattle.std.specs.Prelude.{ℕ, zero, suc, ◌+◌, ◌-◌, ◌*◌, ◌/◌, ◌%◌, List, [], ◌∷◌, ◌++◌, Bool, cond, ◌&&◌, Option, Some, None, length, leb, eqb}
use Rattle.terms.specs.Rows.{all_equal}

-- the byte of the digit that a number ends with
abbrev pub last_digit : ℕ → ℕ
last_digit n = 48 + n % 10

-- the byte of a column left of the last: the last digit of what is left of the number, a space once nothing is left
unfoldable pub column : ℕ → ℕ
column rest = cond (eqb rest 0) 32 (last_digit rest)

-- the columns left of the last, as many as asked for
unfoldable pub columns : ℕ → ℕ → List ℕ
columns zero rest = []
columns (suc w) rest = columns w (rest / 10) ++ (column rest ∷ [])

-- a number in a field: the last column always holds a digit
unfoldable pub field : ℕ → ℕ → List ℕ
field zero n = []
field (suc w) n = columns w (n / 10) ++ (last_digit n ∷ [])

-- what a byte counts for: a digit for itself, every other byte for 0
unfoldable pub digit : ℕ → ℕ
digit b = cond (leb 48 b && leb b 57) (b - 48) 0

-- what bytes count for behind a number
unfoldable pub value_from : ℕ → List ℕ → ℕ
value_from v [] = v
value_from v (b ∷ bs) = value_from (v * 10 + digit b) bs

abbrev pub value : List ℕ → ℕ
value bs = value_from 0 bs

-- the same bytes
abbrev pub same_bytes : List ℕ → List ℕ → Bool
same_bytes bs cs = all_equal eqb bs cs

-- bytes are the field of a number where writing the number makes them
unfoldable pub is_field : List ℕ → ℕ → Bool
is_field bs n = same_bytes bs (field (length bs) n)

-- a field is read by value, and accepted where writing that value makes it
unfoldable pub field_read : List ℕ → Option ℕ
field_read bs = cond (is_field bs (value bs)) (Some (value bs)) None
