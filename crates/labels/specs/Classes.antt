-- Document 01, 'Reason classes': the class of each code. Definitions, laws and code take the table as a parameter; of a
-- table they use that no class is above 9.
use Rattle.std.specs.Prelude.{ℕ, ◌≤◌, List, get_or}

abbrev pub class_of : List ℕ → ℕ → ℕ
class_of classes code = get_or classes code 0

-- no class of the table is above 9
abbrev pub AtMostNine : List ℕ → Type 0
AtMostNine classes = (code : ℕ) → code ≤ 23 → class_of classes code ≤ 9
