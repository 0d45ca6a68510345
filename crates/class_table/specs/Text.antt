-- Document 02, Point 6: the text of a table, and the table that a text holds.
use Rattle.std.specs.Prelude.{ℕ, zero, suc, cond, ◌&&◌, Option, Some, None, unwrap_or, List, [], ◌∷◌, take, drop, replicate}
use Rattle.decimal.specs.Field.{value, same_bytes}
use Rattle.decimal.specs.Lines.{lines}
use Rattle.class_table.specs.Table.{table_allowed}

-- each class behind its code, from a code on
unfoldable pub numbered : ℕ → List ℕ → List (List ℕ)
numbered code [] = []
numbered code (class ∷ classes) = (code ∷ class ∷ []) ∷ numbered (suc code) classes

-- 'each a code in columns 1 to 4 and a class in columns 5 to 8, right-justified with spaces, no leading zeros, one line feed'
unfoldable pub table_text : List ℕ → List ℕ
table_text classes = lines 4 (numbered 0 classes)

-- what stands in columns 5 to 8 of a line, and of n lines
abbrev pub line_class : List ℕ → ℕ
line_class t = value (take 4 (drop 4 t))

unfoldable pub classes_of : ℕ → List ℕ → List ℕ
classes_of zero t = []
classes_of (suc n) t = line_class t ∷ classes_of n (drop 9 t)

-- accepted is the text of an allowed table, and none other ('Any other text gets 17')
unfoldable pub table_read : List ℕ → Option (List ℕ)
table_read t = cond (same_bytes t (table_text (classes_of 24 t)) && table_allowed (classes_of 24 t)) (Some (classes_of 24 t)) None

-- the table of a text, and the table of zeros where it holds none
abbrev pub table_of : List ℕ → List ℕ
table_of t = unwrap_or (table_read t) (replicate 24 0)
