-- Document 02, Point 6: which tables of classes are allowed.
use Rattle.std.specs.Prelude.{ℕ, zero, suc, ◌+◌, Bool, false, cond, ◌&&◌, ◌||◌, List, length, get_or, leb, ltb, eqb}
use Rattle.terms.specs.Below.{every_below}

abbrev pub class_of : List ℕ → ℕ → ℕ
class_of classes code = get_or classes code 0

-- the test holds of some number below n
unfoldable pub some_below : ℕ → (ℕ → Bool) → Bool
some_below zero p = false
some_below (suc n) p = some_below n p || p n

-- the largest of f 0 .. f (n - 1)
unfoldable pub largest_below : ℕ → (ℕ → ℕ) → ℕ
largest_below zero f = 0
largest_below (suc n) f = cond (ltb (largest_below n f) (f n)) (f n) (largest_below n f)

-- a class occurs where some code has it
abbrev pub occurs : List ℕ → ℕ → Bool
occurs classes class = some_below 24 (λ code. eqb (class_of classes code) class)

abbrev pub largest : List ℕ → ℕ
largest classes = largest_below 24 (class_of classes)

-- 'Codes run 0 to 23 .., classes are at most 9, and every class from 0 to the largest used occurs. They need not rise.'
unfoldable pub table_allowed : List ℕ → Bool
table_allowed classes =
    eqb (length classes) 24 && (every_below 24 (λ code. leb (class_of classes code) 9) && every_below (largest classes + 1) (occurs classes))
