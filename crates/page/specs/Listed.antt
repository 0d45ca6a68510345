-- Rows of the numbers below n that pass a test, in rising order, each beginning with its number. Their laws are in proofs/ListedLaws.
use Rattle.std.specs.Prelude.{ℕ, zero, suc, Bool, cond, List, [], ◌∷◌, ◌++◌, eqb}

unfoldable pub listed : ℕ → (ℕ → Bool) → (ℕ → List ℕ) → List (List ℕ)
listed zero test cells = []
listed (suc n) test cells = listed n test cells ++ cond (test n) ((n ∷ cells n) ∷ []) []

-- the first row that begins with a number, [] where none does
unfoldable pub row_of : ℕ → List (List ℕ) → List ℕ
row_of i [] = []
row_of i ([] ∷ rs) = row_of i rs
row_of i ((x ∷ xs) ∷ rs) = cond (eqb x i) (x ∷ xs) (row_of i rs)
