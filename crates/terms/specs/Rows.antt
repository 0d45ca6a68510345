-- Rows of any element, compared by any equality of two elements.
use Rattle.std.specs.Prelude.{Bool, true, false, cond, List, [], ◌∷◌, ◌≡◌, refl}
use Rattle.std.proofs.lemmas.Bool.{false≢true}

-- the same length, and equal element by element
unfoldable pub all_equal : {E : Type 0} → (E → E → Bool) → List E → List E → Bool
all_equal eq [] [] = true
all_equal eq [] (y ∷ ys) = false
all_equal eq (x ∷ xs) [] = false
all_equal eq (x ∷ xs) (y ∷ ys) = cond (eq x y) (all_equal eq xs ys) false

-- an equality that is exact: equal elements are the same
abbrev pub Exact : {E : Type 0} → (E → E → Bool) → Type 0
Exact {E} eq = (x y : E) → eq x y ≡ true → x ≡ y

-- so equal rows are the same
pub rows_same : {E : Type 0} (eq : E → E → Bool) → Exact eq → (xs ys : List E) → all_equal eq xs ys ≡ true → xs ≡ ys
unfolding all_equal
rows_same eq exact [] [] h = refl
rows_same eq exact [] (y ∷ ys) h = absurd (false≢true h)
rows_same eq exact (x ∷ xs) [] h = absurd (false≢true h)
rows_same eq exact (x ∷ xs) (y ∷ ys) h = go (eq x y) refl h (rows_same eq exact xs ys)
  where
    go : (t : Bool) → eq x y ≡ t → cond t (all_equal eq xs ys) false ≡ true → (all_equal eq xs ys ≡ true → xs ≡ ys) → x ∷ xs ≡ y ∷ ys
    go true e k rest = λ i. exact x y e i ∷ rest k i
    go false e k rest = absurd (false≢true k)
