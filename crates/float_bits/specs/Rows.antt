-- Rows of words: equality, and what a scaled row adds to a row of sums.
use Rattle.std.specs.Prelude.{ℕ, zero, suc, ◌^◌, ◌≤◌, ◌≡◌, refl, Bool, true, false, ◌&&◌, cond, List, [], ◌∷◌, take, drop, pos, Float}
use Rattle.std.proofs.Common.{ap, ◌∙◌}
use Rattle.std.specs.Float.{binary32}
use Rattle.std.specs.Float.Ieee.{add, mul, of_int}
use Rattle.std.specs.Float.Ieee.Back.{round_whole}
use Rattle.std.specs.Float.Ieee.Exact.{HasValue}
use Rattle.terms.specs.Rows.{all_equal}
use Rattle.float_bits.specs.Words.{float_of, words_equal}

-- the same length, and the same word at each place
abbrev pub rows_equal : List ℕ → List ℕ → Bool
rows_equal a b = all_equal words_equal a b

cond_and : (t p q : Bool) → cond t (p && q) false ≡ (cond t p false && q)
cond_and true p q = refl
cond_and false p q = refl

-- two rows of any element are equal where their first n are, and the others
pub all_equal_split : {E : Type 0} (eq : E → E → Bool) (n : ℕ) (a b : List E) → all_equal eq a b ≡ (all_equal eq (take n a) (take n b) && all_equal eq (drop n a) (drop n b))
unfolding all_equal
all_equal_split eq zero a b = refl
all_equal_split eq (suc n) [] [] = refl
all_equal_split eq (suc n) [] (y ∷ ys) = refl
all_equal_split eq (suc n) (x ∷ xs) [] = refl
all_equal_split eq (suc n) (x ∷ xs) (y ∷ ys) =
    ap (λ (t : Bool). cond (eq x y) t false) (all_equal_split eq n xs ys)
    ∙ cond_and (eq x y) (all_equal eq (take n xs) (take n ys)) (all_equal eq (drop n xs) (drop n ys))

-- each element of the first list with its element of the second taken in; where the second ends, the first is left as it is
unfoldable pub zip_into : {S E : Type 0} → (S → E → S) → List S → List E → List S
zip_into f [] es = []
zip_into f (s ∷ ss) [] = s ∷ ss
zip_into f (s ∷ ss) (e ∷ es) = f s e ∷ zip_into f ss es

-- document 01, point_sum: 'adds stored float i × weight (converted, nothing lost), one rounding each'
unfoldable pub add_product : ℕ → Float → ℕ → Float
add_product weight sum w = add binary32 sum (mul binary32 (float_of w) (of_int binary32 (pos weight)))

abbrev pub add_scaled : ℕ → List Float → List ℕ → List Float
add_scaled weight sums row = zip_into (add_product weight) sums row

-- 'converted, nothing lost': the float of a weight is the weight itself
pub weight_exact : (weight : ℕ) → weight ≤ 2 ^ 24 → HasValue (of_int binary32 (pos weight)) false weight 1
unfolding of_int
weight_exact weight h = round_whole binary32 false weight h
