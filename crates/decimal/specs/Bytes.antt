-- Laws of `same_bytes`: it is equality, and it goes part by part.
use Rattle.std.specs.Prelude.{ℕ, List, [], ◌∷◌, ◌++◌, Bool, true, false, cond, ◌&&◌, ◌≡◌, refl, length, eqb}
use Rattle.std.proofs.Common.{arith, ap, ◌∙◌, eq-eqb, eqb-true}
use Rattle.std.proofs.lemmas.Bool.{false≢true}
use Rattle.terms.specs.Rows.{all_equal}
use Rattle.decimal.specs.Field.{same_bytes}

pub same_refl : (bs : List ℕ) → same_bytes bs bs ≡ true
unfolding all_equal
same_refl [] = refl
same_refl (b ∷ bs) = rw (eq-eqb b b refl, same_refl bs)

pub same_equal : (bs cs : List ℕ) → same_bytes bs cs ≡ true → bs ≡ cs
unfolding all_equal
same_equal [] [] e = refl
same_equal [] (c ∷ cs) e = absurd (false≢true e)
same_equal (b ∷ bs) [] e = absurd (false≢true e)
same_equal (b ∷ bs) (c ∷ cs) e = go (eqb b c) refl e (same_equal bs cs)
  where
    go : (t : Bool) → eqb b c ≡ t → cond t (same_bytes bs cs) false ≡ true → (same_bytes bs cs ≡ true → bs ≡ cs) → b ∷ bs ≡ c ∷ cs
    go true h k rest = rw (eqb-true b c h, rest k)
    go false h k rest = absurd (false≢true k)

-- two parts of equal lengths, one behind the other
pub same_append : (xs bs cs ds : List ℕ) → length xs ≡ length cs → same_bytes (xs ++ bs) (cs ++ ds) ≡ (same_bytes xs cs && same_bytes bs ds)
unfolding all_equal
same_append [] bs [] ds e = refl
same_append [] bs (c ∷ cs) ds e = absurd (omega arith)
same_append (x ∷ xs) bs [] ds e = absurd (omega arith)
same_append (x ∷ xs) bs (c ∷ cs) ds e =
    ap (λ (t : Bool). cond (eqb x c) t false) (same_append xs bs cs ds (omega arith)) ∙ within (eqb x c)
  where
    within : (t : Bool) → cond t (same_bytes xs cs && same_bytes bs ds) false ≡ (cond t (same_bytes xs cs) false && same_bytes bs ds)
    within true = refl
    within false = refl

-- one byte more behind each
pub same_snoc : (bs cs : List ℕ) (b c : ℕ) → length bs ≡ length cs → same_bytes (bs ++ (b ∷ [])) (cs ++ (c ∷ [])) ≡ (eqb b c && same_bytes bs cs)
unfolding all_equal
same_snoc bs cs b c e = same_append bs (b ∷ []) cs (c ∷ []) e ∙ turned (same_bytes bs cs) (eqb b c)
  where
    turned : (s t : Bool) → (s && cond t true false) ≡ (t && s)
    turned true true = refl
    turned true false = refl
    turned false true = refl
    turned false false = refl
