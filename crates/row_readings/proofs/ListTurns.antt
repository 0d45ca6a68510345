-- One turn of each loop over an index list.
use Prim.Native.Nat.{ℕ, zero, suc, ◌+◌, ◌<◌}
use native.Mathlib.Numerals.{add-one}
use native.Mathlib.Omega.{arith}
use mathlib.Core.Bool.{true}
use mathlib.Core.List.{List, [], ◌∷◌, ◌++◌, map, map-append, append_assoc}
use mathlib.Core.Path.{◌≡◌, refl, sym, ap, ◌∙◌}
use lib.Dec.{ltb}
use lib.ListN.{length, get_or, take, set}
use lib.Seq.{take-suc, take-suc-set}
use borrow.Author.Tests.{ltb-true}
use Rattle.std.specs.List.{list_all}
use Rattle.terms.specs.Below.{both}
use Rattle.store_definitions.specs.IndexLists.{values_below, up_to}

module _ (n : ℕ) where
  -- every value is below n
  pub below_all : (vs : List ℕ) → values_below n vs ≡ list_all (λ v. ltb v n) vs
  unfolding values_below
  below_all [] = refl
  below_all (v ∷ vs) = rw (below_all vs)

  -- each value of a list that passed
  pub below_at : (vs : List ℕ) → values_below n vs ≡ true → (i : ℕ) → i < length vs → get_or vs i 0 < n
  unfolding values_below
  below_at [] e i h = absurd (omega arith)
  below_at (v ∷ vs) e zero h = ltb-true v n (both (ltb v n) (values_below n vs) e).0
  below_at (v ∷ vs) e (suc i) h = below_at vs (both (ltb v n) (values_below n vs) e).1 i (omega arith)

-- 0 to n are 0 to n − 1, and n
up_to_rest : (n : ℕ) (rest : List ℕ) → up_to n rest ≡ up_to n [] ++ rest
unfolding up_to
up_to_rest zero rest = refl
up_to_rest (suc n) rest =
    up_to_rest n (n ∷ rest) ∙ sym (ap (λ (l : List ℕ). l ++ rest) (up_to_rest n (n ∷ [])) ∙ append_assoc (up_to n []) (n ∷ []) rest)

up_to_next : (n : ℕ) → up_to (suc n) [] ≡ up_to n [] ++ (n ∷ [])
unfolding up_to
up_to_next n = up_to_rest n (n ∷ [])

-- one entry more is written
module _ (f : ℕ → ℕ) (out : List ℕ) (i : ℕ) (inside : i < length out) where
  entry_turn : (done next : List ℕ) (v : ℕ) → take i out ≡ map f done → next ≡ done ++ (v ∷ []) → take (i + 1) (set out i (f v)) ≡ map f next
  entry_turn done next v e n =
      rw (add-one i)
      (take-suc-set out i (f v) inside
      ∙ ap (λ (l : List ℕ). l ++ (f v ∷ [])) e
      ∙ sym (ap (map f) n ∙ map-append f done (v ∷ [])))

  pub value_turn : (vs : List ℕ) → i < length vs → take i out ≡ map f (take i vs) → take (i + 1) (set out i (f (get_or vs i 0))) ≡ map f (take (i + 1) vs)
  value_turn vs h e = entry_turn (take i vs) (take (i + 1) vs) (get_or vs i 0) e (rw (add-one i) (take-suc vs i 0 h))

  pub count_turn : take i out ≡ map f (up_to i []) → take (i + 1) (set out i (f i)) ≡ map f (up_to (i + 1) [])
  count_turn e = entry_turn (up_to i []) (up_to (i + 1) []) i e (rw (add-one i) (up_to_next i))
