-- Lists of indices: how often one is named, and tests of every one that is.
use Rattle.std.specs.Prelude.{ℕ, ◌+◌, ◌<◌, Bool, true, ◌&&◌, ◌≡◌, refl, length, get_or, drop, eqb}
use Rattle.std.proofs.Math.Decide.{ℕ_discrete}
use Rattle.std.proofs.Common.{arith, sym, ap, ◌∙◌, eq-eqb, ne_eqb}
use mathlib.Core.List.{List, [], ◌∷◌, ◌++◌}
use Rattle.terms.specs.Below.{one, sum_below, both, and_make, sum_add, sum_zeros}
use Rattle.terms.specs.Sums.{sum_changed}

-- how often a list names an index
unfoldable pub times : ℕ → List ℕ → ℕ
times i [] = 0
times i (x ∷ xs) = one (eqb x i) + times i xs

-- the test holds of every index that is named
unfoldable pub every_named : (ℕ → Bool) → List ℕ → Bool
every_named p [] = true
every_named p (x ∷ xs) = p x && every_named p xs

pub times_append : (i : ℕ) (xs ys : List ℕ) → times i (xs ++ ys) ≡ times i xs + times i ys
unfolding times
times_append i [] ys = omega arith
times_append i (x ∷ xs) ys = omega (arith, times_append i xs ys)

-- one index alone
pub times_one : (i x : ℕ) → times i (x ∷ []) ≡ one (eqb x i)
unfolding times
times_one i x = omega arith

-- the first one, and what is left without it
pub times_first : (i d : ℕ) (xs : List ℕ) → 0 < length xs → times i xs ≡ one (eqb (get_or xs 0 d) i) + times i (drop 1 xs)
unfolding times
times_first i d [] h = absurd (omega arith)
times_first i d (x ∷ xs) h = refl

pub times_self : (x : ℕ) → one (eqb x x) ≡ 1
times_self x = rw (eq-eqb x x refl)

-- one index more at the end
pub times_more : (j i : ℕ) (xs : List ℕ) → times j (xs ++ i ∷ []) ≡ times j xs + one (eqb i j)
times_more j i xs = times_append j xs (i ∷ []) ∙ ap (λ (n : ℕ). times j xs + n) (times_one j i)

pub times_other : (i j : ℕ) → (j ≡ i → ⊥) → one (eqb i j) ≡ 0
times_other i j d = rw (ne_eqb i j (λ e. d (sym e)))

pub times_itself : (i j : ℕ) → j ≡ i → one (eqb i j) ≡ 1
times_itself i j e = rw (eq-eqb i j (sym e))

pub named_at : (p : ℕ → Bool) (xs : List ℕ) → every_named p xs ≡ true → (i : ℕ) → 0 < times i xs → p i ≡ true
unfolding times every_named
named_at p [] e i h = absurd (omega arith)
named_at p (x ∷ xs) e i h =
    let b = both (p x) (every_named p xs) e in
    elim (ℕ_discrete x i) [
      | yes q ↦ rw (← q) b.0
      | no d ↦ named_at p xs b.1 i (let g = rw (ne_eqb x i d) at h in omega (arith, g))
    ]

pub named_make : (p : ℕ → Bool) (xs : List ℕ) → ((i : ℕ) → 0 < times i xs → p i ≡ true) → every_named p xs ≡ true
unfolding times every_named
named_make p [] h = refl
named_make p (x ∷ xs) h =
    and_make (p x) (every_named p xs) (h x (omega (arith, times_self x)))
    (named_make p xs (λ i l. h i (omega arith)))

-- the entries of a list below n, counted index by index
module _ (n : ℕ) where
  one_entry : (x : ℕ) → x < n → sum_below n (λ i. one (eqb x i)) ≡ 1
  one_entry x h =
      let zeros = sum_zeros n in
      let change = sum_changed n x (λ i. 0) (λ i. one (eqb x i)) h (λ k l d. rw (ne_eqb x k (λ e. d (sym e)))) in
      let self : one (eqb x x) ≡ 1 = rw (eq-eqb x x refl) in
      omega (arith, change, zeros, self)

  pub sum_times : (xs : List ℕ) → ((i : ℕ) → 0 < times i xs → i < n) → sum_below n (λ i. times i xs) ≡ length xs
  unfolding times
  sum_times [] f = sum_zeros n
  sum_times (x ∷ xs) f =
      let self : one (eqb x x) ≡ 1 = rw (eq-eqb x x refl) in
      let first = one_entry x (f x (omega (arith, self))) in
      let rest = sum_times xs (λ i h. f i (omega arith)) in
      omega (arith, sum_add n (λ i. one (eqb x i)) (λ i. times i xs), first, rest)
