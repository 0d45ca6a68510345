-- Sums over the numbers below n: one entry changed, bounds, and the order of summation.
use Rattle.std.specs.Prelude.{ℕ, zero, suc, ◌+◌, ◌*◌, ◌≤◌, ◌<◌, ◌≡◌, refl}
use Rattle.std.proofs.Common.{suc-mul, arith, sym, ◌∙◌, ap₂, ⊎_elim}
use Rattle.terms.specs.Below.{sum_below, below_or_last, sum_same, sum_zeros, sum_add, sum_ones}

-- two functions that agree below n but at i
pub sum_changed : (n i : ℕ) (f g : ℕ → ℕ) → i < n → ((k : ℕ) → k < n → (k ≡ i → ⊥) → g k ≡ f k) → sum_below n g + f i ≡ sum_below n f + g i
unfolding sum_below
sum_changed zero i f g h e = absurd (omega arith)
sum_changed (suc n) i f g h e =
    ⊎_elim
    (λ l. omega (arith, sum_changed n i f g l (λ k m d. e k (omega arith) d), e n (omega arith) (λ q. omega arith)))
    (λ q. rw q (omega (arith, sum_same n g f (λ k l. e k (omega arith) (λ r. omega arith)))))
    (below_or_last n i h)

-- an entry is at most the sum
pub at_le_sum : (n : ℕ) (f : ℕ → ℕ) (i : ℕ) → i < n → f i ≤ sum_below n f
unfolding sum_below
at_le_sum zero f i h = absurd (omega arith)
at_le_sum (suc n) f i h = ⊎_elim (λ l. omega (arith, at_le_sum n f i l)) (λ q. rw q (omega arith)) (below_or_last n i h)

-- entries of at most b add up to at most n times b
pub sum_most : (n b : ℕ) (f : ℕ → ℕ) → ((i : ℕ) → i < n → f i ≤ b) → sum_below n f ≤ n * b
unfolding sum_below
sum_most zero b f h = omega arith
sum_most (suc n) b f h = rw (suc-mul n b) (omega (arith, sum_most n b f (λ i l. h i (omega arith)), h n (omega arith)))

-- entries of at most 1, one of them 0, add up to less than n
pub sum_less : (n i : ℕ) (f : ℕ → ℕ) → ((k : ℕ) → k < n → f k ≤ 1) → i < n → f i ≡ 0 → sum_below n f < n
unfolding sum_below
sum_less zero i f h l z = absurd (omega arith)
sum_less (suc n) i f h l z =
    ⊎_elim
    (λ m. omega (arith, sum_less n i f (λ k p. h k (omega arith)) m z, h n (omega arith)))
    (λ q. omega (arith, rw q at z, sum_ones n f (λ k p. h k (omega arith))))
    (below_or_last n i l)

-- entries that are all 1 add up to n
pub sum_full : (n : ℕ) (f : ℕ → ℕ) → ((i : ℕ) → i < n → f i ≡ 1) → sum_below n f ≡ n
unfolding sum_below
sum_full zero f h = refl
sum_full (suc n) f h = omega (arith, sum_full n f (λ i l. h i (omega arith)), h n (omega arith))

-- the order of summation plays no part
pub sum_swap : (n m : ℕ) (f : ℕ → ℕ → ℕ) → sum_below n (λ i. sum_below m (λ j. f i j)) ≡ sum_below m (λ j. sum_below n (λ i. f i j))
unfolding sum_below
sum_swap zero m f = sym (sum_zeros m)
sum_swap (suc n) m f =
    ap₂ (λ (a b : ℕ). a + b) (sum_swap n m f) refl ∙ sym (sum_add m (λ j. sum_below n (λ i. f i j)) (f n))
