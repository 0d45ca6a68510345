-- Tests, sums and counts over the numbers below n, and the laws that tie them together.
use Rattle.std.specs.Prelude.{ℕ, zero, suc, ◌+◌, ◌≤◌, ◌<◌, Bool, true, false, cond, ◌&&◌, ◌≡◌, refl, ◌⊎◌}
use Rattle.std.proofs.Common.{arith, sym, ap₂, inl, inr, ⊎_elim}
use Rattle.std.proofs.Math.Decide.{dec_lt}
use Rattle.std.proofs.Math.Bool.{and-false}

-- the test holds of every number below n
unfoldable pub every_below : ℕ → (ℕ → Bool) → Bool
every_below zero p = true
every_below (suc n) p = every_below n p && p n

-- f 0 + .. + f (n - 1)
unfoldable pub sum_below : ℕ → (ℕ → ℕ) → ℕ
sum_below zero f = 0
sum_below (suc n) f = sum_below n f + f n

-- 1 where the test holds, else 0
abbrev pub one : Bool → ℕ
one b = cond b 1 0

-- how many numbers below n pass the test
unfoldable pub count_below : ℕ → (ℕ → Bool) → ℕ
count_below n p = sum_below n (λ i. one (p i))

-- a conjunction, taken apart and made
pub both : (a b : Bool) → a && b ≡ true → (a ≡ true) × (b ≡ true)
both true b e = (refl, e)
both false b e = absurd (let z : ◌≡◌ {A = ℕ} 0 1 = cc in omega arith)

pub and_make : (a b : Bool) → a ≡ true → b ≡ true → a && b ≡ true
and_make a b e f = rw (e, f)

-- a test that cannot hold fails
pub fails : (b : Bool) → (b ≡ true → ⊥) → b ≡ false
fails true h = absurd (h refl)
fails false h = refl

-- a number below n + 1 is below n or is n
pub below_or_last : (n i : ℕ) → i < suc n → (i < n) ⊎ (i ≡ n)
below_or_last n i h = elim (dec_lt i n) [ yes l ↦ inl l | no g ↦ inr (omega arith) ]

-- a number that is not 0 is above it
pub positive : (n : ℕ) → (n ≡ 0 → ⊥) → 0 < n
positive n d = elim (dec_lt 0 n) [ yes l ↦ l | no g ↦ absurd (d (omega arith)) ]

pub every_at : (n : ℕ) (p : ℕ → Bool) → every_below n p ≡ true → (i : ℕ) → i < n → p i ≡ true
unfolding every_below
every_at zero p e i h = absurd (omega arith)
every_at (suc n) p e i h =
    ⊎_elim (λ l. every_at n p (both _ _ e).0 i l) (λ q. rw q (both (every_below n p) (p n) e).1) (below_or_last n i h)

pub every_make : (n : ℕ) (p : ℕ → Bool) → ((i : ℕ) → i < n → p i ≡ true) → every_below n p ≡ true
unfolding every_below
every_make zero p h = refl
every_make (suc n) p h = and_make _ _ (every_make n p (λ i l. h i (omega arith))) (h n (omega arith))

-- sums of functions that agree, or are ordered, below n
pub sum_same : (n : ℕ) (f g : ℕ → ℕ) → ((i : ℕ) → i < n → f i ≡ g i) → sum_below n f ≡ sum_below n g
unfolding sum_below
sum_same zero f g h = refl
sum_same (suc n) f g h = ap₂ (λ (a b : ℕ). a + b) (sum_same n f g (λ i l. h i (omega arith))) (h n (omega arith))

pub sum_le : (n : ℕ) (f g : ℕ → ℕ) → ((i : ℕ) → i < n → f i ≤ g i) → sum_below n f ≤ sum_below n g
unfolding sum_below
sum_le zero f g h = omega arith
sum_le (suc n) f g h = omega (arith, sum_le n f g (λ i l. h i (omega arith)), h n (omega arith))

pub sum_add : (n : ℕ) (f g : ℕ → ℕ) → sum_below n (λ i. f i + g i) ≡ sum_below n f + sum_below n g
unfolding sum_below
sum_add zero f g = refl
sum_add (suc n) f g = omega (arith, sum_add n f g)

pub sum_zeros : (n : ℕ) → sum_below n (λ i. 0) ≡ 0
unfolding sum_below
sum_zeros zero = refl
sum_zeros (suc n) = rw (sum_zeros n)

-- what is 0 from n on adds nothing there
pub sum_beyond : (n d : ℕ) (f : ℕ → ℕ) → ((i : ℕ) → n ≤ i → f i ≡ 0) → n ≤ d → sum_below d f ≡ sum_below n f
unfolding sum_below
sum_beyond n zero f z h = let e : n ≡ 0 = omega arith in rw e
sum_beyond n (suc d) f z h =
    elim (dec_lt d n) [
      | yes l ↦ let e : n ≡ suc d = omega arith in rw e
      | no g ↦ omega (arith, sum_beyond n d f z (omega arith), z d (omega arith))
    ]

-- two ordered functions whose sums are equal agree everywhere below n
pub sum_tight : (n : ℕ) (f g : ℕ → ℕ) → ((i : ℕ) → i < n → f i ≤ g i) → sum_below n f ≡ sum_below n g → (i : ℕ) → i < n → f i ≡ g i
unfolding sum_below
sum_tight zero f g h e i l = absurd (omega arith)
sum_tight (suc n) f g h e i l =
    let lower : (k : ℕ) → k < n → f k ≤ g k = λ k m. h k (omega arith) in
    let sums : sum_below n f ≤ sum_below n g = sum_le n f g lower in
    let top : f n ≤ g n = h n (omega arith) in
    ⊎_elim (λ m. sum_tight n f g lower (omega arith) i m) (λ q. rw q (omega arith)) (below_or_last n i l)

pub one_le : (b : Bool) → one b ≤ 1
one_le true = omega arith
one_le false = omega arith

pub one_true : (b : Bool) → one b ≡ 1 → b ≡ true
one_true true e = refl
one_true false e = absurd (omega arith)

pub one_false : (b : Bool) → (one b ≡ 1 → ⊥) → b ≡ false
one_false true h = absurd (h refl)
one_false false h = refl

pub sum_ones : (n : ℕ) (f : ℕ → ℕ) → ((i : ℕ) → i < n → f i ≤ 1) → sum_below n f ≤ n
unfolding sum_below
sum_ones zero f h = omega arith
sum_ones (suc n) f h = omega (arith, sum_ones n f (λ i l. h i (omega arith)), h n (omega arith))

pub count_le : (n : ℕ) (p : ℕ → Bool) → count_below n p ≤ n
unfolding count_below
count_le n p = sum_ones n (λ i. one (p i)) (λ i l. one_le (p i))

-- two tests of every number are one
pub every_and : (n : ℕ) (p q : ℕ → Bool) → every_below n (λ i. p i && q i) ≡ (every_below n p && every_below n q)
unfolding every_below
every_and zero p q = refl
every_and (suc n) p q = rw (every_and n p q) (swap (every_below n p) (every_below n q) (p n) (q n))
  where
    swap : (a b c d : Bool) → (a && b && (c && d)) ≡ (a && c && (b && d))
    swap true true c d = refl
    swap true false c d = sym (and-false c)
    swap false b c d = refl
