-- Laws of one interval: which indices it holds, how many, and what one index more or less at either end does to it.
use Rattle.std.specs.Prelude.{ℕ, zero, suc, ◌+◌, ◌-◌, ◌≤◌, ◌<◌, true, false, ◌≡◌, refl, leb, eqb}
use Rattle.std.proofs.Common.{arith, le-leb, eq-eqb, ne_eqb, leb-true}
use Rattle.std.proofs.Math.Decide.{dec_lt}
use Rattle.std.proofs.Math.Bool.{and-false}
use Rattle.std.proofs.lemmas.Bool.{lt-leb}
use Rattle.terms.specs.Below.{one, both, sum_below}
use Rattle.interval_store_manager.specs.Intervals.{inside}

pub inside_yes : (s e i : ℕ) → s ≤ i → i ≤ e → inside s e i ≡ true
unfolding inside
inside_yes s e i h g = rw (le-leb s i h, le-leb i e g)

pub inside_left : (s e i : ℕ) → i < s → inside s e i ≡ false
unfolding inside
inside_left s e i h = rw (lt-leb s i h)

pub inside_right : (s e i : ℕ) → e < i → inside s e i ≡ false
unfolding inside
inside_right s e i h = rw (lt-leb i e h) (and-false (leb s i))

pub inside_holds : (s e i : ℕ) → inside s e i ≡ true → (s ≤ i) × (i ≤ e)
unfolding inside
inside_holds s e i h = let p = both (leb s i) (leb i e) h in (leb-true s i p.0, leb-true i e p.1)

-- [i, i] holds i alone
pub inside_single : (i k : ℕ) → one (inside i i k) ≡ one (eqb k i)
inside_single i k =
    elim (dec_lt k i) [
      | yes l ↦ rw (inside_left i i k l, ne_eqb k i (λ e. omega arith))
      | no g ↦
          elim (dec_lt i k) [
            | yes l ↦ rw (inside_right i i k l, ne_eqb k i (λ e. omega arith))
            | no f ↦ rw (inside_yes i i k (omega arith) (omega arith), eq-eqb k i (omega arith))
          ]
    ]

-- [s, e] is s and [s + 1, e]
pub inside_first : (s e k : ℕ) → s ≤ e → one (inside s e k) ≡ one (inside (s + 1) e k) + one (eqb k s)
inside_first s e k h =
    elim (dec_lt k s) [
      | yes l ↦ rw (inside_left s e k l, inside_left (s + 1) e k (omega arith), ne_eqb k s (λ e. omega arith))
      | no g ↦
          elim (dec_lt s k) [
            | yes l ↦
                elim (dec_lt e k) [
                  | yes m ↦ rw (inside_right s e k m, inside_right (s + 1) e k m, ne_eqb k s (λ e. omega arith))
                  | no f ↦ rw (inside_yes s e k (omega arith) (omega arith), inside_yes (s + 1) e k (omega arith) (omega arith), ne_eqb k s (λ e. omega arith))
                ]
            | no f ↦ rw (inside_yes s e k (omega arith) (omega arith), inside_left (s + 1) e k (omega arith), eq-eqb k s (omega arith))
          ]
    ]

-- [s, e + 1] is [s, e] and e + 1
pub inside_last : (s e k : ℕ) → s ≤ e → one (inside s (e + 1) k) ≡ one (inside s e k) + one (eqb k (e + 1))
inside_last s e k h =
    elim (dec_lt k s) [
      | yes l ↦ rw (inside_left s (e + 1) k l, inside_left s e k l, ne_eqb k (e + 1) (λ e. omega arith))
      | no g ↦
          elim (dec_lt e k) [
            | yes l ↦
                elim (dec_lt (e + 1) k) [
                  | yes m ↦ rw (inside_right s (e + 1) k m, inside_right s e k l, ne_eqb k (e + 1) (λ e. omega arith))
                  | no f ↦ rw (inside_yes s (e + 1) k (omega arith) (omega arith), inside_right s e k l, eq-eqb k (e + 1) (omega arith))
                ]
            | no f ↦ rw (inside_yes s (e + 1) k (omega arith) (omega arith), inside_yes s e k (omega arith) (omega arith), ne_eqb k (e + 1) (λ e. omega arith))
          ]
    ]

-- how many indices below n an interval holds: none where n is at most its start, all where n is past its end
none_below : (n s e : ℕ) → n ≤ s → sum_below n (λ i. one (inside s e i)) ≡ 0
unfolding sum_below
none_below zero s e h = refl
none_below (suc n) s e h = rw (inside_left s e n (omega arith), none_below n s e (omega arith))

some_below : (n s e : ℕ) → s ≤ n → n ≤ e + 1 → sum_below n (λ i. one (inside s e i)) ≡ n - s
unfolding sum_below
some_below zero s e h g = omega arith
some_below (suc n) s e h g =
    elim (dec_lt n s) [
      | yes l ↦ rw (inside_left s e n l, none_below n s e (omega arith)) (omega arith)
      | no f ↦ rw (inside_yes s e n (omega arith) (omega arith)) (omega (arith, some_below n s e (omega arith) (omega arith)))
    ]

pub interval_size : (n s e : ℕ) → s ≤ e → e < n → sum_below n (λ i. one (inside s e i)) ≡ e - s + 1
unfolding sum_below
interval_size zero s e h g = absurd (omega arith)
interval_size (suc n) s e h g =
    elim (dec_lt e n) [
      | yes l ↦ rw (inside_right s e n l) (omega (arith, interval_size n s e h l))
      | no f ↦ rw (inside_yes s e n (omega arith) (omega arith)) (omega (arith, some_below n s e (omega arith) (omega arith)))
    ]
