-- The first number below n that passes a test.
use Rattle.std.specs.Prelude.{ℕ, zero, suc, ◌≤◌, ◌<◌, Bool, true, false, cond, ◌≡◌, refl, ltb}
use Rattle.std.proofs.Common.{arith, sym, ◌∙◌, ⊎_elim, lt-ltb, le-ltb}
use Rattle.std.proofs.Math.Decide.{dec_lt}
use Rattle.terms.specs.Below.{below_or_last}

-- n where none passes
unfoldable pub first_below : ℕ → (ℕ → Bool) → ℕ
first_below zero p = 0
first_below (suc n) p = cond (ltb (first_below n p) n) (first_below n p) (cond (p n) n (suc n))

-- r is the first number below n that passes, or n
pub record First (n : ℕ) (p : ℕ → Bool) (r : ℕ) : Type 0 where
  pub within : r ≤ n
  pub passes : r < n → p r ≡ true
  pub none_before : (k : ℕ) → k < r → p k ≡ false

one_more : (n : ℕ) (p : ℕ → Bool) (r : ℕ) (b : Bool) → p n ≡ b → First n p r → First (suc n) p (cond (ltb r n) r (cond b n (suc n)))
one_more n p r b e f =
    elim (dec_lt r n) [
      | yes l ↦
          rw (lt-ltb r n l) (record { within = omega arith; passes = λ m. f.passes l; none_before = f.none_before })
      | no g ↦
          let q : r ≡ n = omega (arith, f.within) in
          let before : (k : ℕ) → k < n → p k ≡ false = λ k m. f.none_before k (omega arith) in
          rw (le-ltb r n (omega arith)) (last b e before)
    ]
  where
    last : (c : Bool) → p n ≡ c → ((k : ℕ) → k < n → p k ≡ false) → First (suc n) p (cond c n (suc n))
    last true d before = record { within = omega arith; passes = λ m. d; none_before = before }
    last false d before =
        record {
          within = omega arith;
          passes = λ m. absurd (omega arith);
          none_before = λ k m. ⊎_elim (λ l. before k l) (λ q. rw q d) (below_or_last n k m);
        }

pub first : (n : ℕ) (p : ℕ → Bool) → First n p (first_below n p)
unfolding first_below
first zero p = record { within = omega arith; passes = λ m. absurd (omega arith); none_before = λ k m. absurd (omega arith) }
first (suc n) p = one_more n p (first_below n p) (p n) refl (first n p)

not_both : (b : Bool) → b ≡ true → b ≡ false → ⊥
not_both b e f = let z : ◌≡◌ {A = ℕ} 0 1 = let t : true ≡ false = sym e ∙ f in cc in omega arith

-- no other number is the first
pub first_is : (n : ℕ) (p : ℕ → Bool) (r : ℕ) → First n p r → first_below n p ≡ r
first_is n p r f =
    let g = first n p in
    elim (dec_lt (first_below n p) r) [
      | yes l ↦ absurd (not_both (p (first_below n p)) (g.passes (omega (arith, f.within))) (f.none_before (first_below n p) l))
      | no a ↦
          elim (dec_lt r (first_below n p)) [
            | yes l ↦ absurd (not_both (p r) (f.passes (omega (arith, g.within))) (g.none_before r l))
            | no b ↦ omega arith
          ]
    ]
