-- The newest of a list when one more comes, and what holds of every entry.
use Prim.Native.Nat.{ℕ, zero, suc, ◌≤◌, ◌<◌}
use Rattle.std.proofs.Math.Decide.{dec_lt}
use Rattle.std.proofs.Common.{arith, sym, ◌∙◌, eq-eqb, lt-ltb, le-ltb}
use Rattle.std.specs.Prelude.{Bool, ◌≡◌, ltb, eqb}
use Rattle.std.proofs.Math.Bool.{true, false, cond}
use mathlib.Core.List.{List, [], ◌∷◌, ◌++◌}
use Rattle.std.proofs.Math.Path.{refl, ap}
use Rattle.std.proofs.Math.ListN.{length, drop, length-append}
use Rattle.terms.specs.Below.{one}
use Rattle.hold_definitions.specs.Listed.{times}
use Rattle.hold_guarantee.specs.History.{KeptAdd, indices, newest}
use Rattle.hold_guarantee.specs.Guarantee.{Each}

module _ {A : Type 0} where
  -- where there are more than n, the newest n are the newest n + 1 without their oldest
  newest_full : (n : ℕ) (xs : List A) → n < length xs → drop 1 (newest (suc n) xs) ≡ newest n xs
  unfolding newest
  newest_full n [] h = absurd (omega arith)
  newest_full zero (x ∷ xs) h = refl
  newest_full (suc n) (x ∷ xs) h = shift (newest (suc n) xs) (x ∷ []) (some n xs (omega arith)) ∙ ap (λ (ys : List A). ys ++ x ∷ []) (newest_full n xs (omega arith))
    where
      shift : (ys zs : List A) → 0 < length ys → drop 1 (ys ++ zs) ≡ drop 1 ys ++ zs
      shift [] zs g = absurd (omega arith)
      shift (y ∷ ys) zs g = refl

      some : (k : ℕ) (ys : List A) → k < length ys → 0 < length (newest (suc k) ys)
      some k [] g = absurd (omega arith)
      some k (y ∷ ys) g = omega (arith, length-append (newest k ys) (y ∷ []))

  -- where there are at most n, they are all
  newest_all : (n : ℕ) (xs : List A) → length xs ≤ n → newest (suc n) xs ≡ newest n xs
  unfolding newest
  newest_all zero [] h = refl
  newest_all (suc n) [] h = refl
  newest_all zero (x ∷ xs) h = absurd (omega arith)
  newest_all (suc n) (x ∷ xs) h = ap (λ (ys : List A). ys ++ x ∷ []) (newest_all n xs (omega arith))

  newest_length : (n : ℕ) (xs : List A) → n ≤ length xs → length (newest n xs) ≡ n
  unfolding newest
  newest_length zero xs h = refl
  newest_length (suc n) [] h = absurd (omega arith)
  newest_length (suc n) (x ∷ xs) h = length-append (newest n xs) (x ∷ []) ∙ (let e = newest_length n xs (omega arith) in omega (arith, e))

  newest_few : (n : ℕ) (xs : List A) → length xs ≤ n → length (newest n xs) ≡ length xs
  unfolding newest
  newest_few zero [] h = refl
  newest_few zero (x ∷ xs) h = absurd (omega arith)
  newest_few (suc n) [] h = refl
  newest_few (suc n) (x ∷ xs) h = length-append (newest n xs) (x ∷ []) ∙ (let e = newest_few n xs (omega arith) in omega (arith, e))

  -- one more at the end, and the oldest away once there are more than n
  unfoldable pub trimmed : ℕ → List A → List A
  trimmed n xs = cond (ltb n (length xs)) (drop 1 xs) xs

  pub newest_trimmed : (n : ℕ) (x : A) (xs : List A) → newest n (x ∷ xs) ≡ trimmed n (newest n xs ++ x ∷ [])
  unfolding trimmed newest
  newest_trimmed n x xs =
      elim (dec_lt n (length (x ∷ xs))) [
        | yes h ↦ rw (lt-ltb n (length (newest (suc n) (x ∷ xs))) (omega (arith, newest_length (suc n) (x ∷ xs) (omega arith)))) (sym (newest_full n (x ∷ xs) h))
        | no g ↦ rw (le-ltb n (length (newest (suc n) (x ∷ xs))) (omega (arith, newest_few (suc n) (x ∷ xs) (omega arith)))) (sym (newest_all n (x ∷ xs) (omega arith)))
      ]

  -- ---- of every entry

  pub each_append : (P : A → Type 0) (xs : List A) (x : A) → Each P xs → P x → Each P (xs ++ x ∷ [])
  each_append P [] x e p = (p, tt)
  each_append P (y ∷ ys) x e p = (e.0, each_append P ys x e.1 p)

  pub each_last : (P : A → Type 0) (xs : List A) (x : A) → Each P (xs ++ x ∷ []) → P x
  each_last P [] x e = e.0
  each_last P (y ∷ ys) x e = each_last P ys x e.1

  pub each_drop : (P : A → Type 0) (xs : List A) → Each P xs → Each P (drop 1 xs)
  each_drop P [] e = tt
  each_drop P (x ∷ xs) e = e.1

  pub each_map : (P Q : A → Type 0) → ((x : A) → P x → Q x) → (xs : List A) → Each P xs → Each Q xs
  each_map P Q f [] e = tt
  each_map P Q f (x ∷ xs) e = (f x e.0, each_map P Q f xs e.1)

  -- the newest of at least one is the last
  pub newest_last : (P : A → Type 0) (n : ℕ) (x : A) (xs : List A) → 0 < n → Each P (newest n (x ∷ xs)) → P x
  unfolding newest
  newest_last P zero x xs h e = absurd (omega arith)
  newest_last P (suc n) x xs h e = each_last P (newest n xs) x e

module _ {E : Type 0} where
  pub indices_append : (ks : List (KeptAdd E)) (k : KeptAdd E) → indices (ks ++ k ∷ []) ≡ indices ks ++ k.index ∷ []
  unfolding indices
  indices_append [] k = refl
  indices_append (j ∷ ks) k = ap (λ (xs : List ℕ). j.index ∷ xs) (indices_append ks k)

  pub indices_drop : (ks : List (KeptAdd E)) → indices (drop 1 ks) ≡ drop 1 (indices ks)
  unfolding indices
  indices_drop [] = refl
  indices_drop (k ∷ ks) = refl

  pub indices_length : (ks : List (KeptAdd E)) → length (indices ks) ≡ length ks
  unfolding indices
  indices_length [] = refl
  indices_length (k ∷ ks) = ap suc (indices_length ks)

  pub indices_trimmed : (n : ℕ) (ks : List (KeptAdd E)) → indices (trimmed n ks) ≡ trimmed n (indices ks)
  unfolding trimmed
  indices_trimmed n ks = rw (indices_length ks) (go (ltb n (length ks)))
    where
      go : (b : Bool) → indices (cond b (drop 1 ks) ks) ≡ cond b (drop 1 (indices ks)) (indices ks)
      go true = indices_drop ks
      go false = refl

  -- of every entry, whose index is named
  pub each_named : (P Q : KeptAdd E → Type 0) (ks : List (KeptAdd E)) → ((k : KeptAdd E) → 0 < times k.index (indices ks) → P k → Q k) → Each P ks → Each Q ks
  unfolding times indices
  each_named P Q [] f e = tt
  each_named P Q (k ∷ ks) f e =
      (f k (let z : one (eqb k.index k.index) ≡ 1 = rw (eq-eqb k.index k.index refl) in omega (arith, z)) e.0, each_named P Q ks (λ j h. f j (omega arith)) e.1)
