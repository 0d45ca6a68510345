-- The loops' turns, and a table written and read again.
use Rattle.std.specs.Prelude.{ℕ, suc, ◌+◌, ◌≤◌, ◌<◌, Bool, true, ◌&&◌, List, [], ◌∷◌, ◌++◌, ◌≡◌, length, get_or, take, drop, set}
use Rattle.std.proofs.Common.{add-one, append_assoc, sym, ap, ◌∙◌, length-drop, take-append-drop, take-suc, drop-drop, length-take-le}
use native.Mathlib.Omega.{arith}
use Rattle.std.proofs.Math.Path.{refl}
use Rattle.std.proofs.lemmas.List.Edits.{sets, sets-eq}
use Rattle.std.proofs.Math.Dec.{ltb}
use borrow.Author.Tests.{ltb-true, lt-ltb}
use Rattle.terms.specs.Below.{every_below, every_at, every_make}
use Rattle.class_words.specs.Words.{classes_legal}

-- the test of the words of the codes below n
abbrev pub small_below : ℕ → (at : ℕ) → List ℕ → Bool
small_below n at words = every_below n (λ code. ltb (get_or words (at + code) 0) 256)

module _ (at : ℕ) (words : List ℕ) where
  pub none_small : true ≡ small_below 0 at words
  unfolding every_below
  none_small = refl

  pub one_small : (n : ℕ) (ok : Bool) → ok ≡ small_below n at words → (ok && ltb (get_or words (at + n) 0) 256) ≡ small_below (n + 1) at words
  unfolding every_below
  one_small n ok e = rw (add-one n, e)

  pub all_small : (n : ℕ) (ok : Bool) → n ≤ 24 → 24 ≤ n → ok ≡ small_below n at words → ok ≡ classes_legal at words
  unfolding classes_legal
  all_small n ok l u e = let q : n ≡ 24 = omega arith in rw q at e

  pub small : classes_legal at words ≡ true → (code : ℕ) → code < 24 → get_or words (at + code) 0 < 256
  unfolding classes_legal
  small e code l = ltb-true (get_or words (at + code) 0) 256 (every_at 24 (λ k. ltb (get_or words (at + k) 0) 256) e code l)

  pub small_make : ((code : ℕ) → code < 24 → get_or words (at + code) 0 < 256) → classes_legal at words ≡ true
  unfolding classes_legal
  small_make h = every_make 24 (λ k. ltb (get_or words (at + k) 0) 256) (λ code l. lt-ltb (get_or words (at + code) 0) 256 (h code l))

-- two runs of stores, the second after the first
pub sets_after : (words : List ℕ) (at : ℕ) (vs ws : List ℕ) → sets (sets words at vs) (at + length vs) ws ≡ sets words at (vs ++ ws)
sets_after words at [] ws = let e : at + 0 ≡ at = omega arith in rw e
sets_after words at (x ∷ vs) ws =
    let e : at + suc (length vs) ≡ suc at + length vs = omega arith in
    rw e (sets_after (set words at x) (suc at) vs ws)

-- one class written
pub class_written : (at : ℕ) (words classes : List ℕ) (n : ℕ) → n < length classes → set (sets words at (take n classes)) (at + n) (get_or classes n 0) ≡ sets words at (take (n + 1) classes)
class_written at words classes n l =
    let sized : length (take n classes) ≡ n = length-take-le n classes (omega arith) in
    let more : take (n + 1) classes ≡ take n classes ++ (get_or classes n 0 ∷ []) = rw (add-one n) (take-suc classes n 0 l) in
    ap (λ (k : ℕ). set (sets words at (take n classes)) (at + k) (get_or classes n 0)) (sym sized)
    ∙ sets_after words at (take n classes) (get_or classes n 0 ∷ [])
    ∙ ap (λ (vs : List ℕ). sets words at vs) (sym more)

-- a table's own words written back leave the record
pub read_written : (at : ℕ) (words : List ℕ) → at + 24 ≤ length words → sets words at (take 24 (drop at words)) ≡ words
read_written at words lent =
    let sized : length (take 24 (drop at words)) ≡ 24 = length-take-le 24 (drop at words) (rw (length-drop at words) (omega arith)) in
    sets-eq (take 24 (drop at words)) words at (omega arith)
    ∙ (rw (sized, ← drop-drop 24 at words) (append_assoc (take at words) (take 24 (drop at words)) (drop 24 (drop at words)) ∙ (rw (take-append-drop 24 (drop at words), take-append-drop at words))))
