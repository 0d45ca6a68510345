-- A set of readings as kinds and words, and what is tallied of its kinds.
use Rattle.std.specs.Prelude.{ℕ, zero, suc, ◌+◌, ◌≤◌, ◌<◌, Bool, true, false, cond, Option, Some, None, Result, Ok, Err, is_ok, ◌||◌, ◌≡◌, length, ltb, eqb}
use Rattle.std.proofs.Common.{arith, sym, ap, ◌∙◌, lt-ltb, le-ltb, eq-eqb, ne_eqb}
use mathlib.Core.List.{List, [], ◌∷◌}
use Rattle.std.proofs.Math.Path.{refl, ap₂}
use Rattle.terms.specs.Below.{one}
use Rattle.interval_store_manager.specs.Calls.{go}
use Rattle.float_bits.specs.Words.{word_of}
use Rattle.terms.specs.declared.Refusal.{Refusal}
use Rattle.store_definitions.specs.declared.Kept.{Kept}
use Rattle.store_definitions.specs.Answers.{Answer, kept, waiting, done, is, says, refused, refused_after, added_means}
use Rattle.probes_definitions.specs.declared.Reading.{Reading}
use Rattle.probes_definitions.specs.declared.Reading.TheVariants as at
use Rattle.probes_definitions.specs.Readings.{ProbeReading, stored, estimates, is_absent, any_absent, tallied, of_kind, of_kinds, any_above, of_float, of_floats}
use Rattle.probes_definitions.specs.Setting.{tallied_with, kinds_decided}

-- ---- of floats

abbrev pub kind_of : Reading → ℕ
kind_of (at.Measured x) = 0
kind_of (at.Estimated x) = 1
kind_of at.Absent = 2

abbrev pub word_in : Reading → ℕ
word_in (at.Measured x) = word_of x
word_in (at.Estimated x) = word_of x
word_in at.Absent = 0

unfoldable pub kinds_of : List Reading → List ℕ
kinds_of [] = []
kinds_of (r ∷ rs) = kind_of r ∷ kinds_of rs

unfoldable pub words_of : List Reading → List ℕ
words_of [] = []
words_of (r ∷ rs) = word_in r ∷ words_of rs

pub kinds_of_length : (rs : List Reading) → length (kinds_of rs) ≡ length rs
unfolding kinds_of
kinds_of_length [] = refl
kinds_of_length (r ∷ rs) = ap suc (kinds_of_length rs)

pub words_of_length : (rs : List Reading) → length (words_of rs) ≡ length rs
unfolding words_of
words_of_length [] = refl
words_of_length (r ∷ rs) = ap suc (words_of_length rs)

-- they stand for the same set
one_same : (r : Reading) → of_kind (kind_of r) (word_in r) ≡ of_float r
one_same (at.Measured x) = refl
one_same (at.Estimated x) = refl
one_same at.Absent = refl

pub set_same : (rs : List Reading) → of_kinds (kinds_of rs) (words_of rs) ≡ of_floats rs
unfolding kinds_of words_of of_kinds of_floats
set_same [] = refl
set_same (r ∷ rs) = ap₂ (λ (x : ProbeReading ℕ) (xs : List (ProbeReading ℕ)). x ∷ xs) (one_same r) (set_same rs)

known : (r : Reading) → ltb 2 (kind_of r) ≡ false
known (at.Measured x) = le-ltb 2 0 (omega arith)
known (at.Estimated x) = le-ltb 2 1 (omega arith)
known at.Absent = le-ltb 2 2 (omega arith)

all_known : (rs : List Reading) → any_above 2 (kinds_of rs) ≡ false
unfolding any_above kinds_of
all_known [] = refl
all_known (r ∷ rs) = rw (known r, all_known rs)

-- eight floats are a set
pub floats_decided : (rs : List Reading) → length rs ≡ 8 → kinds_decided (kinds_of rs) (words_of rs) ≡ go
unfolding kinds_decided
floats_decided rs e =
    rw (eq-eqb (length (kinds_of rs)) 8 (kinds_of_length rs ∙ e), eq-eqb (length (words_of rs)) 8 (words_of_length rs ∙ e), all_known rs)

-- ---- of kinds

abbrev pub estimate_of : ℕ → ℕ
estimate_of k = one (eqb k 1)

-- what a set of these kinds adds to the tallies, whatever its words
unfoldable pub tallied_kinds : List ℕ → List ℕ → List ℕ
tallied_kinds [] ts = ts
tallied_kinds (k ∷ ks) [] = []
tallied_kinds (k ∷ ks) (t ∷ ts) = (t + estimate_of k) ∷ tallied_kinds ks ts

module _ {E : Type 0} where
  -- the parts of a reading by its kind
  pub stored_word : (k : ℕ) (x last : E) → k < 2 → stored (of_kind k x) last ≡ x
  stored_word zero x last h = refl
  stored_word (suc zero) x last h = refl
  stored_word (suc (suc k)) x last h = absurd (omega arith)

  pub stored_last : (k : ℕ) (x last : E) → 2 ≤ k → stored (of_kind k x) last ≡ last
  stored_last zero x last h = absurd (omega arith)
  stored_last (suc zero) x last h = absurd (omega arith)
  stored_last (suc (suc k)) x last h = refl

  estimates_kind : (k : ℕ) (x : E) → estimates (of_kind k x) ≡ estimate_of k
  estimates_kind zero x = refl
  estimates_kind (suc zero) x = refl
  estimates_kind (suc (suc k)) x = rw (ne_eqb (suc (suc k)) 1 (λ e. omega arith))

  absent_kind : (k : ℕ) (x : E) → is_absent (of_kind k x) ≡ ltb 1 k
  absent_kind zero x = sym (le-ltb 1 0 (omega arith))
  absent_kind (suc zero) x = sym (le-ltb 1 1 (omega arith))
  absent_kind (suc (suc k)) x = sym (lt-ltb 1 (suc (suc k)) (omega arith))

  pub tallied_kinds_lem : (ks : List ℕ) (xs : List E) (ts : List ℕ) → length ks ≡ length xs → tallied (of_kinds ks xs) ts ≡ tallied_kinds ks ts
  unfolding of_kinds tallied tallied_kinds
  tallied_kinds_lem [] xs ts h = refl
  tallied_kinds_lem (k ∷ ks) [] ts h = absurd (omega arith)
  tallied_kinds_lem (k ∷ ks) (x ∷ xs) [] h = refl
  tallied_kinds_lem (k ∷ ks) (x ∷ xs) (t ∷ ts) h = ap₂ (λ (n : ℕ) (ns : List ℕ). n ∷ ns) (ap (λ (n : ℕ). t + n) (estimates_kind k x)) (tallied_kinds_lem ks xs ts (omega arith))

  pub absent_kinds : (ks : List ℕ) (xs : List E) → length ks ≡ length xs → any_absent (of_kinds ks xs) ≡ any_above 1 ks
  unfolding of_kinds any_absent any_above
  absent_kinds [] xs h = refl
  absent_kinds (k ∷ ks) [] h = absurd (omega arith)
  absent_kinds (k ∷ ks) (x ∷ xs) h = ap₂ (λ (a b : Bool). a || b) (absent_kind k x) (absent_kinds ks xs (omega arith))

-- ---- accepted answers

abbrev pub is_accepted : Answer → Bool
is_accepted (kept i l laid left) = true
is_accepted waiting = true
is_accepted done = false
is_accepted (is n) = false
is_accepted (says b) = false
is_accepted (refused n) = false
is_accepted (refused_after n k) = false

pub tallied_answer : {E : Type 0} (ks : List ℕ) (xs : List E) (ts : List ℕ) (a : Answer) → length ks ≡ length xs → cond (is_accepted a) (tallied_kinds ks ts) ts ≡ tallied_with (of_kinds ks xs) a ts
tallied_answer ks xs ts (kept i l laid left) h = sym (tallied_kinds_lem ks xs ts h)
tallied_answer ks xs ts waiting h = sym (tallied_kinds_lem ks xs ts h)
tallied_answer ks xs ts done h = refl
tallied_answer ks xs ts (is n) h = refl
tallied_answer ks xs ts (says b) h = refl
tallied_answer ks xs ts (refused n) h = refl
tallied_answer ks xs ts (refused_after n k) h = refl

-- an add that is kept or waits tallies
pub tallied_if : {E : Type 0} (ks : List ℕ) (xs : List E) (ts : List ℕ) (r : Result (Option Kept) Refusal) → length ks ≡ length xs → cond (is_ok r) (tallied_kinds ks ts) ts ≡ tallied_with (of_kinds ks xs) (added_means r) ts
tallied_if ks xs ts (Ok (Some k)) h = tallied_answer ks xs ts (added_means (Ok (Some k))) h
tallied_if ks xs ts (Ok None) h = tallied_answer ks xs ts waiting h
tallied_if ks xs ts (Err r) h = tallied_answer ks xs ts (added_means (Err r)) h
