-- The classes that occur as the bits of a mask, code by code: one turn of the loop, its start and its end.
use Prim.Native.Nat.{ℕ, zero, suc, ◌+◌, ◌*◌, ◌/◌, ◌%◌, ◌^◌, ◌≤◌, ◌<◌, max}
use Rattle.std.proofs.Common.{mod-lt, zero-lt-suc, add-one, arith, sym, ◌∙◌}
use Rattle.std.proofs.Math.Nat.{max-le}
use Rattle.std.specs.Prelude.{Bool, ◌||◌, ◌&&◌, List, ◌≡◌, length}
use Rattle.std.proofs.Math.Bool.{true, false, not, and-false, beq, false≢true}
use Rattle.std.proofs.Math.Path.{refl, ap}
use Rattle.std.proofs.Math.Arith.{digits_div, digits_mod}
use Rattle.std.specs.Int.Bits.{bit_and, bit_or, or_step}
use Rattle.std.proofs.lemmas.Nat.{or_lt}
use Rattle.std.proofs.Math.Dec.{leb, ltb, eqb}
use borrow.Author.Tests.{eq-eqb, eqb-true, lt-leb, leb-true, leb-false, le-ltb, lt-ltb, ltb-true, ltb-false}
use Rattle.terms.specs.Below.{every_below, one, both, every_at, fails}
use Rattle.class_table.specs.Table.{class_of, some_below, table_allowed}
use Rattle.class_table.specs.TableLaws.{follows, gapless}

-- bit k of a number
unfoldable pub digit : ℕ → ℕ → ℕ
digit zero m = m % 2
digit (suc k) m = digit k (m / 2)

small : (a b : ℕ) → max (a % 2) (b % 2) < 2
small a b =
    let l : a % 2 ≤ 1 = omega (arith, mod-lt a (zero-lt-suc 1)) in
    let r : b % 2 ≤ 1 = omega (arith, mod-lt b (zero-lt-suc 1)) in
    let m : max (a % 2) (b % 2) ≤ 1 = max-le l r in
    omega arith

pub digit_or : (k a b : ℕ) → digit k (bit_or a b) ≡ max (digit k a) (digit k b)
unfolding digit
digit_or zero a b = ap (λ (x : ℕ). x % 2) (or_step a b) ∙ digits_mod (bit_or (a / 2) (b / 2)) (small a b)
digit_or (suc k) a b =
    ap (λ (x : ℕ). digit k (x / 2)) (or_step a b) ∙ ap (digit k) (digits_div (bit_or (a / 2) (b / 2)) (small a b))
    ∙ digit_or k (a / 2) (b / 2)

-- the bits of a class's number
bits_of : every_below 10 (λ c. ltb (2 ^ c) 1024 && every_below 10 (λ d. eqb (digit d (2 ^ c)) (one (eqb c d)))) ≡ true
unfolding every_below digit
bits_of = refl

-- where no bit is missing before another
abbrev bits_follow : ℕ → Bool
bits_follow mask = every_below 9 (λ d. leb (digit (d + 1) mask) (digit d mask))

all_masks : every_below 1024 (λ m. beq (eqb (bit_and m (m + 1)) 0) (bits_follow m)) ≡ true
unfolding every_below digit
all_masks = refl

-- a class's bit, as the code shifts it
shifts : every_below 10 (λ c. eqb ((1 * 2 ^ (c % 32)) % 4294967296) (2 ^ c)) ≡ true
unfolding every_below
shifts = refl

pub shifted : (c : ℕ) → c ≤ 9 → (1 * 2 ^ (c % 32)) % 4294967296 ≡ 2 ^ c
shifted c h = eqb-true ((1 * 2 ^ (c % 32)) % 4294967296) (2 ^ c) (every_at 10 (λ c. eqb ((1 * 2 ^ (c % 32)) % 4294967296) (2 ^ c)) shifts c (omega arith))

beq_same : (a b : Bool) → beq a b ≡ true → a ≡ b
beq_same true true e = refl
beq_same true false e = absurd (false≢true e)
beq_same false true e = absurd (false≢true e)
beq_same false false e = refl

max_one : (a b : Bool) → max (one a) (one b) ≡ one (a || b)
max_one true true = refl
max_one true false = refl
max_one false true = refl
max_one false false = refl

-- whether a class of the codes below n is above 9, and else the classes that occur
pub record Masked (classes : List ℕ) (n : ℕ) (high : Bool) (mask : ℕ) : Type 0 where
  pub within : n ≤ 24
  pub high_is : high ≡ not (every_below n (λ code. leb (class_of classes code) 9))
  pub mask_most : high ≡ false → mask < 1024
  pub bits : high ≡ false → (class : ℕ) → class < 10 → digit class mask ≡ one (some_below n (λ code. eqb (class_of classes code) class))

every_same : (n : ℕ) (f g : ℕ → Bool) → ((i : ℕ) → i < n → f i ≡ g i) → every_below n f ≡ every_below n g
unfolding every_below
every_same zero f g e = refl
every_same (suc n) f g e = rw (every_same n f g (λ i l. e i (omega arith)), e n (omega arith))

-- one class more, which may be above 9
high_more : (x : Bool) (c : ℕ) → (not x || ltb 9 c) ≡ not (x && leb c 9)
high_more false c = refl
high_more true c = go (leb c 9) refl
  where
    go : (b : Bool) → leb c 9 ≡ b → ltb 9 c ≡ not b
    go true e = le-ltb 9 c (leb-true c 9 e)
    go false e = lt-ltb 9 c (leb-false c 9 e)

neither : (a b : Bool) → (a || b) ≡ false → (a ≡ false) × (b ≡ false)
neither true b e = absurd (false≢true (sym e))
neither false b e = (refl, e)

not-false : (b : Bool) → not b ≡ false → b ≡ true
not-false true e = refl
not-false false e = absurd (false≢true (sym e))

module _ (classes : List ℕ) where
  pub none_masked : Masked classes 0 false 0
  unfolding every_below some_below digit
  none_masked = record { within = omega arith; high_is = refl; mask_most = λ e. omega arith; bits = λ e class h. no_bits class }
    where
      no_bits : (class : ℕ) → digit class 0 ≡ 0
      no_bits zero = refl
      no_bits (suc k) = no_bits k

  pub one_masked : (n : ℕ) (high : Bool) (mask bit : ℕ) → n < 24 → (class_of classes n ≤ 9 → bit ≡ 2 ^ class_of classes n) → Masked classes n high mask → Masked classes (n + 1) (high || ltb 9 (class_of classes n)) (bit_or mask bit)
  unfolding every_below some_below
  one_masked n high mask bit h is m =
      rw (add-one n)
      (record {
        within = omega arith;
        high_is = ap (λ (b : Bool). b || ltb 9 c) m.high_is ∙ high_more (every_below n (λ code. leb (class_of classes code) 9)) c;
        mask_most = λ e. let k = below e in rw (is k) (or_lt 10 mask (2 ^ c) (m.mask_most (low e)) (ltb-true (2 ^ c) 1024 (both (ltb (2 ^ c) 1024) _ (power c (omega arith))).0));
        bits = λ e class l. let k = below e in rw (is k, digit_or class mask (2 ^ c), m.bits (low e) class l, eqb-true (digit class (2 ^ c)) (one (eqb c class)) (every_at 10 (λ d. eqb (digit d (2 ^ c)) (one (eqb c d))) (both (ltb (2 ^ c) 1024) _ (power c (omega arith))).1 class l)) (max_one (some_below n (λ code. eqb (class_of classes code) class)) (eqb c class));
      })
    where
      c : ℕ
      c = class_of classes n

      low : (high || ltb 9 c) ≡ false → high ≡ false
      low e = (neither high (ltb 9 c) e).0

      below : (high || ltb 9 c) ≡ false → c ≤ 9
      below e = ltb-false 9 c (neither high (ltb 9 c) e).1

      power : (k : ℕ) → k < 10 → (ltb (2 ^ k) 1024 && every_below 10 (λ d. eqb (digit d (2 ^ k)) (one (eqb k d)))) ≡ true
      power k l = every_at 10 (λ c. ltb (2 ^ c) 1024 && every_below 10 (λ d. eqb (digit d (2 ^ c)) (one (eqb c d)))) bits_of k l

  pub class_too_large : (n : ℕ) → n < 24 → 9 < class_of classes n → false ≡ table_allowed classes
  unfolding table_allowed
  class_too_large n h large =
      let none : every_below 24 (λ code. leb (class_of classes code) 9) ≡ false = fails (every_below 24 (λ code. leb (class_of classes code) 9)) (λ e. false≢true (sym (lt-leb (class_of classes n) 9 large) ∙ every_at 24 (λ code. leb (class_of classes code) 9) e n h)) in
      rw none (sym (and-false (eqb (length classes) 24)))

  module _ (n : ℕ) (high : Bool) (mask : ℕ) (l : length classes ≡ 24) (h : 24 ≤ n) (m : Masked classes n high mask) where
    all : n ≡ 24
    all = omega (arith, m.within)

    pub high_masked : high ≡ true → false ≡ table_allowed classes
    unfolding table_allowed
    high_masked e =
        let none : every_below 24 (λ code. leb (class_of classes code) 9) ≡ false = not-true (every_below 24 (λ code. leb (class_of classes code) 9)) (sym (rw all at m.high_is) ∙ e) in
        rw none (sym (and-false (eqb (length classes) 24)))
      where
        not-true : (b : Bool) → not b ≡ true → b ≡ false
        not-true true q = absurd (false≢true q)
        not-true false q = refl

    pub all_masked : high ≡ false → eqb (bit_and mask (mask + 1)) 0 ≡ table_allowed classes
    unfolding table_allowed
    all_masked e =
        let most : every_below 24 (λ code. leb (class_of classes code) 9) ≡ true = not-false (every_below 24 (λ code. leb (class_of classes code) 9)) (sym (rw all at m.high_is) ∙ e) in
        let trick : eqb (bit_and mask (mask + 1)) 0 ≡ bits_follow mask = beq_same (eqb (bit_and mask (mask + 1)) 0) (bits_follow mask) (every_at 1024 (λ m. beq (eqb (bit_and m (m + 1)) 0) (bits_follow m)) all_masks mask (m.mask_most e)) in
        let same : bits_follow mask ≡ every_below 9 (follows classes) = every_same 9 (λ d. leb (digit (d + 1) mask) (digit d mask)) (follows classes) (λ d k. rw (m.bits e (d + 1) (omega arith), m.bits e d (omega arith), all)) in
        rw (eq-eqb (length classes) 24 l, most) (trick ∙ same ∙ gapless classes most)
