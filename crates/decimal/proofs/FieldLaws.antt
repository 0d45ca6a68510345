-- Laws of fields, for every width and every number that fits it: length, reading back, no two numbers share a field, and an
-- accepted field is the one that writing makes.
use Rattle.std.specs.Prelude.{ℕ, zero, suc, ◌+◌, ◌-◌, ◌*◌, ◌/◌, ◌%◌, ◌^◌, ◌≤◌, ◌<◌, List, [], ◌∷◌, ◌++◌, Bool, true, false, cond, ◌&&◌, Some, ◌≡◌, refl, length, leb}
use Rattle.std.proofs.Common.{pow-suc, zero-add, add-zero, add-suc, suc-add, arith, sym, ap, ◌∙◌, length-append, ne_eqb, le-leb, leb-true}
use Rattle.std.proofs.lemmas.Option.{cond_some}
use Rattle.decimal.specs.Field.{column, columns, field, digit, value_from, value, is_field, field_read}
use Rattle.decimal.specs.Bytes.{same_refl, same_equal}

pub length_columns : (w rest : ℕ) → length (columns w rest) ≡ w
unfolding columns
length_columns zero rest = refl
length_columns (suc w) rest = simp (length-append, length_columns w (rest / 10)) (omega arith)

pub length_field : (w n : ℕ) → length (field w n) ≡ w
unfolding field
length_field zero n = refl
length_field (suc w) n = simp (length-append, length_columns w (n / 10)) (omega arith)

-- ---- reading back

digit_of : (r : ℕ) → r < 10 → digit (48 + r) ≡ r
unfolding digit
digit_of r h =
    let low : 48 ≤ 48 + r = omega arith in
    let high : 48 + r ≤ 57 = omega arith in
    rw (le-leb 48 (48 + r) low, le-leb (48 + r) 57 high) (omega arith)

digit_column : (rest : ℕ) → digit (column rest) ≡ rest % 10
unfolding column digit
digit_column zero = refl
digit_column (suc rest) =
    let n : suc rest ≡ 0 → ⊥ = λ e. omega arith in
    rw (ne_eqb (suc rest) 0 n) (digit_of (suc rest % 10) (omega arith))

value_snoc : (bs : List ℕ) (v b : ℕ) → value_from v (bs ++ (b ∷ [])) ≡ value_from v bs * 10 + digit b
unfolding value_from
value_snoc [] v b = refl
value_snoc (a ∷ bs) v b = value_snoc bs (v * 10 + digit a) b

tenth : (w n : ℕ) → n < 10 ^ suc w → n / 10 < 10 ^ w
tenth w n h = let e : 10 ^ suc w ≡ 10 ^ w * 10 = pow-suc 10 w in omega (arith, e)

value_columns : (w rest : ℕ) → rest < 10 ^ w → value (columns w rest) ≡ rest
unfolding columns value_from
value_columns zero rest h = omega arith
value_columns (suc w) rest h =
    value_snoc (columns w (rest / 10)) 0 (column rest)
    ∙ (rw (value_columns w (rest / 10) (tenth w rest h), digit_column rest) (omega arith))

-- a number that fits its field is read back
pub value_field : (w n : ℕ) → n < 10 ^ w → value (field w n) ≡ n
unfolding field value_from
value_field zero n h = omega arith
value_field (suc w) n h =
    value_snoc (columns w (n / 10)) 0 (48 + n % 10)
    ∙ (rw (value_columns w (n / 10) (tenth w n h), digit_of (n % 10) (omega arith)) (omega arith))

-- no two numbers that fit share a field
pub field_injective : (w m n : ℕ) → m < 10 ^ w → n < 10 ^ w → field w m ≡ field w n → m ≡ n
field_injective w m n h k e = sym (value_field w m h) ∙ ap value e ∙ value_field w n k

pub field_read_lem : (w n : ℕ) → n < 10 ^ w → field_read (field w n) ≡ Some n
unfolding field_read is_field
field_read_lem w n h = rw (length_field w n, value_field w n h, same_refl (field w n))

-- ---- what is accepted

pub is_field_lem : (bs : List ℕ) (n : ℕ) → is_field bs n ≡ true → bs ≡ field (length bs) n
unfolding is_field
is_field_lem bs n e = same_equal bs (field (length bs) n) e

-- an accepted field is the one that writing makes
pub accepted_is_written : (bs : List ℕ) (n : ℕ) → field_read bs ≡ Some n → bs ≡ field (length bs) n
unfolding field_read
accepted_is_written bs n e =
    let p = cond_some (is_field bs (value bs)) (value bs) n e in
    is_field_lem bs (value bs) p.0 ∙ ap (λ (k : ℕ). field (length bs) k) p.1

-- ---- a field's value is below 10 to the number of its columns

pub digit_small : (b : ℕ) → digit b ≤ 9
unfolding digit
digit_small b = by (leb 48 b) (leb b 57) refl
  where
    by : (p q : Bool) → leb b 57 ≡ q → cond (p && q) (b - 48) 0 ≤ 9
    by true true e = let h = leb-true b 57 e in omega arith
    by true false e = omega arith
    by false q e = omega arith

below_from : (bs : List ℕ) (v i : ℕ) → v < 10 ^ i → value_from v bs < 10 ^ (i + length bs)
unfolding value_from
below_from [] v i h = rw (add-zero i) h
below_from (b ∷ bs) v i h =
    rw (add-suc i (length bs), ← suc-add i (length bs))
    (below_from bs (v * 10 + digit b) (suc i) (rw (pow-suc 10 i) (omega (arith, digit_small b))))

pub value_below : (bs : List ℕ) → value bs < 10 ^ length bs
value_below bs = rw (zero-add (length bs)) at (below_from bs 0 0 (omega arith))

pub accepted_fits : (bs : List ℕ) (n : ℕ) → field_read bs ≡ Some n → n < 10 ^ length bs
unfolding field_read
accepted_fits bs n e =
    let p = cond_some (is_field bs (value bs)) (value bs) n e in
    rw (sym p.1) (value_below bs)
