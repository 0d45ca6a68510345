-- The readers' loops: one turn of each, its start and its end.
use Prim.Native.Nat.{ℕ, suc, ◌+◌, ◌-◌, ◌*◌, ◌/◌, ◌^◌, ◌≤◌, ◌<◌}
use Rattle.std.proofs.Math.Numerals.{add-one}
use Rattle.std.proofs.Common.{pow-suc, arith, ap, ◌∙◌, length-append, length-drop, take-append-drop}
use Rattle.std.proofs.Math.Nat.{pow-le-pow_right}
use mathlib.Core.List.{List, [], ◌∷◌, ◌++◌}
use Rattle.std.specs.Prelude.{Bool, ◌&&◌, ◌≡◌, get_or, take, drop, eqb}
use Rattle.std.proofs.Math.Bool.{true, false, cond}
use Rattle.std.proofs.Math.Path.{refl, sym}
use Rattle.std.proofs.Math.ListN.{length, drop_of_length-le}
use Rattle.std.proofs.Math.Seq.{drop-cons, length-take-le, drop-drop}
use Rattle.terms.specs.Rows.{all_equal}
use Rattle.decimal.specs.Field.{last_digit, column, columns, field, digit, value_from, same_bytes, is_field}
use Rattle.decimal.proofs.FieldLaws.{length_columns, length_field, digit_small}
use Rattle.decimal.specs.Bytes.{same_append, same_snoc}
use Rattle.decimal.specs.Lines.{fields, line}
use Rattle.decimal.proofs.LinesLaws.{line_from}

-- ---- the value

pub value_turn : (t : List ℕ) (v i : ℕ) → i < length t → value_from (v * 10 + digit (get_or t i 0)) (drop (i + 1) t) ≡ value_from v (drop i t)
unfolding value_from
value_turn t v i h = rw (drop-cons t i 0 h, add-one i)

pub below_turn : (v i b : ℕ) → v < 10 ^ i → v * 10 + digit b < 10 ^ (i + 1)
below_turn v i b h = rw (add-one i, pow-suc 10 i) (omega (arith, digit_small b))

-- a value of at most 19 digits fits
pub value_fits : (v i b : ℕ) → v < 10 ^ i → i < 19 → v * 10 + digit b < 2 ^ 64
value_fits v i b h g =
    let e : 10 ^ (i + 1) ≤ 10 ^ 19 = pow-le-pow_right (omega arith) {i = i + 1} {j = 19} (omega arith) in
    omega (arith, below_turn v i b h)

pub value_end : (t : List ℕ) (v i : ℕ) → length t ≤ i → v ≡ value_from v (drop i t)
unfolding value_from
value_end t v i h = rw (drop_of_length-le t h)

-- ---- a field compared from the right

pub none_compared : (t : List ℕ) (n : ℕ) → length t ≡ 0 → true ≡ is_field t n
unfolding is_field field all_equal
none_compared [] n e = refl
none_compared (x ∷ t) n e = absurd (omega arith)

pub last_compared : (t l : List ℕ) (b n : ℕ) → t ≡ l ++ (b ∷ []) → is_field t n ≡ (eqb b (last_digit n) && same_bytes l (columns (length l) (n / 10)))
unfolding is_field field
last_compared t l b n e =
    rw (e, length-append l (b ∷ []), add-one (length l))
    (same_snoc l (columns (length l) (n / 10)) b (last_digit n) (sym (length_columns (length l) (n / 10))))

pub column_compared : (t l : List ℕ) (b rest : ℕ) → t ≡ l ++ (b ∷ [])
    → same_bytes t (columns (length t) rest) ≡ (eqb b (column rest) && same_bytes l (columns (length l) (rest / 10)))
unfolding columns
column_compared t l b rest e =
    rw (e, length-append l (b ∷ []), add-one (length l))
    (same_snoc l (columns (length l) (rest / 10)) b (column rest) (sym (length_columns (length l) (rest / 10))))

pub all_compared : (t : List ℕ) (rest : ℕ) → length t ≡ 0 → true ≡ same_bytes t (columns (length t) rest)
unfolding columns all_equal
all_compared [] rest h = refl
all_compared (x ∷ t) rest h = absurd (omega arith)

-- ---- a line compared field by field

module _ (t : List ℕ) (w : ℕ) (ns : List ℕ) where
  -- byte `at` is where field k begins
  abbrev pub Begins : ℕ → ℕ → Type 0
  Begins at k = at + length (line w (drop k ns)) ≡ length t

  pub begins_next : (at k : ℕ) → k < length ns → Begins at k → Begins (at + w) (k + 1)
  begins_next at k h b =
      let e : length (line w (drop k ns)) ≡ w + length (line w (drop (k + 1) ns)) = rw (line_from w ns k h, add-one k, length-append (field w (get_or ns k 0)) (line w (drop (suc k) ns)), length_field w (get_or ns k 0)) in
      omega arith

  pub begins_room : (at k : ℕ) → k < length ns → Begins at k → at + w ≤ length t
  begins_room at k h b = omega (arith, begins_next at k h b)

  field_compared : (at k : ℕ) → k < length ns → Begins at k
      → same_bytes (drop at t) (line w (drop k ns)) ≡ (is_field (take w (drop at t)) (get_or ns k 0) && same_bytes (drop (at + w) t) (line w (drop (k + 1) ns)))
  unfolding is_field
  field_compared at k h b =
      let room : at + w ≤ length t = begins_room at k h b in
      let l : length (take w (drop at t)) ≡ w = length-take-le w (drop at t) (rw (length-drop at t) (omega arith)) in
      rw (line_from w ns k h, add-one k, l, ← drop-drop w at t)
      (ap (λ (x : List ℕ). same_bytes x (field w (get_or ns k 0) ++ line w (drop (suc k) ns))) (sym (take-append-drop w (drop at t)))
      ∙ same_append (take w (drop at t)) (drop w (drop at t)) (field w (get_or ns k 0)) (line w (drop (suc k) ns)) (l ∙ sym (length_field w (get_or ns k 0))))

  -- the same by what the code found of the part
  pub part_compared : (at k : ℕ) (found : Bool) → k < length ns → Begins at k → found ≡ is_field (take (at + w - at) (drop at t)) (get_or ns k 0)
      → same_bytes (drop at t) (line w (drop k ns)) ≡ (found && same_bytes (drop (at + w) t) (line w (drop (k + 1) ns)))
  part_compared at k found h b e =
      let wide : at + w - at ≡ w = omega arith in
      field_compared at k h b ∙ (rw (e, wide))

  pub end_room : (at k : ℕ) → length ns ≤ k → Begins at k → at + 1 ≡ length t
  unfolding line fields
  end_room at k h b = rw (drop_of_length-le ns h) at b

  pub feed_compared : (at k : ℕ) → length ns ≤ k → Begins at k → eqb (get_or t at 0) 10 ≡ same_bytes (drop at t) (line w (drop k ns))
  unfolding line fields all_equal
  feed_compared at k h b =
      let l : at + 1 ≡ length t = end_room at k h b in
      rw (drop_of_length-le ns h, drop-cons t at 0 (omega arith), drop_of_length-le t {i = suc at} (omega arith)) (same (eqb (get_or t at 0) 10))
    where
      same : (p : Bool) → p ≡ cond p true false
      same true = refl
      same false = refl
