-- The writers' loops: one turn of each, its start and its end.
use Rattle.std.specs.Prelude.{ℕ, zero, suc, ◌+◌, ◌-◌, ◌/◌, ◌≤◌, ◌<◌, ◌≡◌, refl, get_or, take, drop, set}
use Rattle.std.proofs.Common.{add-one, sub-one, add-zero, arith, ◌∙◌, length-drop, length-take-le, drop-drop}
use mathlib.Core.List.{List, [], ◌∷◌, ◌++◌, append_assoc, append-nil}
use Rattle.std.proofs.Math.Path.{sym, ap}
use Rattle.std.proofs.Math.ListN.{length, length-append}
use Rattle.std.proofs.Math.Seq.{drop-length, take-suc, take_all}
use Rattle.std.proofs.lemmas.List.{set_split, drop-set}
use borrow.Rule.Slice.PartMut.{put_mid}
use Rattle.decimal.specs.Field.{last_digit, column, columns, field}
use Rattle.decimal.proofs.FieldLaws.{length_field}
use Rattle.decimal.specs.Lines.{fields, line}
use Rattle.decimal.proofs.LinesLaws.{fields_append, fields_room}
use Rattle.decimal.specs.Segments.{put, put_none, put_put}

-- ---- a field, from the right

pub field_none : (l : List ℕ) (n : ℕ) → length l ≡ 0 → l ≡ field (length l) n
unfolding field
field_none [] n e = refl
field_none (x ∷ l) n e = absurd (omega arith)

pub last_written : (l : List ℕ) (n : ℕ) → 0 < length l
    → columns (length l - 1) (n / 10) ++ drop (length l - 1) (set l (length l - 1) (last_digit n)) ≡ field (length l) n
unfolding field
last_written [] n h = absurd (omega arith)
last_written (x ∷ l) n h =
    rw (sub-one (suc (length l)), drop-set (x ∷ l) (length l) (last_digit n) (omega arith), add-one, drop-length l)

pub column_written : (l : List ℕ) (k rest : ℕ) → 0 < k → k ≤ length l
    → columns (k - 1) (rest / 10) ++ drop (k - 1) (set l (k - 1) (column rest)) ≡ columns k rest ++ drop k l
unfolding columns
column_written l zero rest h g = absurd (omega arith)
column_written l (suc k) rest h g =
    rw (sub-one (suc k), drop-set l k (column rest) (omega arith), add-one k, append_assoc (columns k (rest / 10)) (column rest ∷ []) (drop (suc k) l))

pub columns_none : (l : List ℕ) (k rest : ℕ) → k ≤ 0 → l ≡ columns k rest ++ drop k l
unfolding columns
columns_none l zero rest h = refl
columns_none l (suc k) rest h = absurd (omega arith)

-- ---- a field in a part of a text

pub field_put : (t : List ℕ) (at w n : ℕ) (r : List ℕ) → at + w ≤ length t → r ≡ field (length (take (at + w - at) (drop at t))) n
    → put_mid at (at + w - at) t r ≡ put at (field w n) t
unfolding put
field_put t at w n r h e =
    let k : at + w - at ≡ w = omega arith in
    let m : length (take w (drop at t)) ≡ w = length-take-le w (drop at t) (rw (length-drop at t) (omega arith)) in
    rw (e, k, m, length_field w n, drop-drop w at t)

-- ---- a line, field by field

feed : (t : List ℕ) (i : ℕ) → i < length t → set t i 10 ≡ put i (10 ∷ []) t
unfolding put
feed t i h = set_split t i 10 h ∙ (rw (add-one i))

module _ (t : List ℕ) (at w : ℕ) (ns : List ℕ) (room : at + length (line w ns) ≤ length t) where
  pub line_start : t ≡ put at (fields w (take 0 ns)) t
  unfolding fields
  line_start = put_none t at

  pub line_start_at : at ≡ at + length (fields w (take 0 ns))
  unfolding fields
  line_start_at = sym (add-zero at)

  one_more : (k : ℕ) → k < length ns → fields w (take (k + 1) ns) ≡ fields w (take k ns) ++ field w (get_or ns k 0)
  unfolding fields
  one_more k h =
      rw (add-one k, take-suc ns k 0 h)
      (fields_append w (take k ns) (get_or ns k 0 ∷ []) ∙ ap (λ (x : List ℕ). fields w (take k ns) ++ x) (append-nil (field w (get_or ns k 0))))

  pub line_turn : (k end : ℕ) → k < length ns → end ≡ at + length (fields w (take k ns))
      → put end (field w (get_or ns k 0)) (put at (fields w (take k ns)) t) ≡ put at (fields w (take (k + 1) ns)) t
  line_turn k end h e =
      rw (e, one_more k h)
      (put_put t (fields w (take k ns)) (field w (get_or ns k 0)) at (rw (length_field w (get_or ns k 0)) (omega (arith, fields_room w ns k h))))

  pub line_turn_at : (k end : ℕ) → k < length ns → end ≡ at + length (fields w (take k ns)) → end + w ≡ at + length (fields w (take (k + 1) ns))
  line_turn_at k end h e = rw (e, one_more k h, length-append (fields w (take k ns)) (field w (get_or ns k 0)), length_field w (get_or ns k 0)) (omega arith)

  pub line_turn_room : (k end : ℕ) → k < length ns → end ≡ at + length (fields w (take k ns)) → end + w + 1 ≤ length t
  line_turn_room k end h e = omega (arith, fields_room w ns k h)

  pub line_end_room : (k end : ℕ) → length ns ≤ k → end ≡ at + length (fields w (take k ns)) → end + 1 ≤ length t
  unfolding line
  line_end_room k end h e = omega (arith, rw (take_all k ns h) at e, length-append (fields w ns) (10 ∷ []))

  pub line_end : (k end : ℕ) → length ns ≤ k → end ≡ at + length (fields w (take k ns)) → length (put at (fields w (take k ns)) t) ≡ length t
      → set (put at (fields w (take k ns)) t) end 10 ≡ put at (line w ns) t
  unfolding line
  line_end k end h e l =
      let fits : end + 1 ≤ length t = line_end_room k end h e in
      feed (put at (fields w (take k ns)) t) end (omega arith)
      ∙ (rw (e, take_all k ns h) (put_put t (fields w ns) (10 ∷ []) at (omega (arith, length-append (fields w ns) (10 ∷ [])))))
