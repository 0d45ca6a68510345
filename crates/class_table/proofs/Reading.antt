-- The reader's loop, line by line: one turn, its start and its ends.
use Prim.Native.Nat.{ℕ, zero, suc, ◌+◌, ◌-◌, ◌*◌, ◌≤◌, ◌<◌}
use Rattle.std.proofs.Math.Numerals.{add-one}
use native.Mathlib.Omega.{arith}
use Rattle.std.specs.Prelude.{Bool, false, cond, ◌&&◌, Some, None, ◌≡◌, length, get_or, take, drop, set}
use Rattle.std.proofs.Math.Bool.{true, and-false}
use mathlib.Core.List.{List, [], ◌∷◌, ◌++◌, append-nil}
use Rattle.std.proofs.Math.Path.{refl, sym}
use Rattle.std.proofs.Common.{ap, ◌∙◌, length-drop, drop_of_length-le, take-append-drop, length-take-le, take_all}
use Rattle.std.proofs.Math.Seq.{drop-drop, take-suc-set, append_snoc}
use Rattle.std.specs.Bool.{then_some}
use Rattle.terms.specs.Rows.{all_equal}
use Rattle.terms.specs.Below.{fails}
use Rattle.decimal.specs.Field.{same_bytes}
use Rattle.decimal.specs.Bytes.{same_append, same_equal}
use Rattle.decimal.specs.Lines.{line, lines}
use Rattle.decimal.proofs.LinesLaws.{length_line}
use Rattle.class_table.specs.Table.{table_allowed}
use Rattle.class_table.specs.Marks.{class_too_large}
use Rattle.class_table.specs.Text.{numbered, table_text, line_class, classes_of, table_read}
use Rattle.class_table.specs.TextLaws.{length_text}

length_classes : (n : ℕ) (t : List ℕ) → length (classes_of n t) ≡ n
unfolding classes_of
length_classes zero t = refl
length_classes (suc n) t = ap suc (length_classes n (drop 9 t))

class_at : (n : ℕ) (t : List ℕ) (i : ℕ) → i < n → get_or (classes_of n t) i 0 ≡ line_class (drop (i * 9) t)
unfolding classes_of
class_at zero t i h = absurd (omega arith)
class_at (suc n) t zero h = refl
class_at (suc n) t (suc i) h =
    let e : suc i * 9 ≡ 9 + i * 9 = omega arith in
    rw (e, ← drop-drop (i * 9) 9 t) (class_at n (drop 9 t) i (omega arith))

-- n lines from a code on are as their classes' text
abbrev same_from : ℕ → ℕ → List ℕ → Bool
same_from code n t = same_bytes t (lines 4 (numbered code (classes_of n t)))

first_line : (code n : ℕ) (t : List ℕ) → 9 ≤ length t → same_from code (suc n) t ≡ (same_bytes (take 9 t) (line 4 (code ∷ line_class t ∷ [])) && same_from (suc code) n (drop 9 t))
unfolding classes_of numbered lines
first_line code n t h =
    let first : List ℕ = line 4 (code ∷ line_class t ∷ []) in
    let rest : List ℕ = lines 4 (numbered (suc code) (classes_of n (drop 9 t))) in
    ap (λ (x : List ℕ). same_bytes x (first ++ rest)) (sym (take-append-drop 9 t))
    ∙ same_append (take 9 t) (drop 9 t) first rest (length-take-le 9 t h ∙ sym (length_line 4 (code ∷ line_class t ∷ [])))

-- what is left from line i on, and the classes filled in so far before those that are left
abbrev pub left_same : List ℕ → ℕ → Bool
left_same t i = same_from i (24 - i) (drop (i * 9) t)

abbrev pub filled : List ℕ → ℕ → List ℕ → List ℕ
filled t i classes = take i classes ++ classes_of (24 - i) (drop (i * 9) t)

module _ (t : List ℕ) where
  is_text : left_same t 0 ≡ same_bytes t (table_text (classes_of 24 t))
  unfolding table_text
  is_text = refl

  refused_text : same_bytes t (table_text (classes_of 24 t)) ≡ false → None ≡ table_read t
  unfolding table_read
  refused_text e = rw e

  refused_table : table_allowed (classes_of 24 t) ≡ false → None ≡ table_read t
  unfolding table_read
  refused_table e = rw (e, and-false (same_bytes t (table_text (classes_of 24 t))))

  pub wrong_length : (length t ≡ 216 → ⊥) → None ≡ table_read t
  wrong_length d =
      refused_text (fails (same_bytes t (table_text (classes_of 24 t))) (λ e. d (ap length (same_equal t (table_text (classes_of 24 t)) e) ∙ length_text (classes_of 24 t) (length_classes 24 t))))

  pub large_class : (i class : ℕ) → i < 24 → class ≡ line_class (drop (i * 9) t) → 9 < class → None ≡ table_read t
  large_class i class h e l =
      refused_table (sym (class_too_large (classes_of 24 t) i h (rw (class_at 24 t i h, ← e) l)))

  module _ (sized : length t ≡ 216) where
    line_turn : (i class : ℕ) → i < 24 → class ≡ line_class (drop (i * 9) t) → left_same t i ≡ (same_bytes (take 9 (drop (i * 9) t)) (line 4 (i ∷ class ∷ [])) && left_same t (i + 1))
    line_turn i class h e =
        let n : 24 - i ≡ suc (24 - (i + 1)) = omega arith in
        let next : (i + 1) * 9 ≡ i * 9 + 9 = omega arith in
        rw (n, next, ← drop-drop 9 (i * 9) t, e)
        (first_line i (24 - (i + 1)) (drop (i * 9) t) (rw (length-drop (i * 9) t) (omega arith)) ∙ (rw (add-one i)))

    pub line_right : (i class : ℕ) (found : Bool) → i < 24 → class ≡ line_class (drop (i * 9) t) → found ≡ same_bytes (take 9 (drop (i * 9) t)) (line 4 (i ∷ class ∷ []))
        → found ≡ true → left_same t i ≡ left_same t 0 → left_same t (i + 1) ≡ left_same t 0
    line_right i class found h e f right before = sym (line_turn i class h e ∙ (rw (sym f ∙ right))) ∙ before

    pub line_wrong : (i class : ℕ) (found : Bool) → i < 24 → class ≡ line_class (drop (i * 9) t) → found ≡ same_bytes (take 9 (drop (i * 9) t)) (line 4 (i ∷ class ∷ []))
        → found ≡ false → left_same t i ≡ left_same t 0 → None ≡ table_read t
    line_wrong i class found h e f wrong before =
        refused_text (sym is_text ∙ (sym before ∙ (line_turn i class h e ∙ (rw (sym f ∙ wrong)))))

    pub class_filled : (i class : ℕ) (classes : List ℕ) → i < 24 → length classes ≡ 24 → class ≡ line_class (drop (i * 9) t) → filled t (i + 1) (set classes i class) ≡ filled t i classes
    unfolding classes_of
    class_filled i class classes h l e =
        let n : 24 - i ≡ suc (24 - (i + 1)) = omega arith in
        let next : (i + 1) * 9 ≡ i * 9 + 9 = omega arith in
        rw (n, next, ← drop-drop 9 (i * 9) t, ← e, add-one i, take-suc-set classes i class (omega arith))
        (append_snoc (take i classes) class (classes_of (24 - suc i) (drop 9 (drop (i * 9) t))))

    all_filled : (classes : List ℕ) → length classes ≡ 24 → filled t 24 classes ≡ classes_of 24 t → classes ≡ classes_of 24 t
    unfolding classes_of
    all_filled classes l e = sym (append-nil classes) ∙ (ap (λ (x : List ℕ). x ++ []) (sym (take_all 24 classes (omega arith))) ∙ e)

    all_right : left_same t 24 ≡ true
    unfolding classes_of numbered lines all_equal
    all_right = rw (drop_of_length-le t {i = 216} (omega arith))

    -- all lines are right: the table decides
    pub table_read_lem : (i : ℕ) (classes : List ℕ) (allowed : Bool) → i ≤ 24 → 24 ≤ i → length classes ≡ 24 → left_same t i ≡ left_same t 0 → filled t i classes ≡ classes_of 24 t
        → allowed ≡ table_allowed classes → then_some allowed classes ≡ table_read t
    unfolding table_read
    table_read_lem i classes allowed h k l same fill e =
        let q : i ≡ 24 = omega arith in
        let c : classes ≡ classes_of 24 t = all_filled classes l (rw q at fill) in
        let s : same_bytes t (table_text (classes_of 24 t)) ≡ true = sym is_text ∙ (sym (rw q at same) ∙ all_right) in
        rw (e, c, s) (chosen (table_allowed (classes_of 24 t)))
      where
        chosen : (b : Bool) → then_some b (classes_of 24 t) ≡ cond b (Some (classes_of 24 t)) None
        chosen true = refl
        chosen false = refl
