-- The text of a table is read back as the table, two tables share no text, and every accepted text is the text of its table.
use Rattle.std.specs.Prelude.{ℕ, suc, ◌+◌, ◌*◌, ◌^◌, ◌≤◌, ◌<◌, true, ◌&&◌, Option, Some, None, is_some, unwrap_or, List, [], ◌∷◌, ◌++◌, ◌≡◌, refl, length, get_or, replicate, leb, eqb}
use Rattle.std.proofs.Common.{arith, append_assoc, append-nil, sym, ap, ◌∙◌, length-append, drop_at, eqb-true, leb-true}
use Rattle.std.proofs.lemmas.Bool.{false≢true}
use Rattle.std.proofs.lemmas.Option.{cond_some}
use Rattle.terms.specs.Below.{every_below, both, every_at}
use Rattle.decimal.specs.Field.{field, same_bytes}
use Rattle.decimal.proofs.FieldLaws.{length_field}
use Rattle.decimal.specs.Bytes.{same_refl, same_equal}
use Rattle.decimal.specs.Lines.{fields, line, lines}
use Rattle.decimal.proofs.LinesLaws.{length_line, field_at}
use Rattle.class_table.specs.Table.{class_of, occurs, largest, table_allowed}
use Rattle.class_table.specs.Text.{numbered, table_text, line_class, classes_of, table_read, table_of}

-- ---- what an allowed table is

pub record Allowed (classes : List ℕ) : Type 0 where
  pub codes : length classes ≡ 24
  pub most : (code : ℕ) → code < 24 → class_of classes code ≤ 9
  pub all_occur : (class : ℕ) → class ≤ largest classes → occurs classes class ≡ true

pub allowed : (classes : List ℕ) → table_allowed classes ≡ true → Allowed classes
unfolding table_allowed
allowed classes e =
    let p = both (eqb (length classes) 24) (every_below 24 (λ code. leb (class_of classes code) 9) && every_below (largest classes + 1) (occurs classes)) e in
    let q = both (every_below 24 (λ code. leb (class_of classes code) 9)) (every_below (largest classes + 1) (occurs classes)) p.1 in
    record {
      codes = eqb-true (length classes) 24 p.0;
      most = λ code h. leb-true (class_of classes code) 9 (every_at 24 (λ k. leb (class_of classes k) 9) q.0 code h);
      all_occur = λ class h. every_at (largest classes + 1) (occurs classes) q.1 class (omega arith);
    }

-- ---- the text

pub length_lines_numbered : (code : ℕ) (classes : List ℕ) → length (lines 4 (numbered code classes)) ≡ length classes * 9
unfolding numbered lines
length_lines_numbered code [] = refl
length_lines_numbered code (class ∷ classes) =
    rw (length-append (line 4 (code ∷ class ∷ [])) (lines 4 (numbered (suc code) classes)), length_line 4 (code ∷ class ∷ []), length_lines_numbered (suc code) classes) (omega arith)

-- 24 lines of 9 bytes
pub length_text : (classes : List ℕ) → length classes ≡ 24 → length (table_text classes) ≡ 216
unfolding table_text
length_text classes l = length_lines_numbered 0 classes ∙ (rw l)

-- ---- reading back

class_of_line : (code class : ℕ) (back : List ℕ) → class < 10 ^ 4 → line_class (line 4 (code ∷ class ∷ []) ++ back) ≡ class
unfolding line fields
class_of_line code class back h =
    let e : ((field 4 code ++ (field 4 class ++ [])) ++ (10 ∷ [])) ++ back ≡ field 4 code ++ (field 4 class ++ (10 ∷ back)) = simp (append-nil, append_assoc) in
    rw e (field_at 4 class (field 4 code) (10 ∷ back) 4 (length_field 4 code) h)

classes_back : (code : ℕ) (classes : List ℕ) → ((k : ℕ) → k < length classes → get_or classes k 0 ≤ 9) → classes_of (length classes) (lines 4 (numbered code classes)) ≡ classes
unfolding numbered lines classes_of
classes_back code [] most = refl
classes_back code (class ∷ classes) most =
    rw (
      class_of_line code class (lines 4 (numbered (suc code) classes)) (omega (arith, most 0 (omega arith))),
      drop_at (line 4 (code ∷ class ∷ [])) (lines 4 (numbered (suc code) classes)) 9 (length_line 4 (code ∷ class ∷ [])),
      classes_back (suc code) classes (λ k l. most (suc k) (omega arith)),
    )

text_back : (classes : List ℕ) → table_allowed classes ≡ true → classes_of 24 (table_text classes) ≡ classes
unfolding table_text
text_back classes e =
    let a = allowed classes e in
    ap (λ (n : ℕ). classes_of n (lines 4 (numbered 0 classes))) (sym a.codes)
    ∙ classes_back 0 classes (λ k l. a.most k (omega (arith, a.codes)))

-- the text of an allowed table is read back as the table
pub text_read : (classes : List ℕ) → table_allowed classes ≡ true → table_read (table_text classes) ≡ Some classes
unfolding table_read
text_read classes e = rw (text_back classes e, same_refl (table_text classes), e)

-- two allowed tables have equal texts only if they are equal
pub text_injective : (xs ys : List ℕ) → table_allowed xs ≡ true → table_allowed ys ≡ true → table_text xs ≡ table_text ys → xs ≡ ys
text_injective xs ys a b e = sym (text_back xs a) ∙ ap (classes_of 24) e ∙ text_back ys b

-- every accepted text is the text of its table, which is allowed
pub text_accepted : (t classes : List ℕ) → table_read t ≡ Some classes → (t ≡ table_text classes) × (table_allowed classes ≡ true)
unfolding table_read
text_accepted t classes e =
    let read = cond_some (same_bytes t (table_text (classes_of 24 t)) && table_allowed (classes_of 24 t)) (classes_of 24 t) classes e in
    let p = both (same_bytes t (table_text (classes_of 24 t))) (table_allowed (classes_of 24 t)) read.0 in
    rw (← read.1) (same_equal t (table_text (classes_of 24 t)) p.0, p.1)

pub table_of_read : (t : List ℕ) → is_some (table_read t) ≡ true → table_read t ≡ Some (table_of t)
table_of_read t = by (table_read t)
  where
    by : (o : Option (List ℕ)) → is_some o ≡ true → o ≡ Some (unwrap_or o (replicate 24 0))
    by (Some classes) e = refl
    by None e = absurd (false≢true e)
