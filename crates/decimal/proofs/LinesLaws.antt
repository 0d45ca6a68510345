-- Laws of lines, for every width and number of fields: lengths, joining, and no two lists of rows share a text.
use Rattle.std.specs.Prelude.{ℕ, suc, ◌+◌, ◌*◌, ◌^◌, ◌≤◌, ◌<◌, List, [], ◌∷◌, ◌++◌, ◌≡◌, refl, length, get_or, take, drop}
use Rattle.std.proofs.Common.{suc-mul, zero-mul, arith, append_assoc, sym, ap, ap₂, ◌∙◌, length-append, take_at, drop_at, drop-cons}
use Rattle.std.proofs.Math.Seq.{split_at}
use Rattle.decimal.specs.Field.{field, value}
use Rattle.decimal.proofs.FieldLaws.{length_field, value_field, field_injective}
use Rattle.decimal.specs.Lines.{fields, line, lines, Fit, RowsFit}

-- ---- lengths

pub length_fields : (w : ℕ) (ns : List ℕ) → length (fields w ns) ≡ length ns * w
unfolding fields
length_fields w [] = sym (zero-mul w)
length_fields w (n ∷ ns) = rw (length-append (field w n) (fields w ns), length_field w n, length_fields w ns, suc-mul (length ns) w) (omega arith)

pub length_line : (w : ℕ) (ns : List ℕ) → length (line w ns) ≡ length ns * w + 1
unfolding line
length_line w ns = rw (length-append (fields w ns) (10 ∷ []), length_fields w ns)

-- rows of k numbers make lines of k fields and a line feed
pub length_lines : (w k : ℕ) (rs : List (List ℕ)) → RowsFit w k rs → length (lines w rs) ≡ length rs * (k * w + 1)
unfolding lines
length_lines w k [] f = sym (zero-mul (k * w + 1))
length_lines w k (r ∷ rs) f =
    rw (length-append (line w r) (lines w rs), length_line w r, f.0.0, length_lines w k rs f.1, suc-mul (length rs) (k * w + 1)) (omega arith)

-- ---- joining

pub fields_append : (w : ℕ) (ms ns : List ℕ) → fields w (ms ++ ns) ≡ fields w ms ++ fields w ns
unfolding fields
fields_append w [] ns = refl
fields_append w (m ∷ ms) ns = rw (fields_append w ms ns, append_assoc (field w m) (fields w ms) (fields w ns))

pub lines_append : (w : ℕ) (rs ss : List (List ℕ)) → lines w (rs ++ ss) ≡ lines w rs ++ lines w ss
unfolding lines
lines_append w [] ss = refl
lines_append w (r ∷ rs) ss = rw (lines_append w rs ss, append_assoc (line w r) (lines w rs) (lines w ss))

-- the line from its field k on
pub line_from : (w : ℕ) (ns : List ℕ) (k : ℕ) → k < length ns → line w (drop k ns) ≡ field w (get_or ns k 0) ++ line w (drop (suc k) ns)
unfolding line fields
line_from w ns k h =
    rw (drop-cons ns k 0 h) (append_assoc (field w (get_or ns k 0)) (fields w (drop (suc k) ns)) (10 ∷ []))

-- behind the first k fields there is room for one more and for the line feed
pub fields_room : (w : ℕ) (ns : List ℕ) (k : ℕ) → k < length ns → length (fields w (take k ns)) + w + 1 ≤ length (line w ns)
unfolding line fields
fields_room w ns k h =
    let one = get_or ns k 0 in
    let e : fields w ns ≡ fields w (take k ns) ++ (field w one ++ fields w (drop (suc k) ns)) = ap (fields w) (split_at ns k 0 h) ∙ fields_append w (take k ns) (one ∷ drop (suc k) ns) in
    rw (
      e,
      length-append (fields w (take k ns) ++ (field w one ++ fields w (drop (suc k) ns))) (10 ∷ []),
      length-append (fields w (take k ns)) (field w one ++ fields w (drop (suc k) ns)),
      length-append (field w one) (fields w (drop (suc k) ns)),
      length_field w one,
    )
    (omega arith)

-- ---- no two share a text

-- two parts of equal lengths
parts : (a b c d : List ℕ) → length a ≡ length c → a ++ b ≡ c ++ d → (a ≡ c) × (b ≡ d)
parts a b c d l e = (
  sym (take_at a b (length a) refl) ∙ ap (take (length a)) e ∙ take_at c d (length a) (sym l),
  sym (drop_at a b (length a) refl) ∙ ap (drop (length a)) e ∙ drop_at c d (length a) (sym l),
)

pub fields_injective : (w : ℕ) (ms ns : List ℕ) → length ms ≡ length ns → Fit w ms → Fit w ns → fields w ms ≡ fields w ns → ms ≡ ns
unfolding fields
fields_injective w [] [] l f g e = refl
fields_injective w [] (n ∷ ns) l f g e = absurd (omega arith)
fields_injective w (m ∷ ms) [] l f g e = absurd (omega arith)
fields_injective w (m ∷ ms) (n ∷ ns) l f g e =
    let p = parts (field w m) (fields w ms) (field w n) (fields w ns) (length_field w m ∙ sym (length_field w n)) e in
    ap₂ (λ (x : ℕ) (xs : List ℕ). x ∷ xs) (field_injective w m n f.0 g.0 p.0) (fields_injective w ms ns (omega arith) f.1 g.1 p.1)

pub line_injective : (w : ℕ) (ms ns : List ℕ) → length ms ≡ length ns → Fit w ms → Fit w ns → line w ms ≡ line w ns → ms ≡ ns
unfolding line
line_injective w ms ns l f g e =
    let q : length (fields w ms) ≡ length (fields w ns) = length_fields w ms ∙ (rw l (sym (length_fields w ns))) in
    fields_injective w ms ns l f g (parts (fields w ms) (10 ∷ []) (fields w ns) (10 ∷ []) q e).0

some : (w : ℕ) (r : List ℕ) (rs : List (List ℕ)) → 0 < length (lines w (r ∷ rs))
unfolding lines
some w r rs = rw (length-append (line w r) (lines w rs), length_line w r) (omega arith)

pub lines_injective : (w k : ℕ) (rs ss : List (List ℕ)) → RowsFit w k rs → RowsFit w k ss → lines w rs ≡ lines w ss → rs ≡ ss
unfolding lines
lines_injective w k [] [] f g e = refl
lines_injective w k [] (s ∷ ss) f g e = let l : 0 ≡ length (lines w (s ∷ ss)) = ap length e in absurd (omega (arith, some w s ss))
lines_injective w k (r ∷ rs) [] f g e = let l : length (lines w (r ∷ rs)) ≡ 0 = ap length e in absurd (omega (arith, some w r rs))
lines_injective w k (r ∷ rs) (s ∷ ss) f g e =
    let same : length r ≡ length s = f.0.0 ∙ sym g.0.0 in
    let q : length (line w r) ≡ length (line w s) = length_line w r ∙ (rw same (sym (length_line w s))) in
    let p = parts (line w r) (lines w rs) (line w s) (lines w ss) q e in
    ap₂ (λ (x : List ℕ) (xs : List (List ℕ)). x ∷ xs) (line_injective w r s same f.0.1 g.0.1 p.0) (lines_injective w k rs ss f.1 g.1 p.1)

-- ---- reading back

-- the field behind a part of that length, whatever follows
pub field_at : (w n : ℕ) (front back : List ℕ) (at : ℕ) → length front ≡ at → n < 10 ^ w → value (take w (drop at (front ++ (field w n ++ back)))) ≡ n
field_at w n front back at l h = rw (drop_at front (field w n ++ back) at l, take_at (field w n) back w (length_field w n), value_field w n h)
