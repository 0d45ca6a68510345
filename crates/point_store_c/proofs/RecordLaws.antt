-- A store comes back from its record, a record from its store, and an illegal record holds no store.
use Rattle.std.specs.Prelude.{ℕ, zero, suc, ◌+◌, ◌≤◌, ◌<◌, Bool, true, false, cond, ◌&&◌, List, ◌++◌, ◌≡◌, leb, ltb, eqb, get_or, take}
use native.Mathlib.Omega.{arith}
use Rattle.std.proofs.Math.Path.{refl, ap}
use Rattle.std.proofs.Common.{sym, ◌∙◌, take_at, get_or-append-add, le-leb, lt-ltb, leb-true, ltb-true}
use Rattle.std.proofs.Math.ListN.{length, drop, length-append, get_or-append}
use Rattle.std.proofs.Math.Seq.{sets, sets-eq, length-sets}
use Rattle.std.proofs.lemmas.List.{set-get_or}
use Rattle.terms.specs.Below.{one, both}
use Rattle.class_words.specs.Words.{classes_legal}
use Rattle.class_words.specs.WordsLaws.{small_make, read_written, sets_after}
use Rattle.store_definitions.specs.declared.Store.{Store}
use Rattle.store_definitions.specs.Memory.{Memory, point_store}
use Rattle.store_definitions.specs.Bounds.{bounds_hold}
use Rattle.store_definitions.specs.Opening.{no_record}
use Rattle.store_definitions.specs.WellFormed.{well_formed}
use Rattle.point_store_c.specs.Records.{head_words, store_words, store_out, legal_record, read_with, store_read, store_in, recorded, recorded_whole}

-- a store whose sequence number and classes have their sizes, as every store of the code's has
pub record Sized (s : Store) : Type 0 where
  pub sequence : s.next_sequence_index < 4294967296
  pub codes : length s.classes ≡ 24
  pub bytes : (code : ℕ) → code < 24 → get_or s.classes code 0 < 256

-- the first 39 words are the store's, and a longer record keeps its rest
pub length_words : (s : Store) → length s.classes ≡ 24 → length (store_words s) ≡ 39
length_words s k = omega (arith, k)

pub out_words : (words : List ℕ) (s : Store) → 39 ≤ length words → length s.classes ≡ 24 → store_out words s ≡ store_words s ++ drop 39 words
unfolding store_out
out_words words s l k =
    sets-eq (store_words s) words 0 (omega (arith, k))
    ∙ ap (λ (n : ℕ). store_words s ++ drop n words) (let e : 0 + length (store_words s) ≡ 39 = omega (arith, k) in e)

-- a record that is longer has words of its own behind the store's
module _ (s : Store) (k : length s.classes ≡ 24) where
  pub tail_out_lem : (words tail : List ℕ) → 39 + length tail ≤ length words → sets (store_out words s) 39 tail ≡ (store_words s ++ tail) ++ drop (39 + length tail) words
  unfolding store_out
  tail_out_lem words tail l =
      let w = store_words s in
      let sized : length w ≡ 39 = length_words s k in
      let more : length (w ++ tail) ≡ 39 + length tail = length-append w tail ∙ (rw sized) in
      ap (λ (n : ℕ). sets (sets words 0 w) n tail) (let e : 39 ≡ 0 + length w = omega arith in e)
      ∙ sets_after words 0 w tail
      ∙ sets-eq (w ++ tail) words 0 (omega arith)
      ∙ ap (λ (n : ℕ). (w ++ tail) ++ drop n words) (let e : 0 + length (w ++ tail) ≡ 39 + length tail = omega arith in e)

  pub tail_word : (tail : List ℕ) (n : ℕ) → get_or (store_words s ++ tail) (39 + n) 0 ≡ get_or tail n 0
  tail_word tail n =
      ap (λ (m : ℕ). get_or (store_words s ++ tail) (m + n) 0) (sym (length_words s k))
      ∙ get_or-append-add (store_words s) tail n 0

-- the words before the classes, then the classes
pub classes_after : (words words' : List ℕ) (s : Store) → words' ≡ sets words 0 (head_words s) → sets words' 15 s.classes ≡ store_out words s
unfolding store_out
classes_after words words' s e = rw e

flag_small : (b : Bool) → ltb (one b) 2 ≡ true
flag_small true = refl
flag_small false = refl

flag_back : (b : Bool) → eqb (one b) 1 ≡ b
flag_back true = refl
flag_back false = refl

written_legal : (s : Store) (rest : List ℕ) → Sized s → legal_record (store_words s ++ rest) ≡ true
unfolding legal_record
written_legal s rest z =
    rw (le-leb 39 (length (store_words s ++ rest)) (omega (arith, length-append s.classes rest, z.codes)), flag_small s.internal_shingling, flag_small s.internal_rotation, flag_small s.store_labels, lt-ltb s.next_sequence_index 4294967296 z.sequence)
    (small_make 15 (store_words s ++ rest) (λ code l. rw (get_or-append-add (head_words s) (s.classes ++ rest) code 0, get_or-append s.classes rest 0 code (omega (arith, z.codes))) (z.bytes code l)))

written_read : (s : Store) (rest : List ℕ) → length s.classes ≡ 24 → store_read (store_words s ++ rest) ≡ s
written_read s rest k = rw (flag_back s.internal_shingling, flag_back s.internal_rotation, flag_back s.store_labels, take_at s.classes rest 24 k)

pub written_in : (s : Store) (rest : List ℕ) → Sized s → store_in (store_words s ++ rest) ≡ s
unfolding store_in
written_in s rest z = rw (written_legal s rest z) (written_read s rest z.codes)

-- a store written to a record that is long enough is read again
pub in_out : (words : List ℕ) (s : Store) → 39 ≤ length words → Sized s → store_in (store_out words s) ≡ s
in_out words s l z = ap store_in (out_words words s l z.codes) ∙ written_in s (drop 39 words) z

pub record Legal (words : List ℕ) : Type 0 where
  pub long : 39 ≤ length words
  pub shingling : get_or words 3 0 < 2
  pub rotation : get_or words 4 0 < 2
  pub labels : get_or words 5 0 < 2
  pub sequence : get_or words 8 0 < 4294967296
  pub bytes : classes_legal 15 words ≡ true

pub legal : (words : List ℕ) → legal_record words ≡ true → Legal words
unfolding legal_record
legal words e =
    let p = both (leb 39 (length words)) _ e in
    let q = both (ltb (get_or words 3 0) 2) _ p.1 in
    let r = both (ltb (get_or words 4 0) 2) _ q.1 in
    let t = both (ltb (get_or words 5 0) 2) _ r.1 in
    let u = both (ltb (get_or words 8 0) 4294967296) (classes_legal 15 words) t.1 in
    record {
      long = leb-true 39 (length words) p.0;
      shingling = ltb-true (get_or words 3 0) 2 q.0;
      rotation = ltb-true (get_or words 4 0) 2 r.0;
      labels = ltb-true (get_or words 5 0) 2 t.0;
      sequence = ltb-true (get_or words 8 0) 4294967296 u.0;
      bytes = u.1;
    }

module _ (words : List ℕ) where
  pub legal_read : (classes : List ℕ) → classes ≡ take 24 (drop 15 words) → legal_record words ≡ true → read_with words classes ≡ store_in words
  unfolding store_in
  legal_read classes q e = rw (e, q)

  pub illegal_read : legal_record words ≡ false → no_record ≡ store_in words
  unfolding store_in
  illegal_read e = rw e

  pub head_recorded : (s : Store) → (leb 39 (length words) && ltb 0 s.capacity) ≡ true → sets words 0 (head_words s) ≡ recorded words s
  unfolding recorded
  head_recorded s e = rw e

flag_word : (n : ℕ) → n < 2 → one (eqb n 1) ≡ n
flag_word zero l = refl
flag_word (suc zero) l = refl
flag_word (suc (suc n)) l = absurd (omega arith)

-- a legal record is what its own store writes
head_back : (words : List ℕ) → Legal words → sets words 0 (head_words (store_read words)) ≡ words
head_back words l =
    rw (flag_word (get_or words 3 0) l.shingling, flag_word (get_or words 4 0) l.rotation, flag_word (get_or words 5 0) l.labels, set-get_or words 0 0, set-get_or words 1 0, set-get_or words 2 0, set-get_or words 3 0, set-get_or words 4 0, set-get_or words 5 0, set-get_or words 6 0, set-get_or words 7 0, set-get_or words 8 0, set-get_or words 9 0, set-get_or words 10 0, set-get_or words 11 0, set-get_or words 12 0, set-get_or words 13 0, set-get_or words 14 0)

pub out_in : (words : List ℕ) → legal_record words ≡ true → store_out words (store_in words) ≡ words
out_in words e =
    let l = legal words e in
    ap (store_out words) (sym (legal_read words (take 24 (drop 15 words)) refl e))
    ∙ sym (classes_after words (sets words 0 (head_words (store_read words))) (store_read words) refl)
    ∙ ap (λ (w : List ℕ). sets w 15 (take 24 (drop 15 words))) (head_back words l)
    ∙ read_written 15 words l.long

-- a call that leaves the store leaves the record
pub record_kept : (words : List ℕ) → recorded words (store_in words) ≡ words
unfolding recorded store_in
record_kept words = go (legal_record words) refl
  where
    written : (b : Bool) → Legal words → cond b (sets words 0 (head_words (store_read words))) words ≡ words
    written true l = head_back words l
    written false l = refl

    none : (b : Bool) → cond (b && false) (sets words 0 (head_words no_record)) words ≡ words
    none true = refl
    none false = refl

    go : (b : Bool) → legal_record words ≡ b → recorded words (store_in words) ≡ words
    go true e = rw e (written (leb 39 (length words) && ltb 0 (get_or words 2 0)) (legal words e))
    go false e = rw e (none (leb 39 (length words)))

-- an illegal record holds an ill-formed store, which every call refuses with 1
pub illegal_ill_formed : (words : List ℕ) (m : Memory ℕ) → legal_record words ≡ false → well_formed (point_store (store_in words) m) ≡ false
unfolding store_in well_formed bounds_hold
illegal_ill_formed words m e = rw e refl

-- Writing the words before the classes is writing the whole store, of every store that a call leaves: it has the classes and the
-- capacity of the one that was read, and one of capacity 0 is left as it was
module _ (words : List ℕ) (s : Store) (classes_same : s.classes ≡ (store_in words).classes) (capacity_same : s.capacity ≡ (store_in words).capacity) (none_left : (store_in words).capacity ≡ 0 → s ≡ store_in words) where
  head_words_lem : 39 ≤ length words → sets words 0 (head_words s) ≡ head_words s ++ drop 15 words
  head_words_lem l = sets-eq (head_words s) words 0 (omega arith)

  whole_written : legal_record words ≡ true → sets words 0 (head_words s) ≡ store_out words s
  whole_written e =
      let l = legal words e in
      let same : s.classes ≡ take 24 (drop 15 (sets words 0 (head_words s))) = classes_same ∙ ap (λ (t : Store). t.classes) (sym (legal_read words (take 24 (drop 15 words)) refl e)) ∙ ap (λ (w : List ℕ). take 24 (drop 15 w)) (sym (head_words_lem l.long)) in
      sym (read_written 15 (sets words 0 (head_words s)) (rw (length-sets words 0 (head_words s)) l.long))
      ∙ ap (sets (sets words 0 (head_words s)) 15) (sym same)
      ∙ classes_after words (sets words 0 (head_words s)) s refl

  pub recorded_whole_lem : recorded words s ≡ recorded_whole words s
  unfolding recorded_whole
  recorded_whole_lem = go (legal_record words) refl (store_in words).capacity refl
    where
      kept : (store_in words).capacity ≡ 0 → recorded words s ≡ words
      kept z = ap (recorded words) (none_left z) ∙ record_kept words

      go : (b : Bool) → legal_record words ≡ b → (n : ℕ) → (store_in words).capacity ≡ n → recorded words s ≡ recorded_whole words s
      go false e n q = rw e (kept (ap (λ (t : Store). t.capacity) (sym (illegal_read words e))))
      go true e zero q = rw e (kept q ∙ sym (out_in words e) ∙ ap (store_out words) (sym (none_left q)))
      go true e (suc n) q =
          let some : (leb 39 (length words) && ltb 0 s.capacity) ≡ true = rw (le-leb 39 (length words) (legal words e).long, lt-ltb 0 s.capacity (omega (arith, capacity_same, q))) in
          rw e (sym (head_recorded words s some) ∙ whole_written e)
