-- A product comes back from its record, a record from its product, and an illegal record holds no product.
use Rattle.std.specs.Prelude.{ℕ, zero, suc, ◌+◌, ◌≤◌, ◌<◌, Bool, true, false, ◌≡◌, refl, leb, ltb, length, get_or, set, take, drop}
use Rattle.std.specs.List.{between, list_all}
use Rattle.std.proofs.Common.{arith, add-one, sym, ◌∙◌, take_all, length-drop}
use mathlib.Core.List.{List, [], ◌∷◌, ◌++◌, append_assoc}
use Rattle.std.proofs.Math.Path.{ap}
use Rattle.std.proofs.Math.ListN.{length-append, length-set}
use Rattle.std.proofs.Math.Seq.{drop-cons, take-suc, take-suc-set}
use Rattle.std.proofs.lemmas.List.{set-get_or, get_or-drop}
use Rattle.std.proofs.lemmas.List.Edits.{sets, length-between, get_or-between}
use borrow.Author.Tests.{le-leb, lt-ltb, leb-true, ltb-true}
use Rattle.terms.specs.Below.{both}
use Rattle.store_definitions.specs.declared.Store.{Store}
use Rattle.store_definitions.specs.Bounds.{bounds_hold}
use Rattle.store_definitions.specs.Memory.{Memory}
use Rattle.store_definitions.specs.WellFormed.{well_formed}
use Rattle.probes_definitions.specs.declared.Probes.{Probes}
use Rattle.probes_definitions.specs.Memory.{point_probes}
use Rattle.probes_definitions.specs.WellFormed.{probes_well_formed}
use Rattle.point_store_c.specs.Records.{store_words}
use Rattle.point_store_c.proofs.RecordLaws.{Sized, length_words, tail_out_lem, tail_word, written_in, record_kept}
use Rattle.point_store_c.specs.ProbesRecords.{tally_words, probes_out, tallies_out, legal_tallies, legal_probes, tallies_read, probes_in, probes_recorded}

-- ---- what the code's tests show

-- eight tallies are their own words
tally_words_lem : (ts : List ℕ) → length ts ≡ 8 → tally_words ts ≡ ts
tally_words_lem [] l = absurd (omega arith)
tally_words_lem (a ∷ []) l = absurd (omega arith)
tally_words_lem (a ∷ b ∷ []) l = absurd (omega arith)
tally_words_lem (a ∷ b ∷ c ∷ []) l = absurd (omega arith)
tally_words_lem (a ∷ b ∷ c ∷ d ∷ []) l = absurd (omega arith)
tally_words_lem (a ∷ b ∷ c ∷ d ∷ e ∷ []) l = absurd (omega arith)
tally_words_lem (a ∷ b ∷ c ∷ d ∷ e ∷ f ∷ []) l = absurd (omega arith)
tally_words_lem (a ∷ b ∷ c ∷ d ∷ e ∷ f ∷ g ∷ []) l = absurd (omega arith)
tally_words_lem (a ∷ b ∷ c ∷ d ∷ e ∷ f ∷ g ∷ h ∷ []) l = refl
tally_words_lem (a ∷ b ∷ c ∷ d ∷ e ∷ f ∷ g ∷ h ∷ i ∷ ts) l = absurd (omega arith)

-- eight words of a record that is long enough are its tallies
pub eight_words : (words : List ℕ) → 47 ≤ length words → take 8 (drop 39 words) ≡ tallies_read words
eight_words words l =
    rw (drop-cons words 39 0 (omega arith), drop-cons words 40 0 (omega arith), drop-cons words 41 0 (omega arith), drop-cons words 42 0 (omega arith), drop-cons words 43 0 (omega arith), drop-cons words 44 0 (omega arith), drop-cons words 45 0 (omega arith), drop-cons words 46 0 (omega arith))

each_passes : (test : ℕ → Bool) (xs : List ℕ) → list_all test xs ≡ true → (k : ℕ) → k < length xs → test (get_or xs k 0) ≡ true
each_passes test [] e k l = absurd (omega arith)
each_passes test (x ∷ xs) e zero l = (both (test x) _ e).0
each_passes test (x ∷ xs) e (suc k) l = each_passes test xs (both (test x) _ e).1 k (omega arith)

abbrev small : ℕ → Bool
small word = ltb word 4294967296

module _ (words : List ℕ) (long : 47 ≤ length words) where
  pub each_legal : list_all small (between 39 47 words) ≡ legal_tallies words
  unfolding legal_tallies
  each_legal = ap (list_all small) (eight_words words long)

  pub tally_fits : legal_tallies words ≡ true → (k : ℕ) → k < 8 → get_or words (39 + k) 0 < 4294967296
  tally_fits e k l =
      ltb-true (get_or words (39 + k) 0) 4294967296
      (rw (get_or-between words 39 47 k 0 (omega arith)) at (each_passes small (between 39 47 words) (each_legal ∙ e) k (omega (arith, length-between words 39 47 long))))

-- the tallies read one by one
pub one_read : (words ts : List ℕ) (n : ℕ) → 47 ≤ length words → n < 8 → (length ts ≡ 8) × (take n ts ≡ take n (drop 39 words)) → (length (set ts n (get_or words (39 + n) 0)) ≡ 8) × (take (n + 1) (set ts n (get_or words (39 + n) 0)) ≡ take (n + 1) (drop 39 words))
one_read words ts n l h e =
    let x = get_or words (39 + n) 0 in
    let inside : n < length (drop 39 words) = omega (arith, length-drop 39 words) in
    let taken : take (suc n) (set ts n x) ≡ take (suc n) (drop 39 words) = take-suc-set ts n x (omega (arith, e.0)) ∙ ap (λ (vs : List ℕ). vs ++ (x ∷ [])) e.1 ∙ ap (λ (y : ℕ). take n (drop 39 words) ++ (y ∷ [])) (sym (get_or-drop 39 words n 0)) ∙ sym (take-suc (drop 39 words) n 0 inside) in
    (length-set ts n x ∙ e.0, rw (add-one n) taken)

pub tallies_passed : (words ts : List ℕ) (n : ℕ) → 47 ≤ length words → n ≤ 8 → 8 ≤ n → (length ts ≡ 8) × (take n ts ≡ take n (drop 39 words)) → ts ≡ tallies_read words
tallies_passed words ts n l u m e =
    let q : n ≡ 8 = omega arith in
    sym (take_all 8 ts (omega (arith, e.0))) ∙ (rw q at e.1) ∙ eight_words words l

-- the tallies written one by one
pub tallies_written : (words words' ts : List ℕ) (n : ℕ) → length ts ≡ 8 → 8 ≤ n → words' ≡ sets words 39 (take n ts) → words' ≡ tallies_out words ts
unfolding tallies_out
tallies_written words words' ts n l m e =
    e ∙ ap (sets words 39) (take_all n ts (omega arith) ∙ sym (tally_words_lem ts l))

pub record LegalProbes (words : List ℕ) : Type 0 where
  pub long : 47 ≤ length words
  pub tallies : legal_tallies words ≡ true

pub legal : (words : List ℕ) → legal_probes words ≡ true → LegalProbes words
unfolding legal_probes
legal words e =
    let a = both (leb 47 (length words)) (legal_tallies words) e in
    record { long = leb-true 47 (length words) a.0; tallies = a.1 }

-- a call that leaves the product leaves the record
pub probes_record_kept : (words : List ℕ) → probes_recorded words (probes_in words) ≡ words
unfolding probes_recorded probes_in tallies_out
probes_record_kept words = go (legal_probes words) refl
  where
    go : (b : Bool) → legal_probes words ≡ b → probes_recorded words (probes_in words) ≡ words
    go true e = rw (e, record_kept words, set-get_or words 39 0, set-get_or words 40 0, set-get_or words 41 0, set-get_or words 42 0, set-get_or words 43 0, set-get_or words 44 0, set-get_or words 45 0, set-get_or words 46 0)
    go false e = rw e

-- an illegal record holds an ill-formed product, which every call refuses with 1
pub illegal_probes_ill_formed : (words : List ℕ) (m : Memory ℕ) → legal_probes words ≡ false → probes_well_formed (point_probes (probes_in words) m) ≡ false
unfolding probes_in probes_well_formed well_formed bounds_hold
illegal_probes_ill_formed words m e = rw e refl

-- ---- a product written is read again

-- eight tallies of 32 bits, as every product of the code's has
pub record TalliesSized (p : Probes) : Type 0 where
  pub store : Sized p.store
  pub eight : length p.tallies ≡ 8
  pub small : (k : ℕ) → k < 8 → get_or p.tallies k 0 < 4294967296

module _ (p : Probes) (z : TalliesSized p) (rest : List ℕ) where
  abbrev tail : List ℕ
  tail = tally_words p.tallies ++ rest

  abbrev at : (k : ℕ) → get_or (store_words p.store ++ tail) (39 + k) 0 ≡ get_or tail k 0
  at k = tail_word p.store z.store.codes tail k

  abbrev fits : (k : ℕ) → k < 8 → ltb (get_or p.tallies k 0) 4294967296 ≡ true
  fits k l = lt-ltb (get_or p.tallies k 0) 4294967296 (z.small k l)

  written_probes : probes_in (store_words p.store ++ tail) ≡ p
  unfolding probes_in legal_probes legal_tallies
  written_probes =
      rw (le-leb 47 (length (store_words p.store ++ tail)) (omega (arith, length-append (store_words p.store) tail, length_words p.store z.store.codes)), at 0, at 1, at 2, at 3, at 4, at 5, at 6, at 7)
      (rw (fits 0 (omega arith), fits 1 (omega arith), fits 2 (omega arith), fits 3 (omega arith), fits 4 (omega arith), fits 5 (omega arith), fits 6 (omega arith), fits 7 (omega arith))
      (ap (λ (s : Store). record { store = s; tallies = tally_words p.tallies }) (written_in p.store tail z.store)
      ∙ ap (λ (ts : List ℕ). record { store = p.store; tallies = ts }) (tally_words_lem p.tallies z.eight)))

-- the first 47 words are the product's
pub probes_in_out : (words : List ℕ) (p : Probes) → 47 ≤ length words → TalliesSized p → probes_in (probes_out words p) ≡ p
unfolding probes_out tallies_out
probes_in_out words p l z =
    ap probes_in (tail_out_lem p.store z.store.codes words (tally_words p.tallies) l ∙ append_assoc (store_words p.store) (tally_words p.tallies) (drop 47 words))
    ∙ written_probes p z (drop 47 words)
