-- A hold comes back from its record, a record from its hold, and an illegal record holds no hold.
use Rattle.std.specs.Prelude.{ℕ, ◌≤◌, ◌<◌, Bool, true, false, List, [], ◌∷◌, ◌++◌, ◌≡◌, refl, leb, length, get_or, drop}
use Rattle.std.proofs.Common.{arith, append_assoc, ap, ◌∙◌, le-leb}
use Rattle.std.proofs.Math.Decide.{dec_lt}
use Rattle.std.proofs.Math.ListN.{length-append}
use Rattle.std.proofs.lemmas.List.{set-get_or}
use Rattle.std.proofs.lemmas.Bool.{lt-leb}
use Rattle.store_definitions.specs.declared.Store.{Store}
use Rattle.store_definitions.specs.Bounds.{bounds_hold}
use Rattle.store_definitions.specs.WellFormed.{well_formed}
use Rattle.hold_definitions.specs.declared.Hold.{Hold}
use Rattle.hold_definitions.specs.Memory.{HoldMemory, point_hold}
use Rattle.hold_definitions.specs.WellFormed.{hold_well_formed}
use Rattle.point_store_c.specs.Records.{store_words, legal_record, store_in}
use Rattle.point_store_c.proofs.RecordLaws.{Sized, length_words, tail_out_lem, tail_word, written_in, record_kept, illegal_ill_formed}
use Rattle.point_store_c.specs.HoldRecords.{hold_words, hold_out, tail_out, hold_in, hold_recorded}

-- the first 41 words are the hold's, and a longer record keeps its rest
pub hold_out_words : (words : List ℕ) (h : Hold) → 41 ≤ length words → length h.store.classes ≡ 24 → hold_out words h ≡ hold_words h ++ drop 41 words
unfolding hold_out tail_out
hold_out_words words h l k = tail_out_lem h.store k words (h.width ∷ h.held ∷ []) l

module _ (h : Hold) (z : Sized h.store) (rest : List ℕ) where
  abbrev tail : List ℕ
  tail = h.width ∷ h.held ∷ rest

  tail_read : hold_in (store_words h.store ++ tail) ≡ h
  unfolding hold_in
  tail_read =
      rw (le-leb 41 (length (store_words h.store ++ tail)) (omega (arith, length-append (store_words h.store) tail, length_words h.store z.codes)), tail_word h.store z.codes tail 0, tail_word h.store z.codes tail 1)
      (ap (λ (s : Store). record { store = s; width = h.width; held = h.held }) (written_in h.store tail z))

  written_hold : hold_in (hold_words h ++ rest) ≡ h
  written_hold = ap hold_in (append_assoc (store_words h.store) (h.width ∷ h.held ∷ []) rest) ∙ tail_read

-- a hold written to a record that is long enough is read again
pub hold_in_out : (words : List ℕ) (h : Hold) → 41 ≤ length words → Sized h.store → hold_in (hold_out words h) ≡ h
hold_in_out words h l z = ap hold_in (hold_out_words words h l z.codes) ∙ written_hold h z (drop 41 words)

pub long_read : (words : List ℕ) → 41 ≤ length words → (s : Store) → s ≡ store_in words → ◌≡◌ {A = Hold} (record { store = s; width = get_or words 39 0; held = get_or words 40 0 }) (hold_in words)
unfolding hold_in
long_read words l s e = rw (le-leb 41 (length words) l, e)

-- a call that leaves the hold leaves the record
pub hold_record_kept : (words : List ℕ) → hold_recorded words (hold_in words) ≡ words
unfolding hold_recorded hold_in tail_out
hold_record_kept words = go (leb 41 (length words)) refl
  where
    go : (b : Bool) → leb 41 (length words) ≡ b → hold_recorded words (hold_in words) ≡ words
    go true e = rw (e, record_kept words, set-get_or words 39 0, set-get_or words 40 0)
    go false e = rw e

-- an illegal record holds an ill-formed hold, which every call refuses with 1
pub short_ill_formed : (words : List ℕ) (m : HoldMemory ℕ) → length words < 41 → hold_well_formed (point_hold (hold_in words) m) ≡ false
unfolding hold_in hold_well_formed well_formed bounds_hold
short_ill_formed words m l = rw (lt-leb 41 (length words) l) refl

long_ill_formed : (words : List ℕ) (m : HoldMemory ℕ) → 41 ≤ length words → legal_record words ≡ false → hold_well_formed (point_hold (hold_in words) m) ≡ false
unfolding hold_in hold_well_formed
long_ill_formed words m l e = rw (le-leb 41 (length words) l, illegal_ill_formed words m.store e) refl

pub illegal_hold_ill_formed : (words : List ℕ) (m : HoldMemory ℕ) → legal_record words ≡ false → hold_well_formed (point_hold (hold_in words) m) ≡ false
illegal_hold_ill_formed words m e =
    elim (dec_lt (length words) 41) [
      | yes l ↦ short_ill_formed words m l
      | no g ↦ long_ill_formed words m (omega arith) e
    ]
