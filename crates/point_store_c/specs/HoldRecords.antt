-- A hold's record as a C caller lends it: the words of its store, then its width and how many points are held.
use Rattle.std.specs.Prelude.{ℕ, cond, List, [], ◌∷◌, ◌++◌, leb, length, get_or}
use Rattle.std.proofs.lemmas.List.Edits.{sets}
use Rattle.hold_definitions.specs.declared.Hold.{Hold}
use Rattle.hold_definitions.specs.Opening.{no_hold}
use Rattle.point_store_c.specs.Records.{store_words, store_out, store_in, recorded}

-- the words of a hold, from word 0 on
abbrev pub hold_words : Hold → List ℕ
hold_words h = store_words h.store ++ h.width ∷ h.held ∷ []

-- the record after its last two words were written
unfoldable pub tail_out : List ℕ → (width held : ℕ) → List ℕ
tail_out words width held = sets words 39 (width ∷ held ∷ [])

-- the record after a hold was written to it
unfoldable pub hold_out : List ℕ → Hold → List ℕ
hold_out words h = tail_out (store_out words h.store) h.width h.held

-- the hold that a record holds; one too short is read as the record of zeros
unfoldable pub hold_in : List ℕ → Hold
hold_in words =
    cond (leb 41 (length words))
    (record { store = store_in words; width = get_or words 39 0; held = get_or words 40 0 })
    no_hold

-- the record after a call that leaves the hold h; one too short is left as it was, and so are the words of a store that is none
unfoldable pub hold_recorded : List ℕ → Hold → List ℕ
hold_recorded words h =
    cond (leb 41 (length words)) (tail_out (recorded words h.store) h.width h.held) words
