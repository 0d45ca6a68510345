-- A product's record as a C caller lends it: the words of its store, then its eight tallies.
use Rattle.std.specs.Prelude.{ℕ, Bool, cond, ◌&&◌, List, [], ◌∷◌, leb, ltb, length, get_or}
use Rattle.std.specs.List.{list_all}
use Rattle.std.proofs.lemmas.List.Edits.{sets}
use Rattle.probes_definitions.specs.declared.Probes.{Probes}
use Rattle.probes_definitions.specs.Opening.{no_probes}
use Rattle.point_store_c.specs.Records.{store_out, store_in, recorded}

-- the words of eight tallies
abbrev pub tally_words : List ℕ → List ℕ
tally_words ts = get_or ts 0 0 ∷ get_or ts 1 0 ∷ get_or ts 2 0 ∷ get_or ts 3 0 ∷ get_or ts 4 0 ∷ get_or ts 5 0 ∷ get_or ts 6 0 ∷ get_or ts 7 0 ∷ []

-- the record after its tallies were written
unfoldable pub tallies_out : List ℕ → List ℕ → List ℕ
tallies_out words ts = sets words 39 (tally_words ts)

-- the record after a product was written to it
unfoldable pub probes_out : List ℕ → Probes → List ℕ
probes_out words p = tallies_out (store_out words p.store) p.tallies

abbrev pub tallies_read : List ℕ → List ℕ
tallies_read words = get_or words 39 0 ∷ get_or words 40 0 ∷ get_or words 41 0 ∷ get_or words 42 0 ∷ get_or words 43 0 ∷ get_or words 44 0 ∷ get_or words 45 0 ∷ get_or words 46 0 ∷ []

-- each tally has 32 bits
unfoldable pub legal_tallies : List ℕ → Bool
legal_tallies words = list_all (λ word. ltb word 4294967296) (tallies_read words)

unfoldable pub legal_probes : List ℕ → Bool
legal_probes words = leb 47 (length words) && legal_tallies words

-- the product that a record holds; an illegal one is read as the record of zeros
unfoldable pub probes_in : List ℕ → Probes
probes_in words = cond (legal_probes words) (record { store = store_in words; tallies = tallies_read words }) no_probes

-- the record after a call that leaves the product p; an illegal one is left as it was, and so are the words of a store that is none
unfoldable pub probes_recorded : List ℕ → Probes → List ℕ
probes_recorded words p = cond (legal_probes words) (tallies_out (recorded words p.store) p.tallies) words
