-- 'Another base, or no internal shingling, gets 2 on opening; later either, or a tally above the store's sequence, makes the
-- product's state ill-formed, so 1.'
use Rattle.std.specs.Prelude.{ℕ, ◌/◌, Bool, ◌&&◌, List, length, get_or, leb, eqb}
use Rattle.terms.specs.Below.{every_below}
use Rattle.store_definitions.specs.WellFormed.{well_formed}
use Rattle.probes_definitions.specs.Memory.{PointProbes, store_of}

-- 'base 8, one entry a probe', and internal shingling
unfoldable pub eight_probes : (dimensions shingle_size : ℕ) → Bool → Bool
eight_probes dimensions shingle_size internal = eqb (dimensions / shingle_size) 8 && internal

-- no 'tally above the store's sequence'
unfoldable pub tallies_within : ℕ → List ℕ → Bool
tallies_within sequence tallies = every_below 8 (λ k. leb (get_or tallies k 0) sequence)

module _ {E : Type 0} where
  -- that there are eight tallies holds by type
  unfoldable pub probes_well_formed : PointProbes E → Bool
  probes_well_formed p =
      let s = p.header.store in
      well_formed (store_of p)
      && (eight_probes s.dimensions s.shingle_size s.internal_shingling
      && (eqb (length p.header.tallies) 8 && tallies_within s.next_sequence_index p.header.tallies))
