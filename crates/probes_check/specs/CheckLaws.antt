-- The test of all tallies, and the ways out of the check and of the reading.
use Rattle.std.specs.Prelude.{ℕ, zero, suc, ◌<◌, ◌≤◌, Bool, true, false, ◌&&◌, List, [], ◌∷◌, ◌≡◌, length, get_or, take, refl}
use Rattle.std.specs.List.{list_all}
use Rattle.std.proofs.Common.{arith, take-suc}
use Rattle.std.proofs.Math.Bool.{and-true}
use Rattle.std.proofs.lemmas.List.Folds.{list_all-append}
use borrow.Author.Tests.{eq-eqb, ne_eqb}
use Rattle.terms.specs.Below.{every_below}
use Rattle.store_definitions.specs.Answers.{done, refused, output}
use Rattle.store_definitions.specs.WellFormed.{well_formed}
use Rattle.store_laws.specs.Sound.{sound}
use Rattle.probes_definitions.specs.Memory.{PointProbes, store_of}
use Rattle.probes_definitions.specs.WellFormed.{eight_probes, tallies_within, probes_well_formed}
use Rattle.probes_definitions.specs.Tallies.{probes_form_decided, tallies_spec}

-- ---- a test of the first k entries

pub all_below : (p : ℕ → Bool) (xs : List ℕ) (k : ℕ) → k ≤ length xs → list_all p (take k xs) ≡ every_below k (λ j. p (get_or xs j 0))
unfolding every_below
all_below p xs zero h = refl
all_below p xs (suc k) h =
    rw (take-suc xs k 0 h, list_all-append p (take k xs) (get_or xs k 0 ∷ []), all_below p xs k (omega arith), and-true (p (get_or xs k 0))) refl

-- ---- the check

module _ {E : Type 0} (p : PointProbes E) where
  abbrev eight : Bool
  eight = eight_probes p.header.store.dimensions p.header.store.shingle_size p.header.store.internal_shingling

  pub ill_store : well_formed (store_of p) ≡ false → false ≡ probes_well_formed p
  unfolding probes_well_formed
  ill_store e = rw e

  module _ (e : well_formed (store_of p) ≡ true) where
    pub shingle_positive : 0 < p.header.store.shingle_size
    shingle_positive = omega (arith, (sound (store_of p) e).bounds.shingle_least)

    pub ill_shape : eight ≡ false → false ≡ probes_well_formed p
    unfolding probes_well_formed
    ill_shape f = rw (e, f)

  -- the tests of its own
  abbrev pub own_tests : Bool
  own_tests = eight && tallies_within p.header.store.next_sequence_index p.header.tallies

  pub own_tests_lem : well_formed (store_of p) ≡ true → length p.header.tallies ≡ 8 → own_tests ≡ probes_well_formed p
  unfolding probes_well_formed
  own_tests_lem e g = rw (e, eq-eqb (length p.header.tallies) 8 g)

  -- ---- the reading

  pub read_ill : probes_well_formed p ≡ false → (out : List ℕ) → output (refused 1) out ≡ tallies_spec p out
  unfolding tallies_spec probes_form_decided
  read_ill e out = rw e

  module _ (e : probes_well_formed p ≡ true) (out : List ℕ) where
    pub read_short : (length out ≡ 8 → ⊥) → output (refused 3) out ≡ tallies_spec p out
    unfolding tallies_spec probes_form_decided
    read_short d = rw (e, ne_eqb (length out) 8 d)

    pub read_whole : length out ≡ 8 → output done p.header.tallies ≡ tallies_spec p out
    unfolding tallies_spec probes_form_decided
    read_whole h = rw (e, eq-eqb (length out) 8 h)
