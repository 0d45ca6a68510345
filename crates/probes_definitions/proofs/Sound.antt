-- A product's well-formedness as a record of named facts.
use Rattle.std.specs.Prelude.{ℕ, ◌/◌, ◌≤◌, ◌<◌, Bool, true, List, ◌≡◌, length, get_or, leb, eqb}
use borrow.Author.Tests.{eq-eqb, eqb-true, le-leb, leb-true}
use Rattle.terms.specs.Below.{both, and_make, every_at, every_make}
use Rattle.store_definitions.specs.Parts.{base_of}
use Rattle.store_definitions.specs.WellFormed.{well_formed}
use Rattle.probes_definitions.specs.Memory.{PointProbes, store_of}
use Rattle.probes_definitions.specs.WellFormed.{eight_probes, tallies_within, probes_well_formed}

pub eight_sound : (dims shingle : ℕ) (internal : Bool) → eight_probes dims shingle internal ≡ true → (dims / shingle ≡ 8) × (internal ≡ true)
unfolding eight_probes
eight_sound dims shingle internal e =
    let b = both (eqb (dims / shingle) 8) internal e in
    (eqb-true (dims / shingle) 8 b.0, b.1)

pub eight_make : (dims shingle : ℕ) (internal : Bool) → dims / shingle ≡ 8 → internal ≡ true → eight_probes dims shingle internal ≡ true
unfolding eight_probes
eight_make dims shingle internal e f = and_make (eqb (dims / shingle) 8) internal (eq-eqb (dims / shingle) 8 e) f

pub within_sound : (sequence : ℕ) (ts : List ℕ) → tallies_within sequence ts ≡ true → (k : ℕ) → k < 8 → get_or ts k 0 ≤ sequence
unfolding tallies_within
within_sound sequence ts e k h = leb-true (get_or ts k 0) sequence (every_at 8 (λ j. leb (get_or ts j 0) sequence) e k h)

pub within_make : (sequence : ℕ) (ts : List ℕ) → ((k : ℕ) → k < 8 → get_or ts k 0 ≤ sequence) → tallies_within sequence ts ≡ true
unfolding tallies_within
within_make sequence ts f = every_make 8 (λ j. leb (get_or ts j 0) sequence) (λ k h. le-leb (get_or ts k 0) sequence (f k h))

module _ {E : Type 0} where
  pub record ProbesSound (p : PointProbes E) : Type 0 where
    pub well : well_formed (store_of p) ≡ true
    pub base_eight : base_of p.header.store ≡ 8
    pub internal : p.header.store.internal_shingling ≡ true
    pub eight_tallies : length p.header.tallies ≡ 8
    pub tallies_most : (k : ℕ) → k < 8 → get_or p.header.tallies k 0 ≤ p.header.store.next_sequence_index

  module _ (p : PointProbes E) where
    pub probes_sound : probes_well_formed p ≡ true → ProbesSound p
    unfolding probes_well_formed
    probes_sound e =
        let s = p.header.store in
        let a = both _ _ e in
        let b = both _ _ a.1 in
        let c = both _ _ b.1 in
        let eight = eight_sound s.dimensions s.shingle_size s.internal_shingling b.0 in
        record {
          well = a.0;
          base_eight = eight.0;
          internal = eight.1;
          eight_tallies = eqb-true (length p.header.tallies) 8 c.0;
          tallies_most = within_sound s.next_sequence_index p.header.tallies c.1;
        }

    pub probes_sound_make : ProbesSound p → probes_well_formed p ≡ true
    unfolding probes_well_formed
    probes_sound_make w =
        let s = p.header.store in
        and_make _ _ w.well
        (and_make _ _ (eight_make s.dimensions s.shingle_size s.internal_shingling w.base_eight w.internal)
        (and_make _ _ (eq-eqb (length p.header.tallies) 8 w.eight_tallies)
        (within_make s.next_sequence_index p.header.tallies w.tallies_most)))
