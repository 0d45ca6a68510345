-- The readings of a well-formed hold, and of an ill-formed one.
use Rattle.std.specs.Prelude.{ℕ, ◌≤◌, true, false, List, ◌≡◌, length, take}
use Rattle.std.proofs.Common.{arith, ap}
use borrow.Author.Tests.{eq-eqb, ne_eqb}
use Rattle.store_definitions.specs.Answers.{done, is, refused, output}
use Rattle.hold_definitions.specs.Memory.{PointHold}
use Rattle.hold_definitions.specs.WellFormed.{hold_well_formed}
use Rattle.hold_definitions.specs.Readings.{hold_form_decided, held_spec, held_number_spec}
use Rattle.hold_definitions.proofs.Sound.{hold_sound}

module _ {E : Type 0} (h : PointHold E) where
  pub held_ill : hold_well_formed h ≡ false → (out : List ℕ) → output (refused 1) out ≡ held_spec h out
  unfolding held_spec hold_form_decided
  held_ill e out = rw e

  pub number_ill : hold_well_formed h ≡ false → refused 1 ≡ held_number_spec h
  unfolding held_number_spec hold_form_decided
  number_ill e = rw e

  module _ (e : hold_well_formed h ≡ true) where
    pub held_short : (out : List ℕ) → (length out ≡ h.header.held → ⊥) → output (refused 3) out ≡ held_spec h out
    unfolding held_spec hold_form_decided
    held_short out d = rw (e, ne_eqb (length out) h.header.held d)

    pub held_whole : (out : List ℕ) → length out ≡ h.header.held → output done (take (length out) h.memory.held_indices) ≡ held_spec h out
    unfolding held_spec hold_form_decided
    held_whole out q = rw (e, eq-eqb (length out) h.header.held q) (ap (λ (n : ℕ). output done (take n h.memory.held_indices)) q)

    -- the table has as many entries
    pub held_fits : (n : ℕ) → n ≡ h.header.held → n ≤ length h.memory.held_indices
    held_fits n q = let s = hold_sound h e in omega (arith, s.held_most, s.width_most, s.indices_lent)

    pub number_well : is h.header.held ≡ held_number_spec h
    unfolding held_number_spec hold_form_decided
    number_well = rw e
