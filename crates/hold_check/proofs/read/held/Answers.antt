-- The check, the length, and then the list.
use Rattle.std.proofs.Common.{◌≡◌, true, ℕ, List, length, take, sym, ap, ◌∙◌, refl, length-take-le}
use Rattle.terms.specs.declared.Refusal.{Refusal}
use Rattle.store_definitions.specs.Answers.{done, output}
use Rattle.hold_definitions.specs.Lent.{hold_lent}
use Rattle.hold_definitions.specs.Memory.{PointHold, point_hold, indices_of}
use Rattle.hold_definitions.specs.WellFormed.{hold_well_formed}
use Rattle.hold_definitions.proofs.ReadingLaws.{held_whole, held_fits}
use Rattle.hold_check.specs.Checked.{hold_checked_ok}
use Rattle.hold_check.proofs.read.held.Goals as goal

long : {E : Type 0} (h : PointHold E) → hold_well_formed h ≡ true → h.header.held ≡ length (indices_of h)
long h e = sym (length-take-le h.header.held h.memory.held_indices (held_fits h e h.header.held refl))

pub slice_bounds-copy_from_slice-end : goal.slice_bounds-copy_from_slice-end
slice_bounds-copy_from_slice-end c =
    let a = c.args in
    let h = point_hold a.h (hold_lent a.store.now a.last_known_shingle.now a.tables a.held_indices.now a.held_labels.now) in
    long h (hold_checked_ok h c.check_hold.result Refusal.IllFormed _ c.check_hold.ensures (sym c.ok_or.ensures.value ∙ c.in_ok-ok_or.was)).0

pub copy_from_slice-requires : goal.copy_from_slice-requires
copy_from_slice-requires c =
    let a = c.args in
    let h = point_hold a.h (hold_lent a.store.now a.last_known_shingle.now a.tables a.held_indices.now a.held_labels.now) in
    c.if-out-h.false ∙ long h (hold_checked_ok h c.check_hold.result Refusal.IllFormed _ c.check_hold.ensures (sym c.ok_or.ensures.value ∙ c.in_ok-ok_or.was)).0

pub returns : goal.returns
returns c =
    let a = c.args in
    let h = point_hold a.h (hold_lent a.store.now a.last_known_shingle.now a.tables a.held_indices.now a.held_labels.now) in
    ap (λ (xs : List ℕ). output done xs) (c.copy_from_slice.ensures.after ∙ ap (λ (n : ℕ). take n a.held_indices.now) (sym c.if-out-h.false))
    ∙ held_whole h (hold_checked_ok h c.check_hold.result Refusal.IllFormed _ c.check_hold.ensures (sym c.ok_or.ensures.value ∙ c.in_ok-ok_or.was)).0 a.out.now c.if-out-h.false
