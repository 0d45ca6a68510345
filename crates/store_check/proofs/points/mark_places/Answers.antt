-- The invariant: the places of the entries passed are marked, and whether they are distinct.
use Prim.Native.Nat.{ℕ, ◌+◌, ◌<◌}
use native.Mathlib.Omega.{arith}
use mathlib.Core.Bool.{Bool}
use mathlib.Core.List.{List}
use mathlib.Core.Path.{◌≡◌, refl, sym, ◌∙◌, ap, subst⁻¹}
use lib.ListN.{length, get_or}
use Rattle.terms.specs.Below.{every_below}
use Rattle.store_definitions.specs.WellFormed.{places_distinct}
use Rattle.store_check.specs.Entries.{place_met, place_marked}
use Rattle.terms.specs.Entries.{any_default}
use Rattle.store_check.proofs.PlaceLaws.{PlacesMarked, none_yet, marks_more, distinct_more}
use Rattle.store_check.proofs.points.mark_places.Goals as goal

pub loop-place-init : goal.loop-place-init
unfolding places_distinct every_below
loop-place-init c = (refl, (refl, none_yet c.args.location.now c.args.marks.now c.requires.0))

pub loop-place-preserved : goal.loop-place-preserved
loop-place-preserved c =
    let v = c.loop-place.invariant in
    let same = (any_default c.args.location.now c.loop-place.place-index 0 65535 (omega arith)) in
    let marks = c.loop-place.marks in
    let fits : (get_or c.args.location.now c.loop-place.place-index 65535 ≡ 65535 → ⊥) → get_or c.args.location.now c.loop-place.place-index 65535 < length marks = λ d. rw (v.0, sym same) (c.requires.1 c.loop-place.place-index c.loop-place-test.true (λ e. d (sym same ∙ e))) in
    let after = c.mark_place-met.ensures.1 ∙ ap (λ (p : ℕ). place_marked p marks) same in (
      c.mark_place-met.auto.marks ∙ v.0,
      (
        distinct_more c.loop-place.place-index c.args.location.now marks c.loop-place.met c.mark_place-met.result v.1.1 v.1.0 (c.mark_place-met.ensures.0 ∙ ap (λ (p : ℕ). place_met p marks) same),
        subst⁻¹ (λ (m : List Bool). PlacesMarked (c.loop-place.place-index + 1) c.args.location.now m) after (marks_more c.loop-place.place-index c.args.location.now marks v.1.1 fits),
      ),
    )
