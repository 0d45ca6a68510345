-- The loop's invariant: what was scanned is what the definition leaves of the places before `place`, and its quotients are carried along.
use Rattle.std.proofs.Common.{◌≡◌, ◌/◌, sym, ap, ◌∙◌, subst, arith}
use native.Mathlib.Nat.{div-mul_cancel}
use Rattle.placement.proofs.ScannedLaws.{scanned}
use Rattle.placement_rows.specs.OnePass.{Carried}
use Rattle.placement_rows.proofs.OneRun.{scan_same, none_carried}
use Rattle.placement_rows.proofs.Scanning.{scan_first, scan_last, passes, can_take, takes}
use Rattle.placement_rows.proofs.one_pass.scan_places.Goals as goal
use Rattle.placement_rows.proofs.one_pass.scan_places.Goals.{then-index, else-index}

pub loop-place-init : goal.loop-place-init
loop-place-init c =
    let a = c.args in
    (scan_first a.shape.dimensions a.shape.base a.shape.rotation a.store.now a.location.now a.index_at.now a.start_free_region c.requires, none_carried a.shape.base)

pub take_point-done-requires : goal.take_point-done-requires
take_point-done-requires c =
    let a = c.args in
    let at = c.loop-place in
    let can = can_take a.shape.dimensions a.shape.base a.shape.rotation a.store.now a.location.now a.index_at.now a.start_free_region c.requires at.place at.store at.location at.done at.invariant.0 c.loop-place-test.true c.if-index.true in
    (sym (div-mul_cancel a.shape.base c.requires.compactable.well.shaped.whole), ((can.0, at.invariant.1), can.1))

pub loop-place-preserved : goal.loop-place-preserved
loop-place-preserved c =
    let a = c.args in
    let at = c.loop-place in
    let inside = c.loop-place-test.true in
    elim c.if-index.branch [
      | then-index w ↦
          let t = w.take_point-done in
          (scan_same w.store-is w.location-is w.done-is ∙ takes a.shape.dimensions a.shape.base a.shape.rotation a.store.now a.location.now a.index_at.now a.start_free_region c.requires at.place at.store at.location at.done at.invariant.0 inside w.if-index.true t.new.store t.new.location t.result t.ensures.0, subst (Carried a.shape.base) (sym w.done-is) t.ensures.1)
      | else-index w ↦
          (scan_same w.store-is w.location-is w.done-is ∙ passes a.shape.dimensions a.shape.base a.shape.rotation a.store.now a.location.now a.index_at.now a.start_free_region c.requires at.place at.store at.location at.done at.invariant.0 inside w.if-index.false, subst (Carried a.shape.base) (sym w.done-is) at.invariant.1)
    ]

pub returns : goal.returns
returns c =
    let a = c.args in
    let at = c.loop-place in
    let done : at.place ≡ a.start_free_region / a.shape.base = omega arith in
    scan_last a.shape.dimensions a.shape.base a.shape.rotation a.store.now a.location.now a.index_at.now a.start_free_region c.requires at.store at.location at.done (at.invariant.0 ∙ ap (scanned 0 a.shape.dimensions a.shape.base a.shape.rotation a.store.now a.location.now) done)
