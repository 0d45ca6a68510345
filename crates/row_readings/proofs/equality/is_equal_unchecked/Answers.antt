-- Each way out is one of the laws of `EqualityLaws`.
use native.Mathlib.Omega.{arith}
use borrow.Author.Rules.{scaled_Fits}
use mathlib.Core.List.{[]}
use mathlib.Core.Path.{sym, ap, ◌∙◌}
use lib.ListN.{length, get_or}
use Rattle.terms.specs.Rows.{all_equal}
use Rattle.placement.specs.Copying.{copied}
use Rattle.placement_rows.specs.declared.shape.Shape.{Shape}
use Rattle.float_bits.specs.Words.{words_equal}
use Rattle.store_definitions.specs.Memory.{point_store}
use Rattle.store_counts.specs.Tables.{counts_alone}
use Rattle.store_rows.specs.Copying.{row_inside}
use Rattle.row_readings.specs.EqualityLaws.{live_is, equality_dead, equality_length, equality_read}
use Rattle.row_readings.proofs.equality.is_equal_unchecked.Goals as goal

pub returns-then-not-point_in_use : goal.returns-then-not-point_in_use
returns-then-not-point_in_use c =
    let a = c.args in
    equality_dead words_equal a.s a.store.now a.reference_count.now a.location.now a.index.0 a.point.now (sym c.point_in_use.ensures ∙ c.if-not-point_in_use.true)

pub returns-then-point-dimensions : goal.returns-then-point-dimensions
returns-then-point-dimensions c =
    let a = c.args in
    equality_length words_equal a.s a.store.now a.reference_count.now a.location.now a.index.0 a.point.now (sym c.point_in_use.ensures ∙ c.if-not-point_in_use.false) c.if-point-dimensions.true

pub offset_bounds-location-index : goal.offset_bounds-location-index
offset_bounds-location-index c =
    let a = c.args in
    let live = live_is (point_store a.s (counts_alone a.reference_count.now [])) a.index.0 (sym c.point_in_use.ensures ∙ c.if-not-point_in_use.false) in
    scaled_Fits _ _ _ (omega (arith, c.requires.places_lent, live.0)) c.well_formed.1.1.1.0.1

pub bounds-location-index : goal.bounds-location-index
bounds-location-index c =
    let a = c.args in
    let live = live_is (point_store a.s (counts_alone a.reference_count.now [])) a.index.0 (sym c.point_in_use.ensures ∙ c.if-not-point_in_use.false) in
    omega (arith, c.requires.places_lent, live.0)

pub copy_equals-requires : goal.copy_equals-requires
copy_equals-requires c =
    let a = c.args in
    let r = c.requires in
    let live = live_is (point_store a.s (counts_alone a.reference_count.now [])) a.index.0 (sym c.point_in_use.ensures ∙ c.if-not-point_in_use.false) in
    rw c.new-shape.ensures (r.dims_some, c.if-point-dimensions.false, row_inside a.s (length a.store.now) a.reference_count.now a.location.now r a.index.0 live.0 live.1)

pub returns : goal.returns
returns c =
    let a = c.args in
    let live = live_is (point_store a.s (counts_alone a.reference_count.now [])) a.index.0 (sym c.point_in_use.ensures ∙ c.if-not-point_in_use.false) in
    equality_read words_equal a.s a.store.now a.reference_count.now a.location.now a.index.0 a.point.now (sym c.point_in_use.ensures ∙ c.if-not-point_in_use.false) c.if-point-dimensions.false (omega (arith, c.requires.places_lent, live.0)) c.copy_equals.result
    (c.copy_equals.ensures ∙ ap (λ (h : Shape). all_equal words_equal (copied h.rotation h.dimensions h.base (get_or a.location.now a.index.0 0) a.store.now) a.point.now) c.new-shape.ensures)
