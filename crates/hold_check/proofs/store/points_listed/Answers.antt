-- A hold as its own calls leave it, or else the table and then the places.
use Rattle.std.proofs.Common.{sym, ◌∙◌}
use Rattle.store_definitions.specs.Parts.{table_length}
use Rattle.hold_check.proofs.PartLaws.{distinct_part, below_part}
use Rattle.hold_check.proofs.StoreLaws.{list_distinct, list_known, points_by, steady_known}
use Rattle.hold_check.proofs.SteadyLaws.{counts_room, places_room}
use Rattle.hold_check.proofs.store.points_listed.Goals as goal

pub returns-then-steady : goal.returns-then-steady
returns-then-steady c =
    let start = c in
    let a = start.args in
    let t = c.steady.ensures c.if-steady.true in
    (sym t.points, (t.live, steady_known a.s a.reference_count.now a.location.now a.index_starts.now a.index_ends.now (counts_room a.s a.reference_count.now a.location.now start.requires) a.list.now t))

pub distinct-requires : goal.distinct-requires
distinct-requires c =
    let start = c in
    let a = start.args in
    let r = places_room a.s a.reference_count.now a.location.now start.requires in
    let f = c.in_ok-table.ensures in (
      list_distinct a.s a.reference_count.now a.location.now a.index_starts.now a.index_ends.now _ _ f.1 (sym f.0) (counts_room a.s a.reference_count.now a.location.now start.requires) r a.list.now _ c.live_rise-rises.ensures,
      (f.1.limit_most, below_part (table_length a.s) a.location.now r _ f.1.places_below),
    )

pub returns-then-distinct : goal.returns-then-distinct
returns-then-distinct c =
    let start = c in
    let a = start.args in
    let r = places_room a.s a.reference_count.now a.location.now start.requires in
    let f = c.in_ok-table.ensures in (
      points_by a.s a.reference_count.now a.location.now a.index_starts.now a.index_ends.now f.0 (sym c.if-distinct.true ∙ c.distinct.ensures ∙ distinct_part (table_length a.s) a.location.now r),
      (f.1.live_is, list_known a.s a.reference_count.now a.location.now a.index_starts.now a.index_ends.now _ _ f.1 (sym f.0) (counts_room a.s a.reference_count.now a.location.now start.requires) r a.list.now _ c.live_rise-rises.ensures c.rising_single-listed.result c.rising_single-listed.ensures),
    )
