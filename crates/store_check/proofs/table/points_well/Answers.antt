-- Where the table is well-formed, the places decide.
use native.Mathlib.Omega.{arith}
use mathlib.Core.Bool.{true, false, false≢true}
use mathlib.Core.Path.{refl, ◌∙◌}
use Rattle.store_definitions.specs.Parts.{table_length}
use Rattle.store_definitions.specs.WellFormed.{places_distinct}
use Rattle.store_check.specs.PointsTest.{points_decide}
use Rattle.store_check.proofs.PlaceLaws.{part_distinct}
use Rattle.store_check.proofs.table.points_well.Goals as goal

pub returns-in_err-table : goal.returns-in_err-table
returns-in_err-table c =
    let a = c.args in
    let f = c.in_err-table.ensures in
    c.from_residual.ensures ∙ points_decide a.s a.reference_count.now a.location.now a.index_starts.now a.index_ends.now false (places_distinct (table_length a.s) a.location.now) 0 f.0 refl (λ t. absurd (false≢true t))

pub returns : goal.returns
returns c =
    let a = c.args in
    let f = c.in_ok-table.ensures in
    c.then_some.ensures ∙ points_decide a.s a.reference_count.now a.location.now a.index_starts.now a.index_ends.now true c.places_distinct.result c.in_ok-table.table.live f.0 (c.places_distinct.ensures ∙ part_distinct (table_length a.s) a.location.now (omega (arith, c.requires.table_within, c.requires.places_lent))) (λ t. f.1.live_is)
