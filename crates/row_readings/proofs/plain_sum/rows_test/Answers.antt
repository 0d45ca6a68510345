-- A turn is one row: the rest of the list is decided as the whole is.
use Rattle.std.proofs.Common.{rules, sym, ap, ◌∙◌}
use Rattle.interval_store_manager.specs.Calls.{decision_means}
use mathlib.Core.List.{[]}
use Rattle.store_definitions.specs.Memory.{point_store}
use Rattle.store_counts.specs.Tables.{counts_alone}
use Rattle.row_readings.specs.RowSums.{row_refused_here, row_goes_here, no_row_decided}
use Rattle.row_readings.proofs.plain_sum.rows_test.Goals as goal

pub returns-in_err-item_test : goal.returns-in_err-item_test
returns-in_err-item_test c =
    let a = c.args in
    let refused = row_refused_here (point_store a.s (counts_alone a.reference_count.now [])) a.rows.now c.loop-row.row-index c.loop-row-test.true (decision_means c.item_test.result) (rw c.item_of.ensures at c.item_test.ensures) _ (ap decision_means c.in_err-item_test.was) ∙ c.loop-row.invariant in
    search (rules, refused)

pub loop-row-preserved : goal.loop-row-preserved
loop-row-preserved c =
    let a = c.args in
    row_goes_here (point_store a.s (counts_alone a.reference_count.now [])) a.rows.now c.loop-row.row-index c.loop-row-test.true (decision_means c.item_test.result) (rw c.item_of.ensures at c.item_test.ensures) (ap decision_means c.in_ok-item_test.was) ∙ c.loop-row.invariant

pub returns : goal.returns
returns c =
    let a = c.args in
    sym (no_row_decided (point_store a.s (counts_alone a.reference_count.now [])) a.rows.now c.loop-row.row-index c.loop-row-test.false) ∙ c.loop-row.invariant
