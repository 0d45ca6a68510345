-- A turn is one item: the rest of the list is decided as the whole is.
use Rattle.std.proofs.Common.{rules, sym, ap, ◌∙◌}
use Rattle.interval_store_manager.specs.Calls.{decision_means}
use mathlib.Core.List.{[]}
use Rattle.store_definitions.specs.Memory.{point_store}
use Rattle.store_counts.specs.Tables.{counts_alone}
use Rattle.row_readings.specs.SumLaws.{refused_here, goes_here, none_decided}
use Rattle.row_readings.proofs.sum.items_test.Goals as goal

pub returns-in_err-item_test : goal.returns-in_err-item_test
returns-in_err-item_test c =
    let a = c.args in
    let refused = refused_here (point_store a.s (counts_alone a.reference_count.now [])) a.items.now c.loop-item.item-index c.loop-item-test.true (decision_means c.item_test.result) c.item_test.ensures _ (ap decision_means c.in_err-item_test.was) ∙ c.loop-item.invariant in
    search (rules, refused)

pub loop-item-preserved : goal.loop-item-preserved
loop-item-preserved c =
    let a = c.args in
    goes_here (point_store a.s (counts_alone a.reference_count.now [])) a.items.now c.loop-item.item-index c.loop-item-test.true (decision_means c.item_test.result) c.item_test.ensures (ap decision_means c.in_ok-item_test.was) ∙ c.loop-item.invariant

pub returns : goal.returns
returns c =
    let a = c.args in
    sym (none_decided (point_store a.s (counts_alone a.reference_count.now [])) a.items.now c.loop-item.item-index c.loop-item-test.false) ∙ c.loop-item.invariant
