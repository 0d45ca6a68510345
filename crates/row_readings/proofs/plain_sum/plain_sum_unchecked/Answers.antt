-- Each way out is one of the laws of `SumLaws`.
use Rattle.std.proofs.Common.{rules, sym, ap, ◌∙◌, length}
use mathlib.Core.List.{List, []}
use lib.Ieee.{Float}
use Rattle.float_bits.specs.Rows.{add_scaled}
use Rattle.float_bits.specs.Words.{float_of, plus_zero}
use Rattle.interval_store_manager.specs.Calls.{decision_means}
use Rattle.store_definitions.specs.Memory.{point_store, rows_alone}
use Rattle.store_definitions.specs.Sums.{summed}
use Rattle.row_readings.specs.Items.{weightings}
use Rattle.row_readings.specs.RowSums.{all_rows_addable}
use Rattle.row_readings.specs.SumLaws.{sum_length, sum_refused, sum_written_lem}
use Rattle.row_readings.proofs.plain_sum.plain_sum_unchecked.Goals as goal

pub returns-then-out-s : goal.returns-then-out-s
returns-then-out-s c =
    let a = c.args in
    sum_length add_scaled (float_of plus_zero) a.s a.store.now a.reference_count.now a.location.now (weightings a.rows.now) a.out.now c.if-out-s.true

pub returns-in_err-rows_test : goal.returns-in_err-rows_test
returns-in_err-rows_test c =
    let a = c.args in
    let refused = sum_refused add_scaled (float_of plus_zero) a.s a.store.now a.reference_count.now a.location.now (weightings a.rows.now) a.out.now c.if-out-s.false _ (sym c.rows_test.ensures ∙ ap decision_means c.in_err-rows_test.was) in
    search (rules, refused)

pub add_rows-requires : goal.add_rows-requires
add_rows-requires c =
    let a = c.args in
    (c.fill.auto.self ∙ c.if-out-s.false, all_rows_addable a.s (length a.store.now) a.reference_count.now a.location.now c.requires a.rows.now (sym c.rows_test.ensures ∙ ap decision_means c.in_ok-rows_test.was))

pub returns : goal.returns
returns c =
    let a = c.args in
    sum_written_lem add_scaled (float_of plus_zero) a.s a.store.now a.reference_count.now a.location.now (weightings a.rows.now) a.out.now c.if-out-s.false (sym c.rows_test.ensures ∙ ap decision_means c.in_ok-rows_test.was) _ (c.add_rows.ensures ∙ ap (λ (sums : List Float). summed add_scaled (point_store a.s (rows_alone a.store.now [] a.location.now)) (weightings a.rows.now) sums) (search rules))
