-- What the check shows is what the sum relies on.
use Rattle.std.proofs.Common.{sym, ◌∙◌}
use Rattle.float_bits.specs.Rows.{add_scaled}
use Rattle.float_bits.specs.Words.{float_of, plus_zero}
use Rattle.terms.specs.declared.Refusal.{Refusal}
use Rattle.store_definitions.specs.Lent.{lent}
use Rattle.store_definitions.specs.Memory.{point_store}
use Rattle.store_check.specs.Checked.{check_passed}
use Rattle.store_rows.specs.Copying.{readable}
use Rattle.row_readings.specs.Items.{weightings}
use Rattle.row_readings.specs.SumLaws.{sum_checked}
use Rattle.store_readings.proofs.rows.point_sum_plain.Goals as goal

pub plain_sum_unchecked-requires : goal.plain_sum_unchecked-requires
plain_sum_unchecked-requires c =
    let a = c.args in
    let m = lent a.store.now a.last_known_shingle.now a.tables in
    let well = (check_passed a.s m c.check.result Refusal.IllFormed c.check.ensures _ (sym c.ok_or.ensures.value ∙ c.in_ok-ok_or.was)).0 in
    readable (point_store a.s m) well

pub returns : goal.returns
returns c =
    let a = c.args in
    let m = lent a.store.now a.last_known_shingle.now a.tables in
    let well = (check_passed a.s m c.check.result Refusal.IllFormed c.check.ensures _ (sym c.ok_or.ensures.value ∙ c.in_ok-ok_or.was)).0 in
    c.plain_sum_unchecked.ensures ∙ sum_checked add_scaled (float_of plus_zero) (point_store a.s m) (weightings a.items.now) a.out.now well
