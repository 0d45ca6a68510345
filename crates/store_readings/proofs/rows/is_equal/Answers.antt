-- What the check shows is what the comparison relies on.
use Rattle.std.proofs.Common.{sym, ◌∙◌}
use Rattle.terms.specs.declared.Refusal.{Refusal}
use Rattle.float_bits.specs.Words.{words_equal}
use Rattle.store_rows.specs.Copying.{readable}
use Rattle.row_readings.specs.EqualityLaws.{equality_checked}
use Rattle.store_definitions.specs.Lent.{lent}
use Rattle.store_definitions.specs.Memory.{point_store}
use Rattle.store_check.specs.Checked.{check_passed}
use Rattle.store_readings.proofs.rows.is_equal.Goals as goal

pub is_equal_unchecked-requires : goal.is_equal_unchecked-requires
is_equal_unchecked-requires c =
    let a = c.args in
    let m = lent a.store.now a.last_known_shingle.now a.tables in
    let well = (check_passed a.s m c.check.result Refusal.IllFormed c.check.ensures _ (sym c.ok_or.ensures.value ∙ c.in_ok-ok_or.was)).0 in
    readable (point_store a.s m) well

pub returns : goal.returns
returns c =
    let a = c.args in
    let m = lent a.store.now a.last_known_shingle.now a.tables in
    let well = (check_passed a.s m c.check.result Refusal.IllFormed c.check.ensures _ (sym c.ok_or.ensures.value ∙ c.in_ok-ok_or.was)).0 in
    c.is_equal_unchecked.ensures ∙ equality_checked words_equal (point_store a.s m) a.index.0 a.point.now well
