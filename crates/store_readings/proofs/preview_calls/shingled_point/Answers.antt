-- What the check shows is what the preview relies on.
use Rattle.std.proofs.Common.{sym, ◌∙◌}
use Rattle.terms.specs.declared.Refusal.{Refusal}
use Rattle.row_readings.specs.Shingled.{shingled}
use Rattle.row_readings.specs.Previews.{preview_checked}
use Rattle.store_definitions.specs.Lent.{lent}
use Rattle.store_definitions.specs.Memory.{point_store}
use Rattle.store_check.specs.Checked.{check_passed}
use Rattle.store_readings.proofs.preview_calls.shingled_point.Goals as goal

pub shingled_point_unchecked-requires : goal.shingled_point_unchecked-requires
shingled_point_unchecked-requires c =
    let a = c.args in
    let m = lent a.store.now a.last_known_shingle.now a.tables in
    let well = (check_passed a.s m c.check.result Refusal.IllFormed c.check.ensures _ (sym c.ok_or.ensures.value ∙ c.in_ok-ok_or.was)).0 in
    shingled (point_store a.s m) well

pub returns : goal.returns
returns c =
    let a = c.args in
    let m = lent a.store.now a.last_known_shingle.now a.tables in
    let well = (check_passed a.s m c.check.result Refusal.IllFormed c.check.ensures _ (sym c.ok_or.ensures.value ∙ c.in_ok-ok_or.was)).0 in
    c.shingled_point_unchecked.ensures ∙ preview_checked (point_store a.s m) a.point.now a.out.now well
