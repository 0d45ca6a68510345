-- A store that passes the check copies as `Copying` says.
use Rattle.std.proofs.Common.{sym, ◌∙◌}
use Rattle.terms.specs.declared.Refusal.{Refusal}
use Rattle.store_definitions.specs.Lent.{lent}
use Rattle.store_definitions.specs.Memory.{point_store}
use Rattle.store_check.specs.Checked.{check_passed}
use Rattle.store_rows.specs.Copying.{readable, copy_checked}
use Rattle.store_rows.proofs.copying.copy.Goals as goal

pub copy_unchecked-requires : goal.copy_unchecked-requires
copy_unchecked-requires c =
    let a = c.args in
    let m = lent a.store.now a.last_known_shingle.now a.tables in
    readable (point_store a.s m) (check_passed a.s m c.check.result Refusal.IllFormed c.check.ensures _ (sym c.ok_or.ensures.value ∙ c.in_ok-ok_or.was)).0

pub returns : goal.returns
returns c =
    let a = c.args in
    let m = lent a.store.now a.last_known_shingle.now a.tables in
    c.copy_unchecked.ensures
    ∙ copy_checked (point_store a.s m) a.index.0 a.out.now (check_passed a.s m c.check.result Refusal.IllFormed c.check.ensures _ (sym c.ok_or.ensures.value ∙ c.in_ok-ok_or.was)).0
