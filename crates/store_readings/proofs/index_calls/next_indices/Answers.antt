-- What the check shows is what the list relies on.
use Rattle.std.proofs.Common.{sym, ◌∙◌}
use Rattle.terms.specs.declared.Refusal.{Refusal}
use Rattle.row_readings.specs.Shingled.{shingled}
use Rattle.row_readings.specs.IndexReadings.{next_checked}
use Rattle.store_definitions.specs.Lent.{lent}
use Rattle.store_definitions.specs.Memory.{point_store}
use Rattle.store_check.specs.Checked.{check_passed}
use Rattle.store_readings.proofs.index_calls.next_indices.Goals as goal

pub next_indices_unchecked-requires : goal.next_indices_unchecked-requires
next_indices_unchecked-requires c =
    let a = c.args in
    let m = lent a.store.now a.last_known_shingle.now a.tables in
    let well = (check_passed a.s m c.check.result Refusal.IllFormed c.check.ensures _ (sym c.ok_or.ensures.value ∙ c.in_ok-ok_or.was)).0 in
    (shingled (point_store a.s m) well).0

pub returns : goal.returns
returns c =
    let a = c.args in
    let m = lent a.store.now a.last_known_shingle.now a.tables in
    let well = (check_passed a.s m c.check.result Refusal.IllFormed c.check.ensures _ (sym c.ok_or.ensures.value ∙ c.in_ok-ok_or.was)).0 in
    c.next_indices_unchecked.ensures ∙ next_checked (point_store a.s m) a.look_ahead a.out.now well
