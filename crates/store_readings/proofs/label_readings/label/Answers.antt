-- The answer of the label half is the store's.
use Rattle.std.proofs.Common.{sym, ◌∙◌}
use Rattle.terms.specs.declared.Refusal.{Refusal}
use Rattle.labels.specs.Readings.{label_read_means}
use Rattle.store_readings.specs.LabelLaws.{number_told, label_checked}
use Rattle.store_definitions.specs.Lent.{lent}
use Rattle.store_definitions.specs.Memory.{point_store}
use Rattle.store_check.specs.Checked.{check_passed}
use Rattle.store_readings.proofs.label_readings.label.Goals as goal

pub returns : goal.returns
returns c =
    let a = c.args in
    let m = lent a.store.now a.last_known_shingle.now a.tables in
    let well = (check_passed a.s m c.check.result Refusal.IllFormed c.check.ensures _ (sym c.ok_or.ensures.value ∙ c.in_ok-ok_or.was)).0 in
    number_told c.label.result ∙ label_checked (point_store a.s m) a.label.0 well (label_read_means c.label.result) c.label.ensures
