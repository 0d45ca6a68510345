-- The answer of the label half is the store's.
use Rattle.std.proofs.Common.{ap, sym, ◌∙◌}
use Rattle.terms.specs.declared.Refusal.{Refusal}
use Rattle.labels.specs.Readings.{vector_read_means}
use Rattle.store_definitions.specs.Answers.{Answer, output}
use Rattle.store_readings.specs.LabelLaws.{vector_told, vec_checked}
use Rattle.store_definitions.specs.Lent.{lent}
use Rattle.store_definitions.specs.Memory.{point_store}
use Rattle.store_check.specs.Checked.{check_passed}
use Rattle.store_readings.proofs.label_readings.attribute_vec.Goals as goal

pub returns : goal.returns
returns c =
    let a = c.args in
    let m = lent a.store.now a.last_known_shingle.now a.tables in
    let well = (check_passed a.s m c.check.result Refusal.IllFormed c.check.ensures _ (sym c.ok_or.ensures.value ∙ c.in_ok-ok_or.was)).0 in
    ap (λ (told : Answer). output told c.attribute_vec.new.out) (vector_told c.attribute_vec.result)
    ∙ vec_checked (point_store a.s m) a.label.0 a.out.now well (vector_read_means c.attribute_vec.result) c.attribute_vec.new.out c.attribute_vec.ensures
