-- The check decides.
use Rattle.std.proofs.Common.{rules, sym, ◌∙◌}
use Rattle.float_bits.specs.Words.{words_equal}
use Rattle.labels.specs.Lent.{lists_writing}
use Rattle.store_definitions.specs.Lent.{lent_writing, points_lent, read_as}
use Rattle.hold_definitions.specs.Lent.{hold_memory}
use Rattle.hold_definitions.specs.Memory.{point_hold}
use Rattle.hold_definitions.proofs.AddingLaws.{hold_answers, hold_ill}
use Rattle.hold_check.specs.Checked.{hold_passed, hold_failed}
use Rattle.hold.proofs.add.Goals as goal

pub returns-in_err-figures-clause-added : goal.returns-in_err-figures-clause-added
returns-in_err-figures-clause-added c =
    let a = c.args in
    let m = hold_memory (lent_writing a.store.now a.last_known_shingle.now a.points.now a.labels.now) a.held_indices.now a.held_labels.now in
    let ill = hold_failed a.h.now m c.read-2.result c.check_hold.result _ (read_as c.read-2.result (points_lent a.points.now) c.read.result (lists_writing a.labels.now) c.read-2.ensures c.read.ensures a.store.now a.last_known_shingle.now) c.check_hold.ensures _ (sym c.ok_or.ensures.value ∙ c.in_err-figures.was) in
    let refused = sym (hold_ill words_equal 0 (point_hold a.h.now m) a.point.now a.label ill.0) in
    search (rules, refused, ill.1)

pub add_checked-requires : goal.add_checked-requires
add_checked-requires c =
    let a = c.args in
    let m = hold_memory (lent_writing a.store.now a.last_known_shingle.now a.points.now a.labels.now) a.held_indices.now a.held_labels.now in
    hold_passed a.h.now m c.read-2.result c.check_hold.result _ (read_as c.read-2.result (points_lent a.points.now) c.read.result (lists_writing a.labels.now) c.read-2.ensures c.read.ensures a.store.now a.last_known_shingle.now) c.check_hold.ensures _ (sym c.ok_or.ensures.value ∙ c.in_ok-figures.was)

pub returns-clause-added : goal.returns-clause-added
returns-clause-added c =
    let a = c.args in
    let m = hold_memory (lent_writing a.store.now a.last_known_shingle.now a.points.now a.labels.now) a.held_indices.now a.held_labels.now in
    let well = hold_passed a.h.now m c.read-2.result c.check_hold.result _ (read_as c.read-2.result (points_lent a.points.now) c.read.result (lists_writing a.labels.now) c.read-2.ensures c.read.ensures a.store.now a.last_known_shingle.now) c.check_hold.ensures _ (sym c.ok_or.ensures.value ∙ c.in_ok-figures.was) in
    c.add_checked.ensures.added ∙ sym (hold_answers words_equal 0 (point_hold a.h.now m) a.point.now a.label well.0)
