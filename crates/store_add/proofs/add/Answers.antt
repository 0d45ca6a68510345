-- The check decides, and what it counted goes on with the add.
use Rattle.std.proofs.Common.{rules, sym, ◌∙◌}
use Rattle.labels.specs.Lent.{lists_taking}
use Rattle.store_definitions.specs.Lent.{lent_taking, points_lent}
use Rattle.store_definitions.specs.Memory.{point_store}
use Rattle.store_check.specs.Checked.{read_passed, read_failed}
use Rattle.store_add.proofs.ActLaws.{add_ill}
use Rattle.store_add.proofs.add.Goals as goal

pub add_unchecked-requires : goal.add_unchecked-requires
add_unchecked-requires c =
    let a = c.args in
    read_passed a.s.now a.store.now a.last_known_shingle.now (points_lent a.points.now) (lists_taking a.labels.now) c.read.result c.read.ensures c.read-2.result c.read-2.ensures c.check.result _ c.check.ensures c.in_ok-figures.figures (sym c.ok_or.ensures.value ∙ c.in_ok-figures.was)

pub returns-in_err-figures-clause-added : goal.returns-in_err-figures-clause-added
returns-in_err-figures-clause-added c =
    let a = c.args in
    let ill = read_failed a.s.now a.store.now a.last_known_shingle.now (points_lent a.points.now) (lists_taking a.labels.now) c.read.result c.read.ensures c.read-2.result c.read-2.ensures c.check.result _ c.check.ensures _ (sym c.ok_or.ensures.value ∙ c.in_err-figures.was) in
    let refused = add_ill (point_store a.s.now (lent_taking a.store.now a.last_known_shingle.now a.points.now a.labels.now)) a.point.now a.label ill.0 in
    search (rules, refused, ill.1)
