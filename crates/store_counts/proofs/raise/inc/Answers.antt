-- The check decides. The call on the tables does the same whatever the elements are.
use Rattle.std.proofs.Common.{rules, refl, sym, ◌∙◌}
use Rattle.labels.specs.Lent.{lists_raising}
use Rattle.store_definitions.specs.Lent.{lent_raising, points_raising}
use Rattle.store_definitions.specs.Memory.{point_store}
use Rattle.store_laws.specs.IllFormedLaws.{inc_ill}
use Rattle.store_check.specs.CheckLaws.{well_formed_lengths}
use Rattle.store_check.specs.Checked.{read_passed, read_failed}
use Rattle.store_counts.specs.Elements.{inc_whole}
use Rattle.store_counts.proofs.raise.inc.Goals as goal

pub inc_unchecked-requires : goal.inc_unchecked-requires
inc_unchecked-requires c =
    let a = c.args in
    let m = lent_raising a.store.now a.last_known_shingle.now a.points.now a.labels.now in
    well_formed_lengths a.s m
    ∙ (read_passed a.s a.store.now a.last_known_shingle.now (points_raising a.points.now) (lists_raising a.labels.now) c.read.result c.read.ensures c.read-2.result c.read-2.ensures _ _ c.check.ensures _ (sym c.ok_or.ensures.value ∙ c.in_ok-ok_or.was)).0

pub returns-in_err-ok_or-clause-inc : goal.returns-in_err-ok_or-clause-inc
returns-in_err-ok_or-clause-inc c =
    let a = c.args in
    let m = lent_raising a.store.now a.last_known_shingle.now a.points.now a.labels.now in
    let ill = read_failed a.s a.store.now a.last_known_shingle.now (points_raising a.points.now) (lists_raising a.labels.now) c.read.result c.read.ensures c.read-2.result c.read-2.ensures _ _ c.check.ensures _ (sym c.ok_or.ensures.value ∙ c.in_err-ok_or.was) in
    let refused = inc_ill (point_store a.s m) ill.0 a.change.index.0 a.change.label.0 in
    search (rules, refused, ill.1)

pub returns-clause-inc : goal.returns-clause-inc
returns-clause-inc c =
    let a = c.args in
    let m = lent_raising a.store.now a.last_known_shingle.now a.points.now a.labels.now in
    inc_whole a.s a.s m _ refl refl _ a.change.index.0 a.change.label.0 c.inc_unchecked.ensures.inc
