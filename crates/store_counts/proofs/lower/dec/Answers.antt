-- The check decides. The call on the tables does the same whatever the elements are.
use Rattle.std.proofs.Common.{rules, refl, sym, ◌∙◌}
use Rattle.labels.specs.Lent.{lists_lowering}
use Rattle.store_definitions.specs.Lent.{lent_lowering, points_lent}
use Rattle.store_definitions.specs.Memory.{point_store}
use Rattle.store_laws.specs.IllFormedLaws.{dec_ill}
use Rattle.store_check.specs.CheckLaws.{well_formed_lengths}
use Rattle.store_check.specs.Checked.{read_passed, read_failed}
use Rattle.store_counts.specs.Elements.{dec_whole}
use Rattle.store_counts.proofs.lower.dec.Goals as goal

pub dec_unchecked-requires : goal.dec_unchecked-requires
dec_unchecked-requires c =
    let a = c.args in
    let m = lent_lowering a.store.now a.last_known_shingle.now a.points.now a.labels.now in
    well_formed_lengths a.s.now m
    ∙ (read_passed a.s.now a.store.now a.last_known_shingle.now (points_lent a.points.now) (lists_lowering a.labels.now) c.read.result c.read.ensures c.read-2.result c.read-2.ensures _ _ c.check.ensures _ (sym c.ok_or.ensures.value ∙ c.in_ok-ok_or.was)).0

pub returns-in_err-ok_or-clause-dec : goal.returns-in_err-ok_or-clause-dec
returns-in_err-ok_or-clause-dec c =
    let a = c.args in
    let m = lent_lowering a.store.now a.last_known_shingle.now a.points.now a.labels.now in
    let ill = read_failed a.s.now a.store.now a.last_known_shingle.now (points_lent a.points.now) (lists_lowering a.labels.now) c.read.result c.read.ensures c.read-2.result c.read-2.ensures _ _ c.check.ensures _ (sym c.ok_or.ensures.value ∙ c.in_err-ok_or.was) in
    let refused = dec_ill (point_store a.s.now m) ill.0 a.change.index.0 a.change.label.0 in
    search (rules, refused, ill.1)

pub returns-clause-dec : goal.returns-clause-dec
returns-clause-dec c =
    let a = c.args in
    let m = lent_lowering a.store.now a.last_known_shingle.now a.points.now a.labels.now in
    dec_whole a.s.now c.dec_unchecked.new.s m _ refl refl _ a.change.index.0 a.change.label.0 c.dec_unchecked.ensures.dec
