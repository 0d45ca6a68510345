-- The check decides; the call on the tables does the same whatever the elements are.
use Rattle.std.proofs.Common.{rules, refl, sym, ◌∙◌}
use Rattle.labels.specs.Lent.{lists_lowering}
use Rattle.store_definitions.specs.Lent.{lent_lowering, points_lent, read_as}
use Rattle.store_adjust.specs.Elements.{adjust_whole}
use Rattle.store_adjust.specs.Pairs.{pairings_of}
use Rattle.store_adjust.specs.AfterCheck.{adjust_ready, adjust_ill_formed}
use Rattle.store_adjust_pairs.proofs.adjust_count.Goals as goal

pub returns-in_err-ok_or-clause-adjusted : goal.returns-in_err-ok_or-clause-adjusted
returns-in_err-ok_or-clause-adjusted c =
    let a = c.args in
    let m = lent_lowering a.store.now a.last_known_shingle.now a.points.now a.labels.now in
    let refused = adjust_ill_formed a.s.now m c.read-2.result c.check.result (read_as c.read-2.result (points_lent a.points.now) c.read.result (lists_lowering a.labels.now) c.read-2.ensures c.read.ensures a.store.now a.last_known_shingle.now) c.check.ensures _ (sym c.ok_or.ensures.value ∙ c.in_err-ok_or.was) (pairings_of a.pairs.now) in
    search (rules, refused)

pub adjust_unchecked-requires : goal.adjust_unchecked-requires
adjust_unchecked-requires c =
    let a = c.args in
    let m = lent_lowering a.store.now a.last_known_shingle.now a.points.now a.labels.now in
    adjust_ready a.s.now m c.read-2.result c.check.result (read_as c.read-2.result (points_lent a.points.now) c.read.result (lists_lowering a.labels.now) c.read-2.ensures c.read.ensures a.store.now a.last_known_shingle.now) c.check.ensures _ (sym c.ok_or.ensures.value ∙ c.in_ok-ok_or.was)

pub returns-clause-adjusted : goal.returns-clause-adjusted
returns-clause-adjusted c =
    let a = c.args in
    let m = lent_lowering a.store.now a.last_known_shingle.now a.points.now a.labels.now in
    adjust_whole a.s.now c.adjust_unchecked.new.s m _ refl refl _ (pairings_of a.pairs.now) c.adjust_unchecked.ensures.adjusted
