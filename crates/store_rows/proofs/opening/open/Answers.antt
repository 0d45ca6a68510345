-- The decision, then the laws of `Openings`.
use Rattle.std.proofs.Common.{rules, ◌≡◌, true, sym, ap, ◌∙◌}
use Rattle.std.specs.Result.{result_ok}
use Rattle.terms.specs.Refusals.{number}
use Rattle.interval_store_manager.specs.Calls.{go, refuse, decision_means}
use Rattle.labels.specs.Lent.{labels_writing, lists_writing}
use Rattle.store_definitions.specs.Lent.{lent_writing, points_lent, read_as}
use Rattle.store_definitions.specs.Opening.{open_judged}
use Rattle.store_rows.specs.Openings.{points_in, label_managers, opening_ready, open_done, open_refused, text_refused}
use Rattle.store_rows.proofs.opening.open.Goals as goal

pub fresh_record-fresh-requires : goal.fresh_record-fresh-requires
fresh_record-fresh-requires c =
    let a = c.args in
    let m = lent_writing a.store.now a.last_known_shingle.now a.points.now a.labels.now in
    let goes : open_judged a.shape true m ≡ go = ap (open_judged a.shape true) (sym (read_as c.read-2.result (points_lent a.points.now) c.read.result (lists_writing a.labels.now) c.read-2.ensures c.read.ensures a.store.now a.last_known_shingle.now)) ∙ sym c.opening_decision.ensures ∙ ap decision_means c.in_ok-opening_decision.was in
    (opening_ready a.shape m true goes).floats_few

pub open_points-requires : goal.open_points-requires
open_points-requires c =
    let a = c.args in
    let m = lent_writing a.store.now a.last_known_shingle.now a.points.now a.labels.now in
    let goes : open_judged a.shape true m ≡ go = ap (open_judged a.shape true) (sym (read_as c.read-2.result (points_lent a.points.now) c.read.result (lists_writing a.labels.now) c.read-2.ensures c.read.ensures a.store.now a.last_known_shingle.now)) ∙ sym c.opening_decision.ensures ∙ ap decision_means c.in_ok-opening_decision.was in
    (opening_ready a.shape m true goes).of_points

pub open_labels-requires : goal.open_labels-requires
open_labels-requires c =
    let a = c.args in
    let m = lent_writing a.store.now a.last_known_shingle.now a.points.now a.labels.now in
    let goes : open_judged a.shape true m ≡ go = ap (open_judged a.shape true) (sym (read_as c.read-2.result (points_lent a.points.now) c.read.result (lists_writing a.labels.now) c.read-2.ensures c.read.ensures a.store.now a.last_known_shingle.now)) ∙ sym c.opening_decision.ensures ∙ ap decision_means c.in_ok-opening_decision.was in
    (opening_ready a.shape m true goes).of_labels

pub returns-clause-opened : goal.returns-clause-opened
returns-clause-opened c =
    let a = c.args in
    let m = lent_writing a.store.now a.last_known_shingle.now a.points.now a.labels.now in
    let goes : open_judged a.shape true m ≡ go = ap (open_judged a.shape true) (sym (read_as c.read-2.result (points_lent a.points.now) c.read.result (lists_writing a.labels.now) c.read-2.ensures c.read.ensures a.store.now a.last_known_shingle.now)) ∙ sym c.opening_decision.ensures ∙ ap decision_means c.in_ok-opening_decision.was in
    let g = c.open_points in
    let l = c.open_labels in
    rw c.fresh_record-fresh.ensures
    (open_done a.shape m a.class_text.now _ (points_in g.new.store g.new.last_known_shingle (points_lent g.new.tables)) (labels_writing (label_managers a.shape.capacity) l.new.labels) goes (sym c.read_classes.ensures ∙ c.ok_or.ensures.ok_part ∙ ap result_ok c.in_ok-classes.was) g.ensures.opened l.ensures.opened)

pub returns-in_err-opening_decision-clause-opened : goal.returns-in_err-opening_decision-clause-opened
returns-in_err-opening_decision-clause-opened c =
    let a = c.args in
    let m = lent_writing a.store.now a.last_known_shingle.now a.points.now a.labels.now in
    let n = number c.in_err-opening_decision.field-0.0 in
    let judged : open_judged a.shape true m ≡ refuse n = ap (open_judged a.shape true) (sym (read_as c.read-2.result (points_lent a.points.now) c.read.result (lists_writing a.labels.now) c.read-2.ensures c.read.ensures a.store.now a.last_known_shingle.now)) ∙ sym c.opening_decision.ensures ∙ ap decision_means c.in_err-opening_decision.was in
    let refused = open_refused a.shape m a.class_text.now n judged in
    search (rules, refused)

pub returns-in_err-classes-clause-opened : goal.returns-in_err-classes-clause-opened
returns-in_err-classes-clause-opened c =
    let a = c.args in
    let m = lent_writing a.store.now a.last_known_shingle.now a.points.now a.labels.now in
    let goes : open_judged a.shape true m ≡ go = ap (open_judged a.shape true) (sym (read_as c.read-2.result (points_lent a.points.now) c.read.result (lists_writing a.labels.now) c.read-2.ensures c.read.ensures a.store.now a.last_known_shingle.now)) ∙ sym c.opening_decision.ensures ∙ ap decision_means c.in_ok-opening_decision.was in
    let refused = text_refused a.shape m a.class_text.now goes (sym c.read_classes.ensures ∙ c.ok_or.ensures.ok_part ∙ ap result_ok c.in_err-classes.was) in
    search (rules, refused)
