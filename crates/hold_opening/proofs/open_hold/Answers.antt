-- The decision, and then the store's opening.
use Rattle.std.proofs.Common.{rules, sym, ap, ◌∙◌}
use Rattle.interval_store_manager.specs.Calls.{decision_means}
use Rattle.store_definitions.specs.Lent.{lent_writing}
use Rattle.hold_definitions.specs.Lent.{hold_memory}
use Rattle.hold_opening.specs.Openings.{open_refused, open_done, open_failed}
use Rattle.hold_opening.proofs.open_hold.Goals as goal

pub returns-in_err-open_decision-clause-opened : goal.returns-in_err-open_decision-clause-opened
returns-in_err-open_decision-clause-opened c =
    let a = c.args in
    let m = hold_memory (lent_writing a.store.now a.last_known_shingle.now a.points.now a.labels.now) a.held_indices.now a.held_labels.now in
    let refused = open_refused a.shape a.width a.class_text.now m _ (sym c.open_decision.ensures ∙ ap decision_means c.in_err-open_decision.was) in
    search (rules, refused)

pub returns-in_err-opened-clause-opened : goal.returns-in_err-opened-clause-opened
returns-in_err-opened-clause-opened c =
    let a = c.args in
    let m = hold_memory (lent_writing a.store.now a.last_known_shingle.now a.points.now a.labels.now) a.held_indices.now a.held_labels.now in
    let n = c.open.new in
    let k = lent_writing n.store n.last_known_shingle n.points n.labels in
    let refused = open_failed a.shape a.width a.class_text.now m (sym c.open_decision.ensures ∙ ap decision_means c.in_ok-open_decision.was) _ k c.open.ensures.opened _ c.in_err-opened.was in
    search (rules, refused)

pub returns-clause-opened : goal.returns-clause-opened
returns-clause-opened c =
    let a = c.args in
    let m = hold_memory (lent_writing a.store.now a.last_known_shingle.now a.points.now a.labels.now) a.held_indices.now a.held_labels.now in
    let n = c.open.new in
    let k = lent_writing n.store n.last_known_shingle n.points n.labels in
    open_done a.shape a.width a.class_text.now m (sym c.open_decision.ensures ∙ ap decision_means c.in_ok-open_decision.was) _ k c.open.ensures.opened _ c.in_ok-opened.was
