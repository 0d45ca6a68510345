-- Decided, and then carried out.
use native.Mathlib.Omega.{arith}
use Rattle.std.proofs.Common.{rules, ◌∙◌, ap}
use Rattle.std.specs.Prelude.{Ok}
use Rattle.store_definitions.specs.Lent.{lent_taking}
use Rattle.store_definitions.specs.Memory.{point_store}
use Rattle.store_add.specs.Deciding.{decision_asks}
use Rattle.store_add.proofs.ActLaws.{waits_ready, decided_wait, decided_keep, acted_refuse, acted_wait, acted_ok, acted_err}
use Rattle.store_add.proofs.add_unchecked.Goals as goal

pub add_decision-requires : goal.add_decision-requires
add_decision-requires c = let a = c.args in
    let p = point_store a.s.now (lent_taking a.store.now a.last_known_shingle.now a.points.now a.labels.now) in
    decision_asks p c.requires.0

pub returns-in_err-step-clause-added : goal.returns-in_err-step-clause-added
returns-in_err-step-clause-added c = let a = c.args in
    let p = point_store a.s.now (lent_taking a.store.now a.last_known_shingle.now a.points.now a.labels.now) in
    let refused = acted_refuse p a.point.now a.label c.requires.0 _ c.add_decision.ensures _ c.in_err-step.was in
    search (rules, refused)

pub shift_window-requires : goal.shift_window-requires
shift_window-requires c = let a = c.args in
    let p = point_store a.s.now (lent_taking a.store.now a.last_known_shingle.now a.points.now a.labels.now) in
    (waits_ready p c.requires.0 a.point.now a.label (decided_wait p a.point.now a.label c.requires.0 _ c.add_decision.ensures (c.in_ok-step.was ∙ ap Ok c.in-Wait.is))).row

pub overflow_add-s : goal.overflow_add-s
overflow_add-s c = let a = c.args in
    let p = point_store a.s.now (lent_taking a.store.now a.last_known_shingle.now a.points.now a.labels.now) in
    omega (arith, (waits_ready p c.requires.0 a.point.now a.label (decided_wait p a.point.now a.label c.requires.0 _ c.add_decision.ensures (c.in_ok-step.was ∙ ap Ok c.in-Wait.is))).unfinished)

pub returns-in-Wait-clause-added : goal.returns-in-Wait-clause-added
returns-in-Wait-clause-added c = let a = c.args in
    let p = point_store a.s.now (lent_taking a.store.now a.last_known_shingle.now a.points.now a.labels.now) in
    acted_wait p a.point.now a.label c.requires.0 _ c.add_decision.ensures (c.in_ok-step.was ∙ ap Ok c.in-Wait.is) c.shift_window.new.window c.shift_window.ensures

pub keep-requires : goal.keep-requires
keep-requires c = let a = c.args in
    let p = point_store a.s.now (lent_taking a.store.now a.last_known_shingle.now a.points.now a.labels.now) in
    (c.requires.0, (decided_keep p a.point.now a.label c.requires.0 _ c.add_decision.ensures (c.in_ok-step.was ∙ ap Ok c.in-Keep.is), c.requires.1))

pub returns-in_err-kept-in-Keep-clause-added : goal.returns-in_err-kept-in-Keep-clause-added
returns-in_err-kept-in-Keep-clause-added c = let a = c.args in
    let p = point_store a.s.now (lent_taking a.store.now a.last_known_shingle.now a.points.now a.labels.now) in
    let k = c.keep.new in
    let refused = acted_err p a.point.now a.label c.requires.0 _ c.add_decision.ensures (c.in_ok-step.was ∙ ap Ok c.in-Keep.is) _ (point_store k.s (lent_taking k.store k.last_known_shingle k.points k.labels)) _ c.keep.ensures.kept c.in_err-kept-in-Keep.was in
    search (rules, refused)

pub returns-in_ok-kept-in-Keep-clause-added : goal.returns-in_ok-kept-in-Keep-clause-added
returns-in_ok-kept-in-Keep-clause-added c = let a = c.args in
    let p = point_store a.s.now (lent_taking a.store.now a.last_known_shingle.now a.points.now a.labels.now) in
    let k = c.keep.new in
    acted_ok p a.point.now a.label c.requires.0 _ c.add_decision.ensures (c.in_ok-step.was ∙ ap Ok c.in-Keep.is) _ (point_store k.s (lent_taking k.store k.last_known_shingle k.points k.labels)) _ c.keep.ensures.kept c.in_ok-kept-in-Keep.was
