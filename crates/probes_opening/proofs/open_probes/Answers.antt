-- The product's test, and then the store's opening.
use Rattle.std.proofs.Common.{rules, sym, ◌∙◌}
use Rattle.store_definitions.specs.Lent.{lent_writing}
use Rattle.probes_opening.specs.Openings.{open_other, open_eight, open_failed}
use Rattle.probes_opening.proofs.open_probes.Goals as goal

pub returns-then-not-for_eight_probes-clause-opened : goal.returns-then-not-for_eight_probes-clause-opened
returns-then-not-for_eight_probes-clause-opened c =
    let a = c.args in
    let m = lent_writing a.store.now a.last_known_shingle.now a.points.now a.labels.now in
    open_other a.shape a.class_text.now m (sym c.for_eight_probes.ensures ∙ c.if-not-for_eight_probes.true)

pub returns-in_err-opened-clause-opened : goal.returns-in_err-opened-clause-opened
returns-in_err-opened-clause-opened c =
    let a = c.args in
    let m = lent_writing a.store.now a.last_known_shingle.now a.points.now a.labels.now in
    let n = c.open.new in
    let k = lent_writing n.store n.last_known_shingle n.points n.labels in
    let refused = open_failed a.shape a.class_text.now m (sym c.for_eight_probes.ensures ∙ c.if-not-for_eight_probes.false) _ k c.open.ensures.opened _ c.in_err-opened.was in
    search (rules, refused)

pub returns-clause-opened : goal.returns-clause-opened
returns-clause-opened c =
    let a = c.args in
    let m = lent_writing a.store.now a.last_known_shingle.now a.points.now a.labels.now in
    let n = c.open.new in
    let k = lent_writing n.store n.last_known_shingle n.points n.labels in
    open_eight a.shape a.class_text.now m (sym c.for_eight_probes.ensures ∙ c.if-not-for_eight_probes.false) _ k c.open.ensures.opened _ c.in_ok-opened.was
