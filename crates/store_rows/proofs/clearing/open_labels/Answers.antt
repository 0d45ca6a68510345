-- With labels off nothing is written.
use Rattle.labels.specs.Lent.{labels_writing}
use Rattle.store_rows.specs.Openings.{label_managers, labels_on, labels_off}
use Rattle.store_rows.proofs.clearing.open_labels.Goals as goal

pub returns-then-store_labels-clause-opened : goal.returns-then-store_labels-clause-opened
returns-then-store_labels-clause-opened c =
    let a = c.args in
    let g = c.open_labels in
    labels_on a.store_labels a.capacity (labels_writing g.result a.labels.now) (labels_writing g.result g.new.labels) c.if-store_labels.true g.ensures.opened

pub returns-else-store_labels-clause-opened : goal.returns-else-store_labels-clause-opened
returns-else-store_labels-clause-opened c =
    let a = c.args in
    labels_off a.store_labels a.capacity (labels_writing (label_managers a.capacity) a.labels.now) c.if-store_labels.false
