-- With labels off nothing is taken.
use mathlib.Core.Path.{refl, ◌∙◌}
use Rattle.labels.specs.Lent.{labels_taking}
use Rattle.store_add.specs.Pieces.{managers_of}
use Rattle.store_add.proofs.TakeLaws.{label_on, label_off}
use Rattle.store_add.proofs.take.label_for.Goals as goal

pub returns-clause-taken : goal.returns-clause-taken
returns-clause-taken c =
    let a = c.args in
    label_on a.s.now (labels_taking (managers_of a.s.now) a.labels.now) a.code _ c.if-not-s.false (c.take_label-label.ensures.taken ∙ rw c.label_managers-managers.ensures refl)

pub returns-then-not-s-clause-taken : goal.returns-then-not-s-clause-taken
returns-then-not-s-clause-taken c =
    let a = c.args in
    label_off a.s.now (labels_taking (managers_of a.s.now) a.labels.now) a.code c.if-not-s.true
