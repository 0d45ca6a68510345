-- Each return is what its test says of well-formedness.
use Rattle.std.proofs.Common.{refl, sym, ◌∙◌}
use Rattle.interval_store_manager.specs.MarkLaws.{unmarked, checked_some, checked_none}
use Rattle.labels.specs.Lent.{labels_lent}
use Rattle.label_check.specs.CheckedLaws.{label_capacity_other, slot_capacity_other, not_lent, labels_not_managed, slots_not_managed, labels_lent_lem, slots_lent, labels_fail, slots_fail, all_pass}
use Rattle.label_check.proofs.label_half_well_formed.Goals as goal

pub returns-then-managers-capacity : goal.returns-then-managers-capacity
returns-then-managers-capacity c = label_capacity_other c.args.classes.now c.args.capacity (labels_lent c.args.managers c.args.tables) c.if-managers-capacity.true

pub returns-then-managers-capacity-2 : goal.returns-then-managers-capacity-2
returns-then-managers-capacity-2 c = slot_capacity_other c.args.classes.now c.args.capacity (labels_lent c.args.managers c.args.tables) c.if-managers-capacity-2.true

pub returns-then-not-tables_lent : goal.returns-then-not-tables_lent
returns-then-not-tables_lent c = not_lent c.args.classes.now c.args.capacity (labels_lent c.args.managers c.args.tables) (sym c.tables_lent.ensures ∙ c.if-not-tables_lent.true)

pub mark_free-requires : goal.mark_free-requires
mark_free-requires c = (λ h. h, unmarked 1024)

pub returns-in_err-labels : goal.returns-in_err-labels
returns-in_err-labels c =
    rw c.from_residual.ensures
    (labels_not_managed c.args.classes.now c.args.capacity (labels_lent c.args.managers c.args.tables)
    (checked_none c.args.managers.label_manager c.args.tables.label_starts.now c.args.tables.label_ends.now (sym c.mark_free.ensures.is ∙ c.in_err-labels.was)))

pub mark_free-requires-2 : goal.mark_free-requires-2
mark_free-requires-2 c = (λ h. h, unmarked 1024)

pub returns-in_err-slots : goal.returns-in_err-slots
returns-in_err-slots c =
    rw c.from_residual-in_err-slots.ensures
    (slots_not_managed c.args.classes.now c.args.capacity (labels_lent c.args.managers c.args.tables)
    (checked_none c.args.managers.attribute_manager c.args.tables.attribute_starts.now c.args.tables.attribute_ends.now (sym c.mark_free-2.ensures.is ∙ c.in_err-slots.was)))

pub labels_pass-requires : goal.labels_pass-requires
labels_pass-requires c =
    let lw = checked_some c.args.managers.label_manager c.args.tables.label_starts.now c.args.tables.label_ends.now c.in_ok-labels.labels (sym c.mark_free.ensures.is ∙ c.in_ok-labels.was) in
    (labels_lent_lem c.args.classes.now c.args.capacity (labels_lent c.args.managers c.args.tables) c.mark_free.new.marks lw.0 c.if-managers-capacity.false (sym c.tables_lent.ensures ∙ c.if-not-tables_lent.false) c.mark_free.auto.marks, (refl, unmarked 1024))

pub returns-then-not-labels_pass : goal.returns-then-not-labels_pass
returns-then-not-labels_pass c =
    let lw = checked_some c.args.managers.label_manager c.args.tables.label_starts.now c.args.tables.label_ends.now c.in_ok-labels.labels (sym c.mark_free.ensures.is ∙ c.in_ok-labels.was) in
    labels_fail c.args.classes.now c.args.capacity (labels_lent c.args.managers c.args.tables) c.mark_free.new.marks (c.mark_free.ensures.marked lw.0) (sym c.labels_pass.ensures.is ∙ c.if-not-labels_pass.true)

pub slots_pass-requires : goal.slots_pass-requires
slots_pass-requires c =
    let lw = checked_some c.args.managers.label_manager c.args.tables.label_starts.now c.args.tables.label_ends.now c.in_ok-labels.labels (sym c.mark_free.ensures.is ∙ c.in_ok-labels.was) in
    let sw = checked_some c.args.managers.attribute_manager c.args.tables.attribute_starts.now c.args.tables.attribute_ends.now c.in_ok-slots.slots (sym c.mark_free-2.ensures.is ∙ c.in_ok-slots.was) in
    slots_lent c.args.classes.now c.args.capacity (labels_lent c.args.managers c.args.tables) c.mark_free-2.new.marks c.labels_pass.new.sums c.in_ok-slots.slots (c.mark_free-2.ensures.marked sw.0) sw.1 c.if-managers-capacity-2.false lw.0 c.if-managers-capacity.false (sym c.tables_lent.ensures ∙ c.if-not-tables_lent.false) c.mark_free-2.auto.marks c.labels_pass.auto.sums

pub returns-then-not-slots_pass : goal.returns-then-not-slots_pass
returns-then-not-slots_pass c =
    let lw = checked_some c.args.managers.label_manager c.args.tables.label_starts.now c.args.tables.label_ends.now c.in_ok-labels.labels (sym c.mark_free.ensures.is ∙ c.in_ok-labels.was) in
    let sw = checked_some c.args.managers.attribute_manager c.args.tables.attribute_starts.now c.args.tables.attribute_ends.now c.in_ok-slots.slots (sym c.mark_free-2.ensures.is ∙ c.in_ok-slots.was) in
    slots_fail c.args.classes.now c.args.capacity (labels_lent c.args.managers c.args.tables) c.mark_free-2.new.marks c.labels_pass.new.sums (c.mark_free-2.ensures.marked sw.0) lw.0 c.if-managers-capacity.false (c.labels_pass.ensures.summed c.if-not-labels_pass.false) (sym c.slots_pass.ensures ∙ c.if-not-slots_pass.true)

pub returns : goal.returns
returns c =
    let lw = checked_some c.args.managers.label_manager c.args.tables.label_starts.now c.args.tables.label_ends.now c.in_ok-labels.labels (sym c.mark_free.ensures.is ∙ c.in_ok-labels.was) in
    let sw = checked_some c.args.managers.attribute_manager c.args.tables.attribute_starts.now c.args.tables.attribute_ends.now c.in_ok-slots.slots (sym c.mark_free-2.ensures.is ∙ c.in_ok-slots.was) in
    all_pass c.args.classes.now c.args.capacity (labels_lent c.args.managers c.args.tables) c.mark_free.new.marks c.mark_free-2.new.marks c.labels_pass.new.sums (c.mark_free.ensures.marked lw.0) (c.mark_free-2.ensures.marked sw.0) lw.0 sw.0 c.if-managers-capacity.false c.if-managers-capacity-2.false (c.labels_pass.ensures.fit c.if-not-labels_pass.false) (sym c.tables_lent.ensures ∙ c.if-not-tables_lent.false) (sym c.labels_pass.ensures.is ∙ c.if-not-labels_pass.false) (c.labels_pass.ensures.summed c.if-not-labels_pass.false) (sym c.slots_pass.ensures ∙ c.if-not-slots_pass.false) c.in_ok-labels.labels c.in_ok-slots.slots lw.1 sw.1
