-- A slot fits where it passes and differs.
use native.Mathlib.Omega.{arith}
use mathlib.Core.Bool.{Bool, ◌&&◌}
use mathlib.Core.Path.{sym, ◌∙◌, ap}
use Rattle.terms.specs.Below.{every_below}
use Rattle.labels.specs.Labels.{differ}
use Rattle.label_check.specs.SlotPass.{live_unmarked, fits_are}
use Rattle.label_check.proofs.slot_pass.slots_pass.Goals as goal

pub overflow_sub-capacity : goal.overflow_sub-capacity
overflow_sub-capacity c = omega (arith, c.requires.free_is, live_unmarked c.args.capacity c.args.tables.attribute_count.now c.args.marks.now c.args.sums.now (sym c.slots_summed.ensures ∙ c.if-slots_summed.true))

pub classes_differ-requires : goal.classes_differ-requires
classes_differ-requires c = (c.requires.classes_lent, (c.requires.counts_lent, omega (arith, c.requires.free_is, live_unmarked c.args.capacity c.args.tables.attribute_count.now c.args.marks.now c.args.sums.now (sym c.slots_summed.ensures ∙ c.if-slots_summed.true))))

pub returns-then-slots_summed : goal.returns-then-slots_summed
returns-then-slots_summed c =
    c.classes_differ.ensures
    ∙ (ap (λ (b : Bool). b && every_below c.args.capacity (λ s. every_below s (λ t. differ c.args.tables.attributes.now c.args.tables.attribute_count.now s t))) (sym (sym c.slots_summed.ensures ∙ c.if-slots_summed.true))
    ∙ sym (fits_are c.args.capacity c.args.tables.attributes.now c.args.tables.attribute_count.now c.args.marks.now c.args.sums.now))

pub returns : goal.returns
returns c =
    ap (λ (b : Bool). b && every_below c.args.capacity (λ s. every_below s (λ t. differ c.args.tables.attributes.now c.args.tables.attribute_count.now s t))) (sym (sym c.slots_summed.ensures ∙ c.if-slots_summed.false))
    ∙ sym (fits_are c.args.capacity c.args.tables.attributes.now c.args.tables.attribute_count.now c.args.marks.now c.args.sums.now)
