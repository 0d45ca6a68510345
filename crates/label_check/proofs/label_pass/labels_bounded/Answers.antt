-- The invariant: what holds of the labels below i.
use Rattle.std.proofs.Common.{refl}
use Rattle.terms.specs.Below.{every_below}
use Rattle.label_check.specs.LabelPass.{label_bounded}
use Rattle.label_check.specs.SlotPass.{every_next}
use Rattle.label_check.proofs.label_pass.labels_bounded.Goals as goal

pub loop-i-init : goal.loop-i-init
unfolding every_below
loop-i-init c = refl

pub loop-i-preserved : goal.loop-i-preserved
unfolding label_bounded
loop-i-preserved c = every_next c.loop-i.i (λ k. label_bounded c.args.capacity c.args.labels.now c.args.label_attributes.now c.args.label_count.now c.args.marks.now k) c.loop-i.ok c.label_bounded-well.result c.loop-i.invariant c.label_bounded-well.ensures
