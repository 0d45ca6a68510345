-- The invariant: what holds of the slots below s.
use Rattle.std.proofs.Common.{refl}
use Rattle.terms.specs.Below.{every_below}
use Rattle.label_check.specs.Checks.{slot_passes}
use Rattle.label_check.specs.SlotPass.{every_next}
use Rattle.label_check.proofs.slot_pass.slots_summed.Goals as goal

pub loop-s-init : goal.loop-s-init
unfolding every_below
loop-s-init c = refl

pub loop-s-preserved : goal.loop-s-preserved
unfolding slot_passes
loop-s-preserved c = every_next c.loop-s.s (λ k. slot_passes c.args.attribute_count.now c.args.marks.now c.args.sums.now k) c.loop-s.ok c.slot_passes-well.result c.loop-s.invariant c.slot_passes-well.ensures
