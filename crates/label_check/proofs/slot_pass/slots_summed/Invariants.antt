-- The invariant: what holds of the slots below s.
use Rattle.std.specs.Prelude.{◌≡◌}
use Rattle.terms.specs.Below.{every_below}
use Rattle.label_check.specs.Checks.{slot_passes}
use Rattle.label_check.proofs.slot_pass.slots_summed.Given as goal

abbrev pub invariant-loop-s : goal.invariant-loop-s
invariant-loop-s l = l.ok ≡ every_below l.s (λ k. slot_passes l.attribute_count l.marks l.sums k)
