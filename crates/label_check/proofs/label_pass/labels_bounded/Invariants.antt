-- The invariant: what holds of the labels below i.
use Rattle.std.specs.Prelude.{◌≡◌}
use Rattle.terms.specs.Below.{every_below}
use Rattle.label_check.specs.LabelPass.{label_bounded}
use Rattle.label_check.proofs.label_pass.labels_bounded.Given as goal

abbrev pub invariant-loop-i : goal.invariant-loop-i
invariant-loop-i l = l.ok ≡ every_below l.i (λ k. label_bounded l.capacity l.labels l.label_attributes l.label_count l.marks k)
