-- The invariant: the classes of the labels below i are held, and the sums are those of the labels below i.
use Rattle.std.specs.Prelude.{◌≡◌, length}
use Rattle.terms.specs.Below.{every_below}
use Rattle.label_check.specs.Checks.{Summed}
use Rattle.label_check.specs.LabelPass.{label_classed}
use Rattle.label_check.proofs.label_pass.labels_shared.Given as goal

abbrev pub invariant-loop-i : goal.invariant-loop-i
invariant-loop-i l = (l.ok ≡ every_below l.i (λ k. label_classed l.classes l.labels l.label_attributes l.label_count l.attributes k))
    × ((length l.sums ≡ 1024) × Summed l.i l.label_attributes l.label_count l.sums)
