-- The invariant: the classes of the labels below i are held, and the sums are those of the labels below i.
use Rattle.std.proofs.Common.{arith, refl, ◌∙◌}
use Rattle.terms.specs.Below.{every_below}
use Rattle.label_check.specs.CheckLaws.{summed_none, summed_more, summed_most}
use Rattle.label_check.specs.LabelPass.{label_classed}
use Rattle.label_check.specs.SlotPass.{every_next}
use Rattle.label_check.proofs.label_pass.labels_shared.Goals as goal

pub loop-i-init : goal.loop-i-init
unfolding every_below
loop-i-init c = (refl, (c.requires.sums_long, summed_none c.args.label_attributes.now c.args.label_count.now c.args.sums.now c.requires.sums_none))

pub share_label-well-requires : goal.share_label-well-requires
share_label-well-requires c = (
  λ d.
      let b = c.requires.bounded c.loop-i.i c.loop-i-test.true d in
      (b.0, (omega (arith, b.1, c.requires.classes_lent), omega (arith, b.1, c.requires.most, c.loop-i.invariant.1.0))),
  summed_most c.loop-i.i c.args.label_attributes.now c.args.label_count.now c.loop-i.sums (omega (arith, c.loop-i-test.true, c.requires.most)) c.loop-i.invariant.1.0 (λ k. omega (arith, c.shared_slice_known-in-loop-i-3-1.given k)) c.loop-i.invariant.1.1,
)

pub loop-i-preserved : goal.loop-i-preserved
unfolding label_classed
loop-i-preserved c =
    let v = c.loop-i.invariant in (
      every_next c.loop-i.i (λ k. label_classed c.args.classes.now c.args.labels.now c.args.label_attributes.now c.args.label_count.now c.args.attributes.now k) c.loop-i.ok c.share_label-well.result v.0 c.share_label-well.ensures.0,
      (
        c.share_label-well.auto.sums ∙ v.1.0,
        summed_more c.loop-i.i c.args.label_attributes.now c.args.label_count.now c.loop-i.sums c.share_label-well.new.sums v.1.0 v.1.1 c.share_label-well.ensures.1,
      ),
    )
