-- The invariant: whether the classes of the live slots below s differ, which they are, and how many.
use native.Mathlib.Omega.{arith}
use mathlib.Core.Path.{refl, ◌∙◌}
use Rattle.terms.specs.Below.{every_below, count_below, sum_below}
use Rattle.label_check.specs.SlotPass.{slots_live, live_next, seen_none, seen_more, met_more, more_live, rest_differ}
use Rattle.label_check.proofs.slot_pass.classes_differ.Goals as goal

pub loop-found-init : goal.loop-found-init
unfolding every_below slots_live count_below sum_below
loop-found-init c = (omega arith, (refl, (refl, (refl, seen_none 256 c.args.attributes.now c.args.attribute_count.now))))

pub loop-found-preserved : goal.loop-found-preserved
loop-found-preserved c =
    let v = c.loop-found.invariant in
    let s = c.loop-found.s in
    let seen = c.loop-found.seen in (
      omega (arith, more_live c.loop-found.s c.args.capacity c.args.attribute_count.now c.loop-found.invariant.0 (omega (arith, c.loop-found.invariant.1.1.0, c.requires.1.1, c.loop-found-test.true))),
      (
        c.class_met-again.auto.seen ∙ v.1.0,
        (
          rw (live_next s c.args.attribute_count.now, v.1.1.0),
          (
            met_more s c.args.attributes.now c.args.attribute_count.now seen c.loop-found.met c.class_met-again.result v.1.1.1.1 v.1.1.1.0 c.class_met-again.ensures.0,
            seen_more s c.args.attributes.now c.args.attribute_count.now seen _ (omega (arith, v.1.0, c.shared_slice_known-in-loop-found-2-1.given s)) v.1.1.1.1 c.class_met-again.ensures.1,
          ),
        ),
      ),
    )

pub returns : goal.returns
returns c =
    let v = c.loop-found.invariant in
    v.1.1.1.0
    ∙ rest_differ c.loop-found.s c.args.capacity c.args.attributes.now c.args.attribute_count.now v.0 (omega (arith, v.1.1.0, c.requires.1.1, c.loop-found-test.false))
