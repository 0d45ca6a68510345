-- The two returns are the two forms of taking a slot.
use Rattle.std.proofs.Common.{arith, sym, ◌∙◌}
use Rattle.labels.specs.Counted.{counted}
use Rattle.labels.specs.CountedLaws.{capacity_most}
use Rattle.labels.specs.TakeSlotLaws.{taken_live, taken_new}
use Rattle.labels.proofs.Taking.{slot_given}
use Rattle.labels.proofs.take.take_slot.Goals as goal

pub returns-in-Some : goal.returns-in-Some
returns-in-Some c = taken_live c.args.capacity c.args.attributes.now (counted c.args.manager.now c.args.attribute_count.now c.args.attribute_starts.now c.args.attribute_ends.now) c.args.class c.in-Some.live (sym c.in-Some.is ∙ c.class_slot.ensures)

pub bounds-attributes-slot : goal.bounds-attributes-slot
bounds-attributes-slot c = omega (arith, slot_given c.requires c.get_unchecked-given.result.index _ _ _ _ c.get_unchecked-given.ensures, c.requires.lent)

pub offset_bounds-attribute_count-slot : goal.offset_bounds-attribute_count-slot
offset_bounds-attribute_count-slot c = omega (arith, slot_given c.requires c.get_unchecked-given.result.index _ _ _ _ c.get_unchecked-given.ensures, capacity_most _ _ c.requires.well)

pub bounds-attribute_count-slot : goal.bounds-attribute_count-slot
bounds-attribute_count-slot c = omega (arith, slot_given c.requires c.get_unchecked-given.result.index _ _ _ _ c.get_unchecked-given.ensures, c.requires.well.lent)

pub returns : goal.returns
returns c = taken_new c.args.capacity c.args.attributes.now (counted c.args.manager.now c.args.attribute_count.now c.args.attribute_starts.now c.args.attribute_ends.now) c.args.class (sym c.in_default.is ∙ c.class_slot.ensures) _ _ _ _ _ c.get_unchecked-given.ensures
