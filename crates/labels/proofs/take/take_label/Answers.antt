-- A slot is free wherever a label index is; the rest follows from the laws of taking.
use Rattle.std.proofs.Common.{arith}
use Rattle.labels.specs.Lent.{labels_taking}
use Rattle.labels.proofs.TakeLaws.{taken_label}
use Rattle.labels.proofs.Taking.{slot_ready, slot_fits, index_ready, index_fits, code_lent, slot_lent, count_lent}
use Rattle.labels.proofs.take.take_label.Goals as goal

pub take_slot-slot-requires : goal.take_slot-slot-requires
take_slot-slot-requires c = slot_ready c.requires

pub get_unchecked-given-requires : goal.get_unchecked-given-requires
get_unchecked-given-requires c = index_ready c.requires

pub bounds-tables-index : goal.bounds-tables-index
bounds-tables-index c = code_lent c.requires c.get_unchecked-given.result.index _ _ _ _ c.get_unchecked-given.ensures

pub overflow_cast-tables-2 : goal.overflow_cast-tables-2
overflow_cast-tables-2 c = omega (arith, slot_fits c.requires c.class_of-class.result c.take_slot-slot.result _ _ c.take_slot-slot.ensures)

pub offset_bounds-tables-index : goal.offset_bounds-tables-index
offset_bounds-tables-index c = omega (arith, index_fits c.requires c.get_unchecked-given.result.index _ _ _ _ c.get_unchecked-given.ensures)

pub bounds-tables-index-2 : goal.bounds-tables-index-2
bounds-tables-index-2 c = slot_lent c.requires c.get_unchecked-given.result.index _ _ _ _ c.get_unchecked-given.ensures

pub offset_bounds-tables-index-2 : goal.offset_bounds-tables-index-2
offset_bounds-tables-index-2 c = omega (arith, index_fits c.requires c.get_unchecked-given.result.index _ _ _ _ c.get_unchecked-given.ensures)

pub bounds-tables-index-3 : goal.bounds-tables-index-3
bounds-tables-index-3 c = count_lent c.requires c.get_unchecked-given.result.index _ _ _ _ c.get_unchecked-given.ensures

pub returns-clause-taken : goal.returns-clause-taken
returns-clause-taken c = taken_label c.args.classes.now c.args.capacity (labels_taking c.args.managers.now c.args.tables.now) c.args.code c.class_of-class.result c.class_of-class.ensures _ c.take_slot-slot.ensures c.get_unchecked-given.result.index _ _ _ _ c.get_unchecked-given.ensures
