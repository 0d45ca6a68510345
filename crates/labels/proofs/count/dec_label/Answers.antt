-- A label and its slot are each lowered; the slot of a live label is live.
use Rattle.std.proofs.Common.{ap₂}
use Rattle.labels.specs.Counted.{Counted}
use Rattle.labels.specs.CountedLaws.{lowered_at_one}
use Rattle.labels.specs.Labels.{label_lowered, slot_at, with_tables}
use Rattle.labels.specs.Lent.{labels_lowering}
use Rattle.labels.proofs.Counting.{index_lent, slot_lent, slot_live, index_releasable, slot_releasable}
use Rattle.labels.proofs.count.dec_label.Goals as goal

pub bounds-tables-i : goal.bounds-tables-i
bounds-tables-i c = index_lent c.requires

pub release_at_one-requires : goal.release_at_one-requires
release_at_one-requires c = index_releasable c.requires

pub bounds-tables-slot : goal.bounds-tables-slot
bounds-tables-slot c = slot_lent c.requires

pub overflow_sub-tables-2 : goal.overflow_sub-tables-2
overflow_sub-tables-2 c = slot_live c.requires

pub bounds-tables-slot-2 : goal.bounds-tables-slot-2
bounds-tables-slot-2 c = slot_lent c.requires

pub release_at_one-requires-2 : goal.release_at_one-requires-2
release_at_one-requires-2 c = slot_releasable c.requires

pub returns-clause-lowered : goal.returns-clause-lowered
unfolding label_lowered
returns-clause-lowered c =
    let l = labels_lowering c.args.managers.now c.args.tables.now in
    ap₂ (λ (x y : Counted). with_tables l x y) (lowered_at_one l.label_table c.args.label.0 _ _ _ c.release_at_one.ensures)
    (lowered_at_one l.attribute_table (slot_at l c.args.label.0) _ _ _ c.release_at_one-2.ensures)
