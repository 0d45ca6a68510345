-- The invariant: what holds of the entries below i.
use mathlib.Core.Path.{refl}
use Rattle.terms.specs.Below.{every_below}
use Rattle.store_check.specs.Entries.{entries_well}
use Rattle.store_check.proofs.EntryLaws.{entries_more}
use Rattle.store_check.proofs.points.entries_well.Goals as goal

pub loop-i-init : goal.loop-i-init
unfolding entries_well every_below
loop-i-init c = refl

pub loop-i-preserved : goal.loop-i-preserved
loop-i-preserved c =
    entries_more c.loop-i.i c.args.limit c.args.marks.now c.args.reference_count.now c.args.location.now c.loop-i.ok c.entry_well-ok.result c.loop-i.invariant c.entry_well-ok.ensures
