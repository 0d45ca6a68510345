-- A change upwards pushes one interval; any other leaves all as it was.
use native.Mathlib.Omega.{arith}
use mathlib.Core.Path.{sym, ◌∙◌}
use Rattle.interval_store_manager.specs.Sound.{sound, lent, entries_le_capacity}
use Rattle.interval_store_manager.specs.ChangeLaws.{changed_up, changed_not}
use Rattle.interval_store_manager.proofs.IntervalStoreManager.change_capacity_unchecked.Goals as goal

pub returns-else-capacity-new_capacity : goal.returns-else-capacity-new_capacity
returns-else-capacity-new_capacity c = sym (changed_not c.args.self.now.capacity c.args.self.now.last_in_use c.args.starts.now c.args.ends.now c.args.new_capacity c.if-capacity-new_capacity.false)

pub push-requires : goal.push-requires
push-requires c =
    let s = sound c.args.self.now c.args.starts.now c.args.ends.now c.requires.0 in
    let n = entries_le_capacity s in
    let g = lent c.args.new_capacity c.args.starts.now c.args.ends.now c.requires.1.1 in
    (omega arith, (omega arith, (omega (arith, c.requires.1.0), omega (arith, c.requires.1.0))))

pub returns-then-capacity-new_capacity : goal.returns-then-capacity-new_capacity
returns-then-capacity-new_capacity c = c.push.ensures ∙ sym (changed_up c.args.self.now.capacity c.args.self.now.last_in_use c.args.starts.now c.args.ends.now c.args.new_capacity c.if-capacity-new_capacity.true)
