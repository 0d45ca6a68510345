-- The two returns are the two forms of get.
use native.Mathlib.Omega.{arith}
use borrow.Author.Rules.{scaled_Fits}
use Rattle.interval_store_manager.specs.Sound.{sound}
use Rattle.interval_store_manager.specs.GetLaws.{next_below, some_free, pop_given, keep_given}
use Rattle.interval_store_manager.proofs.IntervalStoreManager.get_unchecked.Goals as goal
use Rattle.interval_store_manager.proofs.IntervalStoreManager.get_unchecked.Goals.{then-start-ends, else-start-ends}

pub offset_bounds-starts-top : goal.offset_bounds-starts-top
offset_bounds-starts-top c = scaled_Fits _ _ _ (omega (arith, (sound c.args.self.now c.args.starts.now c.args.ends.now c.requires.0).starts_used, c.requires.1.0)) c.well_formed.1.0.1

pub bounds-starts-top : goal.bounds-starts-top
bounds-starts-top c = omega (arith, (sound c.args.self.now c.args.starts.now c.args.ends.now c.requires.0).starts_used, c.requires.1.0)

pub overflow_sub-result : goal.overflow_sub-result
overflow_sub-result c = omega (arith, some_free c.args.self.now c.args.starts.now c.args.ends.now c.requires.0 c.requires.1.0 _ c.requires.1.1)

pub offset_bounds-ends-top : goal.offset_bounds-ends-top
offset_bounds-ends-top c = scaled_Fits _ _ _ (omega (arith, (sound c.args.self.now c.args.starts.now c.args.ends.now c.requires.0).ends_used, c.requires.1.0)) c.well_formed.1.1.0.1

pub bounds-ends-top : goal.bounds-ends-top
bounds-ends-top c = omega (arith, (sound c.args.self.now c.args.starts.now c.args.ends.now c.requires.0).ends_used, c.requires.1.0)

pub overflow_add-starts : goal.overflow_add-starts
overflow_add-starts c = omega (arith, next_below c.args.self.now.capacity c.args.self.now.last_in_use c.args.starts.now c.args.ends.now (sound c.args.self.now c.args.starts.now c.args.ends.now c.requires.0) c.requires.1.0, (sound c.args.self.now c.args.starts.now c.args.ends.now c.requires.0).most)

pub bounds-starts-top-else-start-ends : goal.bounds-starts-top-else-start-ends
bounds-starts-top-else-start-ends c = omega (arith, (sound c.args.self.now c.args.starts.now c.args.ends.now c.requires.0).starts_used, c.requires.1.0)

pub returns : goal.returns
returns c =
    elim c.if-start-ends.branch [
      | then-start-ends w ↦ rw (w.self-is, w.starts-is) (pop_given c.args.self.now c.args.starts.now c.args.ends.now c.requires.0 c.requires.1.0 _ c.requires.1.1 w.if-start-ends.true)
      | else-start-ends w ↦ rw (w.self-is, w.starts-is) (keep_given c.args.self.now c.args.starts.now c.args.ends.now c.requires.0 c.requires.1.0 _ c.requires.1.1 w.if-start-ends.false)
    ]
