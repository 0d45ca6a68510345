-- The free indices are never more than the capacity.
use native.Mathlib.Omega.{arith}
use mathlib.Core.Path.{sym, ◌∙◌}
use Rattle.interval_store_manager.specs.MarkLaws.{checked_ok}
use Rattle.interval_store_manager.specs.Sound.{free_le_capacity}
use Rattle.interval_store_manager.proofs.IntervalStoreManager.used.Goals as goal

pub overflow_sub-result : goal.overflow_sub-result
overflow_sub-result c =
    omega (
      arith,
      (checked_ok c.args.self c.args.starts.now c.args.ends.now c.well_formed-2.result _ c.in_ok-free.free c.well_formed-2.ensures (sym c.ok_or.ensures.value ∙ c.in_ok-free.was)).1,
      free_le_capacity c.args.self.capacity c.args.self.last_in_use c.args.starts.now c.args.ends.now,
    )
