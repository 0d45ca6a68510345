-- What an accepted call may rely on.
use mathlib.Core.Path.{sym, ◌∙◌, ap}
use Rattle.interval_store_manager.specs.Calls.{decision_means}
use Rattle.interval_store_manager.specs.DecisionLaws.{change_go}
use Rattle.interval_store_manager.proofs.IntervalStoreManager.change_capacity.Goals as goal

pub change_capacity_unchecked-requires : goal.change_capacity_unchecked-requires
change_capacity_unchecked-requires c = change_go c.args.self.now c.args.starts.now c.args.ends.now c.args.new_capacity (sym c.change_decision.ensures ∙ ap decision_means c.in_ok-change_decision.was)
