-- What an accepted call may rely on.
use mathlib.Core.Path.{sym, ◌∙◌, ap}
use Rattle.interval_store_manager.specs.Calls.{decision_means}
use Rattle.interval_store_manager.specs.DecisionLaws.{release_go}
use Rattle.interval_store_manager.proofs.IntervalStoreManager.release.Goals as goal

pub release_unchecked-requires : goal.release_unchecked-requires
release_unchecked-requires c = release_go c.args.self.now c.args.starts.now c.args.ends.now c.args.index (sym c.release_decision.ensures ∙ ap decision_means c.in_ok-release_decision.was)
