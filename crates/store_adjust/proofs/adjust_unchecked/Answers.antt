-- A turn is one pair: the rest of the list comes to what the whole comes to.
use Rattle.std.proofs.Common.{rules}
use mathlib.Core.Path.{ap}
use Rattle.store_definitions.specs.Answers.{done_means}
use Rattle.store_adjust.specs.Run.{start, stop, next, finish}
use Rattle.store_adjust.proofs.adjust_unchecked.Goals as goal

pub loop-i-init : goal.loop-i-init
loop-i-init c = (search rules, start _ _ c.requires)

pub returns-in-Err-clause-adjusted : goal.returns-in-Err-clause-adjusted
returns-in-Err-clause-adjusted c = stop _ _ _ _ c.loop-i.invariant.1 c.loop-i-test.true _ c.adjust_pair-adjusted.ensures.done _ (ap done_means c.in-Err.is)

pub loop-i-preserved : goal.loop-i-preserved
loop-i-preserved c =
    (search rules, next _ _ _ _ c.loop-i.invariant.1 c.loop-i-test.true _ c.adjust_pair-adjusted.ensures.done (ap done_means c.in_default.is))

pub returns-clause-adjusted : goal.returns-clause-adjusted
returns-clause-adjusted c = finish _ _ _ _ c.loop-i.invariant.1 c.loop-i-test.false
