-- The search of the kinds is the definition's.
use mathlib.Core.Path.{sym, ◌∙◌}
use lib.Dec.{ltb}
use borrow.Author.Rules.{rules}
use borrow.Author.Tests.{tests}
use Rattle.std.proofs.lemmas.Iterator.{YieldsList-from_slice}
use Rattle.std.proofs.lemmas.Iterator.Search.{any_from_yields_List}
use Rattle.probe_readings.specs.Deciding.{above_any}
use Rattle.probe_readings.proofs.decide.any_above.Goals as goal

pub returns : goal.returns
returns c =
    any_from_yields_List (λ k. ltb c.args.limit k) _ _ c.any.result c.any.ensures.ran (YieldsList-from_slice c.args.kinds.now cc) (λ x b q k. search (rules, tests))
    ∙ sym (above_any c.args.limit c.args.kinds.now)
