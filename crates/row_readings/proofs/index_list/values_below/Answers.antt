-- The test of all values is the definition's.
use mathlib.Core.Path.{sym, ◌∙◌}
use lib.Dec.{ltb}
use borrow.Author.Rules.{rules}
use borrow.Author.Tests.{tests}
use Rattle.std.proofs.lemmas.Iterator.{YieldsList-from_slice}
use Rattle.std.proofs.lemmas.Iterator.Search.{all_from_yields_List}
use Rattle.row_readings.proofs.ListTurns.{below_all}
use Rattle.row_readings.proofs.index_list.values_below.Goals as goal

pub returns : goal.returns
returns c =
    all_from_yields_List (λ v. ltb v c.args.limit) _ _ c.all.result c.all.ensures.ran (YieldsList-from_slice c.args.values.now cc) (λ x b q k. search (rules, tests))
    ∙ sym (below_all c.args.limit c.args.values.now)
