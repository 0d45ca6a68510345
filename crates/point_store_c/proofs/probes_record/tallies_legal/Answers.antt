-- The search of the words is the definition's.
use mathlib.Core.Path.{◌∙◌}
use lib.Dec.{ltb}
use borrow.Author.Rules.{rules}
use borrow.Author.Tests.{tests}
use Rattle.std.specs.List.{between}
use Rattle.std.proofs.lemmas.Iterator.{YieldsList-from_slice}
use Rattle.std.proofs.lemmas.Iterator.Search.{all_from_yields_List}
use Rattle.point_store_c.proofs.ProbesRecordLaws.{each_legal}
use Rattle.point_store_c.proofs.probes_record.tallies_legal.Goals as goal

pub returns : goal.returns
returns c =
    let words = c.args.words.now in
    all_from_yields_List (λ word. ltb word 4294967296) _ _ c.all.result c.all.ensures.ran (YieldsList-from_slice (between 39 47 words) cc) (λ x b q k. search (rules, tests))
    ∙ each_legal words c.requires
