-- The search of the tallies is the definition's.
use Rattle.std.proofs.Common.{rules, ◌≡◌, ℕ, List, length, sym, ap, ◌∙◌, arith, take_all}
use Rattle.std.specs.List.{list_all}
use Rattle.std.proofs.lemmas.Iterator.{YieldsList-from_slice}
use Rattle.std.proofs.lemmas.Iterator.Search.{all_from_yields_List}
use lib.Dec.{leb}
use borrow.Author.Tests.{tests}
use Rattle.probes_definitions.specs.WellFormed.{tallies_within}
use Rattle.probes_check.specs.CheckLaws.{all_below}
use Rattle.probes_check.proofs.check.tallies_within.Goals as goal

pub returns : goal.returns
unfolding tallies_within
returns c =
    let a = c.args in
    let eight : length a.tallies ≡ 8 = search rules in
    let test = λ (k : ℕ). leb k a.sequence in (
      all_from_yields_List test _ _ c.all.result c.all.ensures.ran (YieldsList-from_slice a.tallies cc) (λ x b q k. search (rules, tests))
          ∙ ap (λ (xs : List ℕ). list_all test xs) (sym (take_all 8 a.tallies (omega (arith, eight))))
          ∙ all_below test a.tallies 8 (omega (arith, eight)),
      eight,
    )
