-- The search is the definition's.
use mathlib.Core.Path.{◌∙◌}
use lib.ListN.{take}
use borrow.Author.Rules.{rules}
use borrow.Author.Tests.{tests}
use Rattle.std.proofs.lemmas.Iterator.{YieldsList-from_slice, YieldsList-from_zip}
use Rattle.std.proofs.lemmas.Iterator.Search.{position_from_yields_List}
use Rattle.labels.proofs.Searching.{holds, slot_found}
use Rattle.labels.proofs.take.class_slot.Goals as goal

pub returns : goal.returns
returns c =
    let a = c.args in
    position_from_yields_List (holds a.class) c.position.new.self _ c.position.result c.position.ensures.ran
    (YieldsList-from_zip (YieldsList-from_slice {s = c.zip.result.a} (take a.capacity a.attributes.now) cc) (YieldsList-from_slice {s = c.zip.result.b} (take a.capacity a.attribute_count.now) cc))
    (λ x b q k. search (rules, tests))
    ∙ slot_found a.capacity a.attributes.now a.attribute_count.now a.class c.requires.0 c.requires.1
