-- The loop keeps what the classes passed leave.
use borrow.Author.Rules.{rules}
use native.Mathlib.Omega.{arith}
use mathlib.Core.Path.{◌≡◌}
use lib.ListN.{length}
use Rattle.class_words.specs.WordsLaws.{class_written}
use Rattle.class_words.proofs.classes_out.Goals as goal

pub loop-code-preserved : goal.loop-code-preserved
loop-code-preserved c =
    let l = c.loop-code in
    let a = c.args in
    let sized : length a.classes ≡ 24 = search rules in
    rw l.invariant (class_written a.at a.words.now a.classes l.code (omega (arith, c.loop-code-test.true)))
