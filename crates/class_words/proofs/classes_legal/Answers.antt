-- The loop keeps the test of the codes passed.
use native.Mathlib.Omega.{arith}
use Rattle.class_words.specs.WordsLaws.{none_small, one_small, all_small}
use Rattle.class_words.proofs.classes_legal.Goals as goal

pub loop-code-init : goal.loop-code-init
loop-code-init c = none_small c.args.at c.args.words.now

pub loop-code-preserved : goal.loop-code-preserved
loop-code-preserved c =
    let l = c.loop-code in
    one_small c.args.at c.args.words.now l.code l.legal l.invariant

pub returns : goal.returns
returns c =
    let l = c.loop-code in
    all_small c.args.at c.args.words.now l.code l.legal (omega (arith, l.auto.code-end)) (omega (arith, c.loop-code-test.false)) l.invariant
