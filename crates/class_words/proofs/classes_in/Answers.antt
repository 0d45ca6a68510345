-- The loop keeps that the codes passed have their classes.
use native.Mathlib.Omega.{arith}
use Rattle.class_words.specs.WordsLaws.{small}
use Rattle.class_words.proofs.classes_in.Goals as goal

pub overflow_cast-classes : goal.overflow_cast-classes
overflow_cast-classes c = omega (arith, small c.args.at c.args.words.now c.requires.1 c.loop-code.code c.loop-code-test.true)
