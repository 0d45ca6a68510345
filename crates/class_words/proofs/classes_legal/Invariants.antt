-- The loop keeps the test of the codes passed.
use mathlib.Core.Path.{◌≡◌}
use Rattle.class_words.specs.WordsLaws.{small_below}
use Rattle.class_words.proofs.classes_legal.Given as goal

abbrev pub invariant-loop-code : goal.invariant-loop-code
invariant-loop-code l = l.legal ≡ small_below l.code l.at l.words
