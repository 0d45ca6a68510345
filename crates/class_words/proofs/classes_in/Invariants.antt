-- The loop keeps that the codes passed have their classes.
use mathlib.Core.Path.{◌≡◌}
use lib.ListN.{length, take, drop}
use Rattle.class_words.proofs.classes_in.Given as goal

abbrev pub invariant-loop-code : goal.invariant-loop-code
invariant-loop-code l = (length l.classes ≡ 24) × (take l.code l.classes ≡ take l.code (drop l.at l.words))
