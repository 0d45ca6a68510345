-- The loop keeps what the classes passed leave.
use mathlib.Core.Path.{◌≡◌}
use lib.ListN.{take}
use lib.Seq.{sets}
use Rattle.class_words.proofs.classes_out.Given as goal

abbrev pub invariant-loop-code : goal.invariant-loop-code
invariant-loop-code l = l.words ≡ sets l.initial.words l.at (take l.code l.classes)
