-- The loop keeps that the lines that are left decide, and the classes filled in; every way out is a law of `Reading`.
use mathlib.Core.Path.{◌≡◌}
use lib.ListN.{length}
use Rattle.class_table.specs.Text.{classes_of}
use Rattle.class_table.proofs.Reading.{left_same, filled}
use Rattle.class_table.proofs.read.read_classes.Given as goal

abbrev pub invariant-loop-code : goal.invariant-loop-code
invariant-loop-code l = (length l.classes ≡ 24) × ((left_same l.text l.code ≡ left_same l.text 0) × (filled l.text l.code l.classes ≡ classes_of 24 l.text))
