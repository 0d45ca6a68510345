-- The loop keeps where the next field begins, and that the line from there on decides.
use mathlib.Core.Path.{◌≡◌}
use lib.ListN.{drop}
use Rattle.decimal.specs.Field.{same_bytes}
use Rattle.decimal.specs.Lines.{line}
use Rattle.decimal.proofs.ReaderTurns.{Begins}
use Rattle.decimal.proofs.read.is_line.Given as goal

abbrev pub invariant-loop-number : goal.invariant-loop-number
invariant-loop-number l = Begins l.text l.width l.numbers l.at l.number-index × (same_bytes (drop l.at l.text) (line l.width (drop l.number-index l.numbers)) ≡ same_bytes l.text (line l.width l.numbers))
