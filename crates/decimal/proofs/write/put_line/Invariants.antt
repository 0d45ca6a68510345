-- The loop keeps that the fields of the numbers passed are put, and where they end.
use Prim.Native.Nat.{◌+◌}
use mathlib.Core.Path.{◌≡◌}
use lib.ListN.{length, take}
use Rattle.decimal.specs.Lines.{fields}
use Rattle.decimal.specs.Segments.{put}
use Rattle.decimal.proofs.write.put_line.Given as goal

abbrev pub invariant-loop-number : goal.invariant-loop-number
invariant-loop-number l = (length l.text ≡ length l.initial.text) × ((l.end ≡ l.at + length (fields l.width (take l.number-index l.numbers))) × (l.text ≡ put l.at (fields l.width (take l.number-index l.numbers)) l.initial.text))
