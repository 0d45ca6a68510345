-- The loop keeps that the columns left decide.
use mathlib.Core.Path.{◌≡◌}
use lib.ListN.{length}
use Rattle.decimal.specs.Field.{columns, same_bytes, is_field}
use Rattle.decimal.proofs.read.is_field.Given as goal

abbrev pub invariant-loop-b : goal.invariant-loop-b
invariant-loop-b l = same_bytes l.b-iterator.iter.rest.now (columns (length l.b-iterator.iter.rest.now) l.rest) ≡ is_field l.text l.number
