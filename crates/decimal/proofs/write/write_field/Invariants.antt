-- The loop keeps that the columns left of k, before what is written, make the field.
use mathlib.Core.List.{◌++◌}
use mathlib.Core.Path.{◌≡◌}
use lib.ListN.{drop}
use Rattle.decimal.specs.Field.{columns, field}
use Rattle.decimal.proofs.write.write_field.Given as goal

abbrev pub invariant-loop-k : goal.invariant-loop-k
invariant-loop-k l = columns l.k l.rest ++ drop l.k l.out ≡ field l.width l.number
