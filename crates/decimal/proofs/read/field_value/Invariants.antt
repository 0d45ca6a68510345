-- The loop keeps what is left to count behind the value so far; a value of i digits is below 10 to the i.
use Prim.Native.Nat.{◌<◌, ◌^◌}
use mathlib.Core.Path.{◌≡◌}
use lib.ListN.{drop}
use Rattle.decimal.specs.Field.{value_from, value}
use Rattle.decimal.proofs.read.field_value.Given as goal

abbrev pub invariant-loop-b : goal.invariant-loop-b
invariant-loop-b l = (l.value < 10 ^ l.b-index) × (value_from l.value (drop l.b-index l.text) ≡ value l.text)
