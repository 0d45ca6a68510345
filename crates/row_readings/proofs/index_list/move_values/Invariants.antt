-- The loop's invariant: the first i values are written.
use Prim.Native.Nat.{◌+◌}
use mathlib.Core.List.{map}
use mathlib.Core.Path.{◌≡◌}
use lib.ListN.{length, take}
use Rattle.row_readings.proofs.index_list.move_values.Given as goal

abbrev pub invariant-loop-i : goal.invariant-loop-i
invariant-loop-i l = (length l.out ≡ length l.initial.out) × (take l.i l.out ≡ map (λ v. l.first + v) (take l.i l.values))
