-- The loop keeps what the tallies passed leave.
use mathlib.Core.Path.{◌≡◌}
use lib.ListN.{take}
use lib.Seq.{sets}
use Rattle.point_store_c.proofs.probes_record.tallies_write.Given as goal

abbrev pub invariant-loop-i : goal.invariant-loop-i
invariant-loop-i l = l.words ≡ sets l.initial.words 39 (take l.i l.tallies)
