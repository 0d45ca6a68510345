-- The loop keeps that the words passed are the tallies.
use mathlib.Core.Path.{◌≡◌}
use lib.ListN.{length, take, drop}
use Rattle.point_store_c.proofs.probes_record.tallies_read.Given as goal

abbrev pub invariant-loop-i : goal.invariant-loop-i
invariant-loop-i l = (length l.tallies ≡ 8) × (take l.i l.tallies ≡ take l.i (drop 39 l.words))
