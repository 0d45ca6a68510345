-- The invariant: the places of the entries passed are marked, and whether they are distinct.
use mathlib.Core.Bool.{not}
use mathlib.Core.Path.{◌≡◌}
use lib.ListN.{length}
use Rattle.store_definitions.specs.WellFormed.{places_distinct}
use Rattle.store_check.proofs.PlaceLaws.{PlacesMarked}
use Rattle.store_check.proofs.points.mark_places.Given as goal

abbrev pub invariant-loop-place : goal.invariant-loop-place
invariant-loop-place l = (length l.marks ≡ length l.initial.marks) × ((not l.met ≡ places_distinct l.place-index l.location) × PlacesMarked l.place-index l.location l.marks)
