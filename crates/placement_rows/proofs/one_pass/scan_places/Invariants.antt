-- The loop's invariant: what was scanned is what the definition leaves of the places before `place`, and its quotients are carried along.
use Rattle.std.proofs.Common.{◌≡◌}
use Rattle.placement.proofs.ScannedLaws.{scanned}
use Rattle.placement_rows.specs.OnePass.{scan, Carried}
use Rattle.placement_rows.proofs.one_pass.scan_places.Given as goal

abbrev pub invariant-loop-place : goal.invariant-loop-place
invariant-loop-place l = (scan l.store l.location l.done ≡ scanned 0 l.shape.dimensions l.shape.base l.shape.rotation l.initial.store l.initial.location l.place) × Carried l.shape.base l.done
