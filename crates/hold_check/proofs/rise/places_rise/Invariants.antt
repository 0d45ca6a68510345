-- The invariant: where no place fell, those of the entries so far rise.
use Rattle.std.proofs.Common.{◌≡◌, ◌≤◌, length, take}
use Rattle.hold_check.specs.Rising.{Rises}
use Rattle.hold_check.proofs.rise.places_rise.Given as goal

abbrev pub invariant-loop-entry : goal.invariant-loop-entry
invariant-loop-entry l = (l.falls ≤ l.entry-index) × (l.falls ≡ 0 → Rises (length l.location) l.next l.location (take l.entry-index l.list))
