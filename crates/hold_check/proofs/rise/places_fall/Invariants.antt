-- The invariant: the falls of the pairs so far are counted.
use Rattle.std.proofs.Common.{◌≡◌, length}
use Rattle.terms.specs.Below.{count_below}
use Rattle.hold_check.specs.Runs.{falls}
use Rattle.hold_check.proofs.rise.places_fall.Given as goal

abbrev pub invariant-loop-pair : goal.invariant-loop-pair
invariant-loop-pair l = l.count ≡ count_below (length l.yielded) (falls l.location)
