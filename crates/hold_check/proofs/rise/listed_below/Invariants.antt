-- The invariant: what holds of the entries so far.
use Rattle.std.proofs.Common.{◌≡◌, ltb, get_or}
use Rattle.terms.specs.Below.{every_below}
use Rattle.hold_check.proofs.rise.listed_below.Given as goal

abbrev pub invariant-loop-entry : goal.invariant-loop-entry
invariant-loop-entry l = l.ok ≡ every_below l.entry-index (λ j. ltb (get_or l.list j 0) l.n)
