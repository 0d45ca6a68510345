-- The invariant: what is left to read, after the value so far, is the number that stands at `at`.
use Rattle.std.proofs.Common.{◌≡◌, ◌+◌}
use lib.ListN.{drop}
use Rattle.recorded_text.specs.Numbers.{digits, number_at}
use Rattle.recorded_text.proofs.number_at.Given as goal

abbrev pub invariant-loop-i : goal.invariant-loop-i
invariant-loop-i l = digits (drop (l.at + l.i) l.text) l.value (l.at + l.i) ≡ number_at l.text l.at
