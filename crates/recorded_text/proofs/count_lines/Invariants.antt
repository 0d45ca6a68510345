-- No more lines than bytes passed, so that their count fits.
use Rattle.std.proofs.Common.{◌≤◌}
use Rattle.recorded_text.proofs.count_lines.Given as goal

abbrev pub invariant-loop-i : goal.invariant-loop-i
invariant-loop-i l = l.lines ≤ l.i
