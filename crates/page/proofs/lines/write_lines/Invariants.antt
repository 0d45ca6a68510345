-- The loop keeps `Written`.
use Rattle.page.proofs.WritingLaws.{Written}
use Rattle.page.proofs.lines.write_lines.Given as goal

abbrev pub invariant-loop-i : goal.invariant-loop-i
invariant-loop-i l = Written l.table_length l.reference_count l.location l.initial.text l.text l.end l.i
