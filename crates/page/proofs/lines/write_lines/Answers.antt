-- The loop keeps `Written`.
use mathlib.Core.Path.{refl}
use lib.ListN.{get_or}
use native.Mathlib.Omega.{arith}
use Rattle.page.proofs.WritingLaws.{none_written, room_for_one, line_written, line_skipped}
use Rattle.page.proofs.lines.write_lines.Goals as goal
use Rattle.page.proofs.lines.write_lines.Goals.{then-count-gt0, else-count-gt0}

pub loop-i-init : goal.loop-i-init
loop-i-init c =
    let a = c.args in
    none_written a.table_length a.reference_count.now a.location.now a.text.now

pub put_point-requires : goal.put_point-requires
put_point-requires c =
    let a = c.args in
    let l = c.loop-i in
    room_for_one a.table_length a.reference_count.now a.location.now a.text.now l.text l.end l.i l.invariant c.loop-i-test.true c.requires.1 c.if-count-gt0.true

pub overflow_add-end : goal.overflow_add-end
overflow_add-end c =
    let a = c.args in
    let l = c.loop-i in
    omega (arith, c.well_formed, l.invariant.sized, room_for_one a.table_length a.reference_count.now a.location.now a.text.now l.text l.end l.i l.invariant c.loop-i-test.true c.requires.1 c.if-count-gt0.true)

pub loop-i-preserved : goal.loop-i-preserved
loop-i-preserved c =
    let l = c.loop-i in
    let n = c.args.table_length in
    let counts = c.args.reference_count.now in
    let places = c.args.location.now in
    let first = c.args.text.now in
    elim c.if-count-gt0.branch [
      | then-count-gt0 w ↦
          let p = w.put_point in
          rw (w.end-is, w.text-is)
          (line_written n counts places first l.text l.end l.i l.invariant c.loop-i-test.true c.requires.1 p.new.text (get_or counts l.i 0) (get_or places l.i 0)
          w.if-count-gt0.true refl refl (omega (arith, c.requires.0.1, c.loop-i-test.true)) p.ensures p.auto.text)
      | else-count-gt0 w ↦
          rw (w.end-is, w.text-is)
          (line_skipped n counts places first l.text l.end l.i l.invariant c.loop-i-test.true c.requires.1 (get_or counts l.i 0) w.if-count-gt0.false refl)
    ]
