-- The tests of the runs, put together.
use Rattle.std.proofs.Common.{◌-◌, length, get_or, ◌∙◌, arith}
use Rattle.hold_check.proofs.RiseLaws.{some_held, ends_within, falls_part, runs_tested}
use Rattle.hold_check.proofs.rise.runs_rise.Goals as goal

pub returns-then-first-end : goal.returns-then-first-end
returns-then-first-end c =
    let start = c in
    let a = start.args in
    let h = some_held (length a.location.now) (length a.list.now) c.if-held-n.true in
    let end = c.runs_end-end.result in
    let w = ends_within (length a.location.now) (length a.list.now) (get_or a.list.now 0 0) (get_or a.list.now ((length a.list.now) - 1) 0) end c.if-first-end.true in
    runs_tested (length a.location.now) (length a.list.now) (get_or a.list.now 0 0) end a.location.now a.list.now h.0 (omega arith) w.0.0 w.1.0 w.1.1 c.runs_listed-listed.result c.falls_before-fall.result c.places_fall-count.result c.runs_listed-listed.ensures (c.places_fall-count.ensures ∙ falls_part end a.location.now w.1.1) c.falls_before-fall.ensures
