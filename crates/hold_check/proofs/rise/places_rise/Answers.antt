-- The invariant: where no place fell, those of the entries so far rise.
use Rattle.std.proofs.Common.{ltb, length, get_or, sym, ◌∙◌, arith}
use Rattle.hold_check.proofs.RiseLaws.{listed_at, fall_most, rises_step}
use Rattle.hold_check.proofs.rise.places_rise.Goals as goal

pub loop-entry-preserved : goal.loop-entry-preserved
loop-entry-preserved c =
    let a = c.args in
    let n = length a.location.now in
    let l = c.loop-entry in
    let k = l.entry-index in
    let inside = listed_at n a.list.now k (sym c.listed_below.ensures ∙ c.if-listed_below.true) c.loop-entry-test.true in
    (omega (arith, fall_most (ltb (get_or a.location.now (get_or a.list.now k 0) 0) l.next)), rises_step n l.next a.location.now a.list.now k l.falls l.invariant.1 c.loop-entry-test.true inside)
