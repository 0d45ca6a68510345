-- Without internal shingling the window stands.
use native.Mathlib.Omega.{arith}
use Rattle.store_add.specs.Pieces.{window_moved}
use Rattle.store_add.proofs.RoomLaws.{base_most, sized_on, moved_on}
use Rattle.store_add.proofs.lay.shift_window.Goals as goal

pub move_window-requires : goal.move_window-requires
move_window-requires c = let a = c.args in
    let pre = c.requires in
    (omega (arith, sized_on a.s a.window.now a.point.now pre c.if-s.true, base_most a.s.dimensions a.s.shingle_size a.s.capacity pre.bounds), pre.window_lent)

pub returns-then-s : goal.returns-then-s
returns-then-s c = let a = c.args in
    let pre = c.requires in
    let mw = c.move_window in
    moved_on a.s a.window.now a.point.now pre c.if-s.true mw.new.window mw.ensures

pub returns-else-s : goal.returns-else-s
unfolding window_moved
returns-else-s c = rw c.if-s.false
