-- The window is written, and then the point over it, or the window is moved.
use native.Mathlib.Omega.{arith}
use mathlib.Core.Path.{◌∙◌}
use lib.ListN.{length}
use Rattle.row_readings.specs.Shingled.{base_within, turn_room, product_fits}
use Rattle.row_readings.specs.Previews.{shown_over, shown_moved}
use Rattle.row_readings.proofs.preview.show_window.Goals as goal

pub overflow_mul-at : goal.overflow_mul-at
overflow_mul-at c =
    let at = c in
    let n = length at.args.point.now in
    let small = product_fits at.args.sequence n (omega arith) (omega (arith, base_within at.args.dimensions n at.requires.shape, at.requires.dims_most)) in
    record { fits = omega arith }

pub copy_from-requires-then-rotation : goal.copy_from-requires-then-rotation
copy_from-requires-then-rotation c =
    let at = c in
    omega (arith, turn_room at.args.dimensions (length at.args.point.now) at.requires.shape at.args.sequence, at.requires.out_fits, c.copy_from.auto.words)

pub returns-then-rotation : goal.returns-then-rotation
returns-then-rotation c =
    let at = c in
    let a = at.args in
    rw c.if-rotation.true (c.copy_from-then-rotation.ensures ∙ shown_over a.dimensions a.window.now a.out.now at.requires.window_lent at.requires.out_fits c.copy_from.new.words a.point.now a.sequence c.copy_from.ensures)

pub move_window-requires : goal.move_window-requires
move_window-requires c =
    let at = c in
    (base_within at.args.dimensions (length at.args.point.now) at.requires.shape, omega (arith, at.requires.out_fits, c.copy_from.auto.words))

pub returns : goal.returns
returns c =
    let at = c in
    let a = at.args in
    rw c.if-rotation.false (c.move_window.ensures ∙ shown_moved a.dimensions a.window.now a.out.now at.requires.window_lent at.requires.out_fits c.copy_from.new.words a.point.now a.sequence c.copy_from.ensures)
