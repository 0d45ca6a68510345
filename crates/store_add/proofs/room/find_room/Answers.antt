-- The row is looked at where it stands before the window moves.
use native.Mathlib.Omega.{arith}
use mathlib.Core.Path.{◌≡◌, refl, ◌∙◌}
use Rattle.placement.specs.Laying.{written_count}
use Rattle.store_definitions.specs.Parts.{base_of}
use Rattle.store_add.specs.Pieces.{rows_in, row_from}
use Rattle.store_add.proofs.RoomLaws.{base_most, room_rows, row_lent, written_most, joins_after, fits_not, fits_then}
use Rattle.store_add.proofs.room.find_room.Goals as goal

pub row_joins-joined-requires : goal.row_joins-joined-requires
row_joins-joined-requires c = let a = c.args in
    let pre = c.requires in
    let mr = c.make_room in
    let v = room_rows a.s.now a.store.now a.location.now pre.0 mr.new.store mr.new.location mr.new.s.start_free_region mr.new.s.store_length mr.ensures.rows in
    rw (mr.ensures.rest, c.base-base.ensures)
    (row_lent a.s.now a.window.now a.point.now pre.1, omega (arith, v.free_inside, v.store_within, v.floats_lent))

pub overflow_add-s : goal.overflow_add-s
overflow_add-s c = let a = c.args in
    let pre = c.requires in
    let most = base_most a.s.now.dimensions a.s.now.shingle_size a.s.now.capacity pre.1.bounds in
    let mr = c.make_room in
    let v = room_rows a.s.now a.store.now a.location.now pre.0 mr.new.store mr.new.location mr.new.s.start_free_region mr.new.s.store_length mr.ensures.rows in
    let w : c.written.result ≡ written_count a.s.now.dimensions (base_of a.s.now) c.row_joins-joined.result = c.written.ensures ∙ rw c.base-base.ensures refl in
    omega (arith, v.free_inside, v.store_within, pre.1.bounds.floats_most, pre.1.bounds.dims_most, w, written_most a.s.now.dimensions (base_of a.s.now) c.row_joins-joined.result most)

pub returns-then-s-written-clause-answer : goal.returns-then-s-written-clause-answer
returns-then-s-written-clause-answer c = let a = c.args in
    let mr = c.make_room in
    let j = joins_after a.s.now a.window.now a.point.now c.requires.1 mr.new.s mr.new.store mr.new.location mr.ensures.rest c.row_joins-joined.result (c.row_joins-joined.ensures ∙ rw c.base-base.ensures refl) in
    fits_then a.s.now (rows_in mr.new.s mr.new.store mr.new.location) (row_from a.s.now a.window.now a.point.now) c.row_joins-joined.result c.written.result j (c.written.ensures ∙ rw c.base-base.ensures refl) c.if-s-written.true

pub returns-clause-answer : goal.returns-clause-answer
returns-clause-answer c = let a = c.args in
    let mr = c.make_room in
    let j = joins_after a.s.now a.window.now a.point.now c.requires.1 mr.new.s mr.new.store mr.new.location mr.ensures.rest c.row_joins-joined.result (c.row_joins-joined.ensures ∙ rw c.base-base.ensures refl) in
    fits_not a.s.now (rows_in mr.new.s mr.new.store mr.new.location) (row_from a.s.now a.window.now a.point.now) c.row_joins-joined.result c.written.result j (c.written.ensures ∙ rw c.base-base.ensures refl) c.if-s-written.false
