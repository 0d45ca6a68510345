-- The laws of each part, put together.
use native.Mathlib.Omega.{arith}
use Rattle.std.proofs.Common.{rules, sym, ◌∙◌, ap, ◌≡◌, length}
use Rattle.placement.specs.Laying.{place_of}
use Rattle.labels.specs.Forms.{label_outcome}
use Rattle.labels.specs.Lent.{labels_taking, lists_taking}
use Rattle.store_definitions.specs.Lent.{lent_taking, point_counts, points_lent}
use Rattle.store_definitions.specs.Memory.{point_store}
use Rattle.store_definitions.specs.Parts.{base_of}
use Rattle.store_laws.specs.Sound.{sound}
use Rattle.store_add.specs.Pieces.{rows_in, row_from, with_extent, managers_of, with_managers, index_given}
use Rattle.store_add.proofs.RoomLaws.{room_rows}
use Rattle.store_add.proofs.ActLaws.{keeps_ready, label_ready, lay_ready, index_ready, joined_ok, joined_err, labelled_in, label_in, rowed_in, layable_in, window_in, elements_in, laid_in, free_in, index_ready_in, index_in, sequence_in, put, put_full}
use Rattle.store_add.proofs.keep.keep.Goals as goal

pub find_room-requires : goal.find_room-requires
find_room-requires c = let a = c.args in
    let p = point_store a.s.now (lent_taking a.store.now a.last_known_shingle.now a.points.now a.labels.now) in
    let k = keeps_ready p c.requires.0 a.point.now a.label c.requires.1.0 in
    (k.room, k.row)

pub returns-in_err-joined-clause-kept : goal.returns-in_err-joined-clause-kept
returns-in_err-joined-clause-kept c = let a = c.args in
    let p = point_store a.s.now (lent_taking a.store.now a.last_known_shingle.now a.points.now a.labels.now) in
    let fr = c.find_room in
    let r = rows_in fr.new.s fr.new.store fr.new.location in
    let f = joined_err a.s.now r (row_from a.s.now a.last_known_shingle.now a.point.now) _ (sym c.in_err-joined.was ∙ fr.ensures.answer) in
    let refused = put_full p a.point.now a.label r fr.ensures.rows fr.new.s _ fr.ensures.rest f.0 f.1 in
    search (rules, refused)

pub label_for-label-requires : goal.label_for-label-requires
label_for-label-requires c = let a = c.args in
    let p = point_store a.s.now (lent_taking a.store.now a.last_known_shingle.now a.points.now a.labels.now) in
    let k = keeps_ready p c.requires.0 a.point.now a.label c.requires.1.0 in
    let fr = c.find_room in
    let r = rows_in fr.new.s fr.new.store fr.new.location in
    labelled_in a.s.now fr.new.s r fr.ensures.rest (lists_taking a.labels.now) a.label a.figures.free
    (label_ready p c.requires.0 a.point.now a.label k a.figures c.requires.1.1)

pub lay_row-row-requires : goal.lay_row-row-requires
lay_row-row-requires c = let a = c.args in
    let p = point_store a.s.now (lent_taking a.store.now a.last_known_shingle.now a.points.now a.labels.now) in
    let k = keeps_ready p c.requires.0 a.point.now a.label c.requires.1.0 in
    let fr = c.find_room in
    let tl = c.label_for-label in
    let r = rows_in fr.new.s fr.new.store fr.new.location in
    let e : tl.new.s ≡ with_managers (managers_of tl.new.s) (with_extent r.free r.store_length a.s.now) = tl.ensures.rest ∙ ap (with_managers (managers_of tl.new.s)) fr.ensures.rest in
    let row = row_from a.s.now a.last_known_shingle.now a.point.now in
    let v = room_rows a.s.now a.store.now a.points.now.location.now k.room fr.new.store fr.new.location fr.new.s.start_free_region fr.new.s.store_length fr.ensures.rows in
    let f = joined_ok a.s.now r row _ (sym c.in_ok-joined.was ∙ fr.ensures.answer) in (
      rowed_in a.s.now tl.new.s _ r e a.last_known_shingle.now a.point.now k.row,
      layable_in a.s.now tl.new.s _ r e c.in_ok-joined.joined (length fr.new.store) (lay_ready a.s.now r row k.room.bounds v c.in_ok-joined.joined f.0 f.1),
    )

pub overflow_add-s : goal.overflow_add-s
overflow_add-s c = let a = c.args in
    let p = point_store a.s.now (lent_taking a.store.now a.last_known_shingle.now a.points.now a.labels.now) in
    let k = keeps_ready p c.requires.0 a.point.now a.label c.requires.1.0 in
    let fr = c.find_room in
    let tl = c.label_for-label in
    let r = rows_in fr.new.s fr.new.store fr.new.location in
    let e : tl.new.s ≡ with_managers (managers_of tl.new.s) (with_extent r.free r.store_length a.s.now) = tl.ensures.rest ∙ ap (with_managers (managers_of tl.new.s)) fr.ensures.rest in
    omega (arith, sequence_in a.s.now tl.new.s _ r e, k.unfinished)

pub take_index-given-requires : goal.take_index-given-requires
take_index-given-requires c = let a = c.args in
    let p = point_store a.s.now (lent_taking a.store.now a.last_known_shingle.now a.points.now a.labels.now) in
    let k = keeps_ready p c.requires.0 a.point.now a.label c.requires.1.0 in
    let fr = c.find_room in
    let tl = c.label_for-label in
    let r = rows_in fr.new.s fr.new.store fr.new.location in
    let e : tl.new.s ≡ with_managers (managers_of tl.new.s) (with_extent r.free r.store_length a.s.now) = tl.ensures.rest ∙ ap (with_managers (managers_of tl.new.s)) fr.ensures.rest in
    let v = room_rows a.s.now a.store.now a.points.now.location.now k.room fr.new.store fr.new.location fr.new.s.start_free_region fr.new.s.store_length fr.ensures.rows in
    index_ready_in a.s.now tl.new.s _ r e a.points.now.reference_count.now a.points.now.index_starts.now a.points.now.index_ends.now fr.new.location c.place.result a.figures.live
    (index_ready p (sound p c.requires.0) k.on.not_full a.s.now.dimensions (base_of a.s.now) c.in_ok-joined.joined r (omega (arith, v.free_inside, v.store_within, k.room.bounds.floats_most)) v.places_lent c.place.result (c.place.ensures ∙ ap place_of (c.lay_row-row.ensures.answer.0 ∙ laid_in a.s.now tl.new.s _ r e c.in_ok-joined.joined)) a.figures c.requires.1.1)

pub returns-clause-kept : goal.returns-clause-kept
returns-clause-kept c = let a = c.args in
    let p = point_store a.s.now (lent_taking a.store.now a.last_known_shingle.now a.points.now a.labels.now) in
    let fr = c.find_room in
    let tl = c.label_for-label in
    let lr = c.lay_row-row in
    let po = c.place in
    let ti = c.take_index-given in
    let j = c.in_ok-joined.joined in
    let r = rows_in fr.new.s fr.new.store fr.new.location in
    let e : tl.new.s ≡ with_managers (managers_of tl.new.s) (with_extent r.free r.store_length a.s.now) = tl.ensures.rest ∙ ap (with_managers (managers_of tl.new.s)) fr.ensures.rest in
    let f = joined_ok a.s.now r (row_from a.s.now a.last_known_shingle.now a.point.now) _ (sym c.in_ok-joined.was ∙ fr.ensures.answer) in
    let l = label_outcome tl.result (labels_taking (managers_of tl.new.s) tl.new.labels) in
    let i = index_given ti.result.index ti.result.free (point_counts ti.new.manager (points_lent ti.new.points)) ti.new.points.location.now in
    put p a.point.now a.label r fr.ensures.rows tl.new.s j l po.result i lr.new.window lr.new.store lr.result.laid lr.result.start_free_region e f.0 f.1
    (tl.ensures.taken ∙ label_in a.s.now fr.new.s r fr.ensures.rest (lists_taking a.labels.now) a.label)
    po.ensures
    (ti.ensures.given ∙ index_in a.s.now tl.new.s _ r e a.points.now.reference_count.now a.points.now.index_starts.now a.points.now.index_ends.now fr.new.location po.result)
    (lr.ensures.window ∙ window_in a.s.now tl.new.s _ r e a.last_known_shingle.now a.point.now)
    (lr.ensures.store ∙ elements_in a.s.now tl.new.s _ r e j a.last_known_shingle.now a.point.now fr.new.store)
    (lr.ensures.answer.0 ∙ laid_in a.s.now tl.new.s _ r e j)
    (lr.ensures.answer.1 ∙ free_in a.s.now tl.new.s _ r e j)
