-- The row that is laid is the moved window, or the point.
use mathlib.Core.Path.{refl, ◌∙◌, ap}
use lib.ListN.{length}
use Rattle.placement.specs.Laying.{laid_elements}
use Rattle.store_definitions.specs.Parts.{base_of}
use Rattle.store_add.proofs.RoomLaws.{row_sized, row_after, row_length, lay_asks}
use Rattle.store_add.proofs.lay.lay_row.Goals as goal

pub row-laid-requires : goal.row-laid-requires
row-laid-requires c = let a = c.args in
    let pre = c.requires in
    let sw = c.shift_window in
    row_sized a.s a.window.now a.point.now pre.0 sw.new.window sw.ensures

pub lay-requires : goal.lay-requires
lay-requires c = let a = c.args in
    let pre = c.requires in
    let sw = c.shift_window in
    let ro = c.row-laid in
    let e = ro.ensures ∙ row_after a.s a.window.now a.point.now pre.0 sw.new.window sw.ensures in
    rw c.base-base.ensures (lay_asks a.s.dimensions (base_of a.s) a.joined a.start_free_region (length a.store.now) (length ro.result.now) pre.1 (ap length e ∙ row_length a.s a.window.now a.point.now pre.0))

pub returns : goal.returns
returns c = let a = c.args in
    let pre = c.requires in
    let sw = c.shift_window in
    let ro = c.row-laid in
    let e = ro.ensures ∙ row_after a.s a.window.now a.point.now pre.0 sw.new.window sw.ensures in
    let la = c.lay in
    record { window = sw.ensures; store = la.ensures.elements ∙ rw c.base-base.ensures (ap (laid_elements a.s.dimensions (base_of a.s) a.joined a.start_free_region a.store.now) e); answer = (la.ensures.answer.0 ∙ rw c.base-base.ensures refl, la.ensures.answer.1 ∙ rw c.base-base.ensures refl) }
