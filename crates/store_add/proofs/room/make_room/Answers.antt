-- As it is, compacted, or grown.
use native.Mathlib.Omega.{arith}
use Prim.Native.Nat.{◌*◌}
use Rattle.std.proofs.Common.{ap, ◌∙◌}
use Rattle.placement_rows.specs.Compactable.{compacted_table}
use Rattle.placement_rows.specs.declared.shape.Shape.{Shape}
use Rattle.store_add.proofs.RoomLaws.{room_is, compact_is, compact_sound, room_compacted, room_grown, grown_fits}
use Rattle.store_add.proofs.room.make_room.Goals as goal

pub returns-then-free-dimensions-clause-rows : goal.returns-then-free-dimensions-clause-rows
returns-then-free-dimensions-clause-rows c = let a = c.args in
    room_is a.s.now a.store.now a.location.now c.if-free-dimensions.true

pub overflow_add-start : goal.overflow_add-start
overflow_add-start c = let a = c.args in
    let pre = c.requires in
    let cp = c.compact-start in
    let h = compact_is a.s.now a.store.now a.location.now cp.new.store cp.new.location cp.result (cp.ensures ∙ ap (λ (h : Shape). compacted_table h.dimensions h.base h.rotation a.s.now.index_manager.capacity a.store.now a.location.now a.s.now.start_free_region) c.new-shape.ensures) in
    let v = compact_sound a.s.now a.store.now a.location.now pre cp.new.store cp.new.location cp.result a.s.now.store_length h in
    omega (arith, v.free_inside, v.store_within, pre.bounds.floats_most, pre.bounds.dims_most)

pub returns-then-start-dimensions-clause-rows : goal.returns-then-start-dimensions-clause-rows
returns-then-start-dimensions-clause-rows c = let a = c.args in
    let cp = c.compact-start in
    let h = compact_is a.s.now a.store.now a.location.now cp.new.store cp.new.location cp.result (cp.ensures ∙ ap (λ (h : Shape). compacted_table h.dimensions h.base h.rotation a.s.now.index_manager.capacity a.store.now a.location.now a.s.now.start_free_region) c.new-shape.ensures) in
    room_compacted a.s.now a.store.now a.location.now c.if-free-dimensions.false cp.new.store cp.new.location cp.result h c.if-start-dimensions.true

pub grow_store-requires : goal.grow_store-requires
grow_store-requires c = let a = c.args in
    let pre = c.requires in
    let g = grown_fits a.s.now.store_length a.s.now.dimensions (a.s.now.capacity * a.s.now.dimensions) c.grown_length-longer.result pre.rows.store_within c.grown_length-longer.ensures in
    (g.0, omega (arith, g.1, pre.rows.floats_lent, c.compact-start.auto.store))

pub returns-clause-rows : goal.returns-clause-rows
returns-clause-rows c = let a = c.args in
    let pre = c.requires in
    let cp = c.compact-start in
    let h = compact_is a.s.now a.store.now a.location.now cp.new.store cp.new.location cp.result (cp.ensures ∙ ap (λ (h : Shape). compacted_table h.dimensions h.base h.rotation a.s.now.index_manager.capacity a.store.now a.location.now a.s.now.start_free_region) c.new-shape.ensures) in
    let g = grown_fits a.s.now.store_length a.s.now.dimensions (a.s.now.capacity * a.s.now.dimensions) c.grown_length-longer.result pre.rows.store_within c.grown_length-longer.ensures in
    let gs = c.grow_store in
    room_grown a.s.now a.store.now a.location.now c.if-free-dimensions.false cp.new.store cp.new.location cp.result h c.if-start-dimensions.false gs.new.store c.grown_length-longer.result c.grown_length-longer.ensures g.0 gs.ensures
