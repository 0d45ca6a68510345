-- The store's add, and then the list.
use Rattle.std.proofs.Common.{ap, ◌∙◌}
use Rattle.std.specs.Prelude.{Ok}
use Rattle.float_bits.specs.Words.{words_equal}
use Rattle.store_definitions.specs.Lent.{lent_writing}
use Rattle.store_definitions.specs.Memory.{point_store}
use Rattle.hold_definitions.specs.Lent.{hold_memory}
use Rattle.hold_definitions.specs.Memory.{point_hold}
use Rattle.hold_definitions.proofs.Sound.{hold_sound}
use Rattle.hold.specs.Keeping.{added_ready, added_kept}
use Rattle.hold.proofs.add_checked.Goals as goal

pub add_to_store-requires : goal.add_to_store-requires
add_to_store-requires c =
    let a = c.args in
    let h = point_hold a.h.now (hold_memory (lent_writing a.store.now a.last_known_shingle.now a.points.now a.labels.now) a.held_indices.now a.held_labels.now) in
    ((hold_sound h c.requires.0).well, c.requires.1)

pub keep_point-requires : goal.keep_point-requires
keep_point-requires c =
    let a = c.args in
    let h = point_hold a.h.now (hold_memory (lent_writing a.store.now a.last_known_shingle.now a.points.now a.labels.now) a.held_indices.now a.held_labels.now) in
    let u = c.add_to_store.new in
    let q = point_store u.s (lent_writing u.store u.last_known_shingle u.points u.labels) in
    added_ready words_equal 0 h a.point.now a.label c.add_to_store.result q c.add_to_store.ensures.added c.requires.0 _ (c.in_ok-added.was ∙ ap Ok c.in-Some.is)

pub returns-clause-added : goal.returns-clause-added
returns-clause-added c =
    let a = c.args in
    let h = point_hold a.h.now (hold_memory (lent_writing a.store.now a.last_known_shingle.now a.points.now a.labels.now) a.held_indices.now a.held_labels.now) in
    let u = c.add_to_store.new in
    let q = point_store u.s (lent_writing u.store u.last_known_shingle u.points u.labels) in
    let k = c.keep_point.new in
    added_kept words_equal 0 h a.point.now a.label c.add_to_store.result q c.add_to_store.ensures.added _ (c.in_ok-added.was ∙ ap Ok c.in-Some.is) (point_hold k.h (hold_memory (lent_writing u.store u.last_known_shingle k.points k.labels) k.held_indices k.held_labels)) c.keep_point.ensures.kept
