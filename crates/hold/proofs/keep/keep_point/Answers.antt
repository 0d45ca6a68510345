-- By how many are held.
use Rattle.std.specs.Prelude.{length, get_or}
use Rattle.store_definitions.specs.Memory.{point_store}
use Rattle.labels.specs.Lent.{lists_writing}
use Rattle.store_definitions.specs.Lent.{lent_writing, points_lent}
use Rattle.store_check.specs.Tables.{tables_of}
use Rattle.store_counts.specs.Elements.{refilled}
use Rattle.hold_definitions.specs.Lent.{hold_memory}
use Rattle.hold_definitions.specs.Memory.{point_hold}
use Rattle.hold.specs.Keeping.{oldest_label_in, kept_more, kept_full}
use Rattle.hold.specs.GivingUp.{dec_ready, dec_filled}
use Rattle.hold.proofs.keep.keep_point.Goals as goal

pub returns-then-h-clause-kept : goal.returns-then-h-clause-kept
returns-then-h-clause-kept c =
    let a = c.args in
    let h = point_hold a.h.now (hold_memory (lent_writing a.store.now a.last_known_shingle.now a.points.now a.labels.now) a.held_indices.now a.held_labels.now) in
    let b = c.push_both in
    kept_more a.kept h c.requires c.if-h.true b.new.held_indices b.new.held_labels b.ensures.0 b.ensures.1

pub lower-requires : goal.lower-requires
lower-requires c =
    let a = c.args in
    let h = point_hold a.h.now (hold_memory (lent_writing a.store.now a.last_known_shingle.now a.points.now a.labels.now) a.held_indices.now a.held_labels.now) in
    dec_ready a.kept h c.requires c.if-h.false c.oldest_label.result c.oldest_label.ensures

pub returns-clause-kept : goal.returns-clause-kept
returns-clause-kept c =
    let a = c.args in
    let h = point_hold a.h.now (hold_memory (lent_writing a.store.now a.last_known_shingle.now a.points.now a.labels.now) a.held_indices.now a.held_labels.now) in
    let n = c.lower.new in
    let b = c.slide_both in
    let p = point_store n.s (tables_of (length a.store.now) (length a.last_known_shingle.now) (points_lent n.points) (lists_writing n.labels)) in
    kept_full a.kept h c.requires c.if-h.false (refilled a.store.now a.last_known_shingle.now p) (dec_filled a.h.now.store h.memory.store p (get_or a.held_indices.now 0 0) c.oldest_label.result (oldest_label_in h) c.lower.ensures.lowered c.oldest_label.ensures) b.new.held_indices b.new.held_labels b.ensures.0 b.ensures.1
