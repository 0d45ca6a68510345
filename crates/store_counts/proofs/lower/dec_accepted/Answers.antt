-- The point, and with labels on the label.
use Rattle.store_definitions.specs.Memory.{point_store}
use Rattle.store_check.specs.Tables.{tables_lowering}
use Rattle.store_counts.specs.CallLaws.{dec_point_ready, dec_label_ready, dec_on, dec_off}
use Rattle.store_counts.proofs.lower.dec_accepted.Goals as goal

pub lower_point-requires : goal.lower_point-requires
lower_point-requires c =
    let a = c.args in
    let p = point_store a.s.now (tables_lowering a.floats a.window a.points.now a.labels.now) in
    dec_point_ready p c.requires.0 a.change.index.0 a.change.label.0 c.requires.1

pub dec_label-requires : goal.dec_label-requires
dec_label-requires c =
    let a = c.args in
    let p = point_store a.s.now (tables_lowering a.floats a.window a.points.now a.labels.now) in
    dec_label_ready p c.requires.0 a.change.index.0 a.change.label.0 c.requires.1 c.if-s.true

pub returns-then-s-clause-lowered : goal.returns-then-s-clause-lowered
returns-then-s-clause-lowered c =
    let a = c.args in
    let p = point_store a.s.now (tables_lowering a.floats a.window a.points.now a.labels.now) in
    dec_on p a.change.index.0 a.change.label.0 _ c.lower_point.ensures.counts _ c.lower_point.ensures.places c.if-s.true _ c.dec_label.ensures.lowered

pub returns-else-s-clause-lowered : goal.returns-else-s-clause-lowered
returns-else-s-clause-lowered c =
    let a = c.args in
    let p = point_store a.s.now (tables_lowering a.floats a.window a.points.now a.labels.now) in
    dec_off p a.change.index.0 a.change.label.0 _ c.lower_point.ensures.counts _ c.lower_point.ensures.places c.if-s.false
