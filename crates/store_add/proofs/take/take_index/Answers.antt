-- Grown if it has to be, and then taken.
use Rattle.store_definitions.specs.Lent.{point_counts, points_lent}
use Rattle.store_add.proofs.TakeLaws.{index_is}
use Rattle.store_add.proofs.take.take_index.Goals as goal

pub returns-clause-given : goal.returns-clause-given
returns-clause-given c = let a = c.args in
    let pre = c.requires in
    let t = point_counts a.manager.now (points_lent a.points.now) in
    let gp = c.grow_points in
    let u = point_counts gp.new.manager (points_lent gp.new.points) in
    index_is a.capacity t a.points.now.location.now a.place u gp.new.points.location.now _ gp.ensures.table gp.ensures.places c.take_next.ensures.given
