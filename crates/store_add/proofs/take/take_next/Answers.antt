-- The manager gives the next index.
use native.Mathlib.Omega.{arith}
use Rattle.store_definitions.specs.Lent.{point_counts, points_lent}
use Rattle.labels.specs.CountedLaws.{capacity_most}
use Rattle.store_add.proofs.TakeLaws.{index_below, placed_is}
use Rattle.store_add.proofs.take.take_next.Goals as goal

pub offset_bounds-points-index : goal.offset_bounds-points-index
offset_bounds-points-index c = let a = c.args in
    let pre = c.requires in
    let t = point_counts a.manager.now (points_lent a.points.now) in
    let gu = c.get_unchecked-given in
    let b = index_below t a.points.now.location.now gu.result.index gu.result.free gu.new.self gu.new.starts a.points.now.index_ends.now gu.ensures a.free pre.0 in
    omega (arith, b, capacity_most a.manager.now.capacity t pre.0.well)

pub bounds-points-index : goal.bounds-points-index
bounds-points-index c = let a = c.args in
    let pre = c.requires in
    let t = point_counts a.manager.now (points_lent a.points.now) in
    let gu = c.get_unchecked-given in
    let b = index_below t a.points.now.location.now gu.result.index gu.result.free gu.new.self gu.new.starts a.points.now.index_ends.now gu.ensures a.free pre.0 in
    omega (arith, b, pre.0.well.lent)

pub offset_bounds-points-index-2 : goal.offset_bounds-points-index-2
offset_bounds-points-index-2 c = let a = c.args in
    let pre = c.requires in
    let t = point_counts a.manager.now (points_lent a.points.now) in
    let gu = c.get_unchecked-given in
    let b = index_below t a.points.now.location.now gu.result.index gu.result.free gu.new.self gu.new.starts a.points.now.index_ends.now gu.ensures a.free pre.0 in
    omega (arith, b, capacity_most a.manager.now.capacity t pre.0.well)

pub bounds-points-index-2 : goal.bounds-points-index-2
bounds-points-index-2 c = let a = c.args in
    let pre = c.requires in
    let t = point_counts a.manager.now (points_lent a.points.now) in
    let gu = c.get_unchecked-given in
    let b = index_below t a.points.now.location.now gu.result.index gu.result.free gu.new.self gu.new.starts a.points.now.index_ends.now gu.ensures a.free pre.0 in
    omega (arith, b, pre.0.places_lent)

pub returns-clause-given : goal.returns-clause-given
returns-clause-given c = let a = c.args in
    let pre = c.requires in
    let t = point_counts a.manager.now (points_lent a.points.now) in
    let gu = c.get_unchecked-given in
    placed_is t a.points.now.location.now gu.result.index gu.result.free gu.new.self gu.new.starts a.points.now.index_ends.now gu.ensures a.place
