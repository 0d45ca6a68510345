-- Grown where no index is free, and else as it is.
use native.Mathlib.Omega.{arith}
use Rattle.std.proofs.Common.{rules}
use Rattle.store_definitions.specs.Lent.{point_counts, points_lent}
use Rattle.store_add.proofs.RoomLaws.{grown_fits}
use Rattle.store_add.proofs.TakeLaws.{change_asks, grown_is, grown_not}
use Rattle.store_add.proofs.take.grow_points.Goals as goal

pub grow_table-requires : goal.grow_table-requires
grow_table-requires c = let a = c.args in
    let pre = c.requires in
    let g = grown_fits a.manager.now.capacity 1 a.capacity c.grown_length-new.result pre.within c.grown_length-new.ensures in
    (g.0, omega (arith, g.1, pre.counts_lent), omega (arith, g.1, pre.places_lent))

pub change_capacity_unchecked-requires : goal.change_capacity_unchecked-requires
change_capacity_unchecked-requires c = let a = c.args in
    let pre = c.requires in
    let t = point_counts a.manager.now (points_lent a.points.now) in
    let g = grown_fits a.manager.now.capacity 1 a.capacity c.grown_length-new.result pre.within c.grown_length-new.ensures in
    change_asks a.capacity t a.points.now.location.now pre c.grown_length-new.result g.1

pub returns-then-manager-eq0 : goal.returns-then-manager-eq0
returns-then-manager-eq0 c = let a = c.args in
    let pre = c.requires in
    let t = point_counts a.manager.now (points_lent a.points.now) in
    let g = grown_fits a.manager.now.capacity 1 a.capacity c.grown_length-new.result pre.within c.grown_length-new.ensures in
    let gt = c.grow_table in
    let ch = c.change_capacity_unchecked in
    let e = grown_is a.capacity t a.points.now.location.now c.if-manager-eq0.true c.grown_length-new.result c.grown_length-new.ensures g.0 gt.new.reference_count gt.new.location gt.ensures.counts gt.ensures.places ch.new.self ch.new.starts ch.new.ends ch.ensures in
    record { same = search rules; table = e.0; places = e.1; lent = search rules }

pub returns-else-manager-eq0 : goal.returns-else-manager-eq0
returns-else-manager-eq0 c = let a = c.args in
    let pre = c.requires in
    let t = point_counts a.manager.now (points_lent a.points.now) in
    let e = grown_not a.capacity t a.points.now.location.now c.if-manager-eq0.false in
    record { same = search rules; table = e.0; places = e.1; lent = search rules }
