-- The ways out of a pair.
use Rattle.std.proofs.Common.{rules}
use Rattle.store_definitions.specs.Memory.{point_store}
use Rattle.store_check.specs.Tables.{tables_lowering}
use Rattle.store_adjust.specs.Pairs.{pairing_of}
use Rattle.store_adjust.specs.PairLaws.{skipped, pair_allowed, pair_went, pair_refused}
use Rattle.store_adjust.proofs.pair.adjust_pair.Goals as goal

pub returns-then-pair-eq-NONE-clause-done : goal.returns-then-pair-eq-NONE-clause-done
returns-then-pair-eq-NONE-clause-done c =
    let a = c.args in
    let p = point_store a.s.now (tables_lowering a.floats a.window a.points.now a.labels.now) in
    skipped p (pairing_of a.pair) c.if-pair-eq-NONE.true

pub returns-in_err-pair_test-clause-done : goal.returns-in_err-pair_test-clause-done
returns-in_err-pair_test-clause-done c =
    let a = c.args in
    let p = point_store a.s.now (tables_lowering a.floats a.window a.points.now a.labels.now) in
    let refused = pair_refused p (pairing_of a.pair) c.if-pair-eq-NONE.false _ c.pair_test.ensures _ c.in_err-pair_test.was in
    search (rules, refused)

pub pair_accepted-requires : goal.pair_accepted-requires
pair_accepted-requires c =
    let a = c.args in
    let p = point_store a.s.now (tables_lowering a.floats a.window a.points.now a.labels.now) in
    pair_allowed p (pairing_of a.pair) c.if-pair-eq-NONE.false _ c.pair_test.ensures c.requires c.in_ok-pair_test.was

pub returns-clause-done : goal.returns-clause-done
returns-clause-done c =
    let a = c.args in
    let p = point_store a.s.now (tables_lowering a.floats a.window a.points.now a.labels.now) in
    pair_went p (pairing_of a.pair) c.if-pair-eq-NONE.false _ c.pair_test.ensures c.in_ok-pair_test.was _ c.pair_accepted.ensures.done
