-- The ways out of the call.
use Rattle.std.proofs.Common.{rules}
use Rattle.store_definitions.specs.Memory.{point_store}
use Rattle.store_check.specs.Tables.{tables_lowering}
use Rattle.store_counts.specs.CallLaws.{dec_allowed, dec_went, dec_refused}
use Rattle.store_counts.proofs.lower.dec_unchecked.Goals as goal

pub returns-in_err-dec_test-clause-dec : goal.returns-in_err-dec_test-clause-dec
returns-in_err-dec_test-clause-dec c =
    let a = c.args in
    let p = point_store a.s.now (tables_lowering a.floats a.window a.points.now a.labels.now) in
    let refused = dec_refused p a.change.index.0 a.change.label.0 c.requires _ c.dec_test.ensures _ c.in_err-dec_test.was in
    search (rules, refused)

pub dec_accepted-requires : goal.dec_accepted-requires
dec_accepted-requires c =
    let a = c.args in
    let p = point_store a.s.now (tables_lowering a.floats a.window a.points.now a.labels.now) in
    dec_allowed p a.change.index.0 a.change.label.0 c.requires _ c.dec_test.ensures c.in_ok-dec_test.was

pub returns-clause-dec : goal.returns-clause-dec
returns-clause-dec c =
    let a = c.args in
    let p = point_store a.s.now (tables_lowering a.floats a.window a.points.now a.labels.now) in
    dec_went p a.change.index.0 a.change.label.0 c.requires _ c.dec_test.ensures c.in_ok-dec_test.was _ c.dec_accepted.ensures.lowered
