-- The ways out of the call.
use Rattle.std.proofs.Common.{rules}
use Rattle.store_definitions.specs.Memory.{point_store}
use Rattle.store_check.specs.Tables.{tables_raising}
use Rattle.store_counts.specs.CallLaws.{inc_goes, inc_raisable, inc_done, inc_went, inc_refused}
use Rattle.store_counts.proofs.raise.inc_unchecked.Goals as goal

pub returns-in_err-inc_test-clause-inc : goal.returns-in_err-inc_test-clause-inc
returns-in_err-inc_test-clause-inc c =
    let a = c.args in
    let p = point_store a.s (tables_raising a.floats a.window a.points.now a.labels.now) in
    let refused = inc_refused p a.change.index.0 a.change.label.0 c.requires _ c.inc_test.ensures _ c.in_err-inc_test.was in
    search (rules, refused)

pub inc_accepted-requires : goal.inc_accepted-requires
inc_accepted-requires c =
    let a = c.args in
    let p = point_store a.s (tables_raising a.floats a.window a.points.now a.labels.now) in
    inc_raisable p c.requires a.change.index.0 a.change.label.0 (inc_goes p a.change.index.0 a.change.label.0 c.requires _ c.inc_test.ensures c.in_ok-inc_test.was)

pub returns-clause-inc : goal.returns-clause-inc
returns-clause-inc c =
    let a = c.args in
    let p = point_store a.s (tables_raising a.floats a.window a.points.now a.labels.now) in
    inc_went p a.change.index.0 a.change.label.0 c.requires _ c.inc_test.ensures c.in_ok-inc_test.was _
    (inc_done p a.change.index.0 a.change.label.0 _ _ _ c.inc_accepted.ensures.points c.inc_accepted.ensures.labels c.inc_accepted.ensures.slots)
