-- The inc has decided of the dec.
use Rattle.store_definitions.specs.Memory.{point_store}
use Rattle.store_check.specs.Tables.{tables_lowering}
use Rattle.store_counts.specs.CallLaws.{inc_raisable, inc_done}
use Rattle.store_adjust.specs.Pairs.{pairing_of}
use Rattle.store_adjust.specs.PairLaws.{pair_inc, pair_dec_ready, pair_alone, pair_both}
use Rattle.store_adjust.proofs.pair.pair_accepted.Goals as goal

pub inc_accepted-requires : goal.inc_accepted-requires
inc_accepted-requires c =
    let a = c.args in
    let p = point_store a.s.now (tables_lowering a.floats a.window a.points.now a.labels.now) in
    inc_raisable p c.requires.0 a.pair.insert.index.0 a.pair.insert.label.0 (pair_inc p (pairing_of a.pair) c.requires.1)

pub dec_accepted-requires : goal.dec_accepted-requires
dec_accepted-requires c =
    let a = c.args in
    let p = point_store a.s.now (tables_lowering a.floats a.window a.points.now a.labels.now) in
    let raised = inc_done p a.pair.insert.index.0 a.pair.insert.label.0 _ _ _ c.inc_accepted.ensures.points c.inc_accepted.ensures.labels c.inc_accepted.ensures.slots in
    pair_dec_ready p _ _ _ _ c.requires _ raised c.if-pair-ne-NONE.true

pub returns-then-pair-ne-NONE-clause-done : goal.returns-then-pair-ne-NONE-clause-done
returns-then-pair-ne-NONE-clause-done c =
    let a = c.args in
    let p = point_store a.s.now (tables_lowering a.floats a.window a.points.now a.labels.now) in
    let raised = inc_done p a.pair.insert.index.0 a.pair.insert.label.0 _ _ _ c.inc_accepted.ensures.points c.inc_accepted.ensures.labels c.inc_accepted.ensures.slots in
    pair_both p (pairing_of a.pair) c.if-pair-ne-NONE.true _ _ raised c.dec_accepted.ensures.lowered

pub returns-else-pair-ne-NONE-clause-done : goal.returns-else-pair-ne-NONE-clause-done
returns-else-pair-ne-NONE-clause-done c =
    let a = c.args in
    let p = point_store a.s.now (tables_lowering a.floats a.window a.points.now a.labels.now) in
    let raised = inc_done p a.pair.insert.index.0 a.pair.insert.label.0 _ _ _ c.inc_accepted.ensures.points c.inc_accepted.ensures.labels c.inc_accepted.ensures.slots in
    pair_alone p (pairing_of a.pair) c.if-pair-ne-NONE.false _ raised
