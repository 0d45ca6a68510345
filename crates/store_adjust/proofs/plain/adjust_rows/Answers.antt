-- A turn is one row, the pair that it makes.
use Rattle.std.proofs.Common.{rules, sym, ◌∙◌}
use mathlib.Core.Path.{ap}
use Rattle.store_definitions.specs.Answers.{done_means}
use Rattle.store_definitions.specs.Counting.{adjust_spec}
use Rattle.store_adjust.specs.Pairs.{pairing_of, pair_spec}
use Rattle.store_adjust.specs.Run.{start, stop, next, finish}
use Rattle.store_adjust.specs.RowRun.{row_as_pair, rows_as_pairs, as_long}
use Rattle.store_adjust.proofs.plain.adjust_rows.Goals as goal

pub loop-i-init : goal.loop-i-init
loop-i-init c = (search rules, start _ _ c.requires)

pub returns-in-Err-clause-adjusted : goal.returns-in-Err-clause-adjusted
returns-in-Err-clause-adjusted c =
    let rows = c.args.pairs.now in
    let paired = c.adjust_pair-adjusted.ensures.done ∙ ap (pair_spec _) (c.pair_of_row.ensures ∙ ap pairing_of (sym (row_as_pair rows c.loop-i.i))) in
    stop _ _ _ _ c.loop-i.invariant.1 (rw (as_long rows) c.loop-i-test.true) _ paired _ (ap done_means c.in-Err.is)
    ∙ ap (adjust_spec _) (rows_as_pairs rows)

pub loop-i-preserved : goal.loop-i-preserved
loop-i-preserved c =
    let rows = c.args.pairs.now in
    let paired = c.adjust_pair-adjusted.ensures.done ∙ ap (pair_spec _) (c.pair_of_row.ensures ∙ ap pairing_of (sym (row_as_pair rows c.loop-i.i))) in
    (search rules, next _ _ _ _ c.loop-i.invariant.1 (rw (as_long rows) c.loop-i-test.true) _ paired (ap done_means c.in_default.is))

pub returns-clause-adjusted : goal.returns-clause-adjusted
returns-clause-adjusted c =
    let rows = c.args.pairs.now in
    finish _ _ _ _ c.loop-i.invariant.1 (rw (as_long rows) c.loop-i-test.false) ∙ ap (adjust_spec _) (rows_as_pairs rows)
