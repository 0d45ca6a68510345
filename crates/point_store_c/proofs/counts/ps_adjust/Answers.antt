-- What the store's adjust ensures, carried to the record, the number of pairs and the return value.
use mathlib.Core.List.{[], ◌∷◌}
use Rattle.std.proofs.Common.{rules}
use Rattle.point_store_c.proofs.ExportedStoreLaws.{call_read}
use Rattle.point_store_c.proofs.counts.ps_adjust.Goals as goal

pub returns : goal.returns
returns c =
    let a = c.args in
    let o = c.adjusted_out in
    let carried = call_read c.adjust_count-answer.ensures.adjusted a.words.now (a.pairs_before.now ∷ []) (o.new.pairs_before ∷ []) o.result o.ensures in
    search (rules, carried)
