-- What the store's dec ensures, carried to the record and the return value.
use mathlib.Core.List.{[], ◌∷◌}
use Rattle.std.proofs.Common.{rules}
use Rattle.point_store_c.proofs.ExportedStoreLaws.{call_read}
use Rattle.point_store_c.proofs.counts.ps_dec.Goals as goal

pub returns : goal.returns
returns c =
    let a = c.args in
    let o = c.done_number in
    let carried = call_read c.dec-answer.ensures.dec a.words.now [] [] o.result o.ensures in
    search (rules, carried)
