-- What the hold's add ensures, carried to the record, the lent numbers and the return value.
use mathlib.Core.List.{[], ◌∷◌}
use Rattle.std.proofs.Common.{rules}
use Rattle.point_store_c.proofs.ExportedHoldLaws.{hold_call_read}
use Rattle.point_store_c.proofs.hold_calls.ps_hold_add.Goals as goal

pub returns : goal.returns
returns c =
    let a = c.args in
    let o = c.added_out in
    let carried = hold_call_read c.add-answer.ensures.added a.words.now (a.kept.now ∷ a.index.now ∷ a.label_index.now ∷ a.joined.now ∷ a.place.now ∷ a.free_indices.now ∷ []) (o.new.kept ∷ o.new.index ∷ o.new.label_index ∷ o.new.joined ∷ o.new.place ∷ o.new.free_indices ∷ []) o.result o.ensures in
    search (rules, carried)
