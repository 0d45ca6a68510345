-- What the product's set ensures, carried to the record, the lent numbers and the return value.
use mathlib.Core.List.{[], ◌∷◌}
use Rattle.std.proofs.Common.{rules}
use Rattle.point_store_c.proofs.ExportedProbesLaws.{probes_call_read}
use Rattle.point_store_c.proofs.probes_calls.ps_probes_set.Goals as goal

pub returns : goal.returns
returns c =
    let a = c.args in
    let o = c.added_out in
    let carried = probes_call_read c.set_words-answer.ensures.set a.words.now (a.kept.now ∷ a.index.now ∷ a.label_index.now ∷ a.joined.now ∷ a.place.now ∷ a.free_indices.now ∷ []) (o.new.kept ∷ o.new.index ∷ o.new.label_index ∷ o.new.joined ∷ o.new.place ∷ o.new.free_indices ∷ []) o.result o.ensures in
    search (rules, carried)
