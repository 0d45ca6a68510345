-- What the store's inc ensures, carried to the return value. It leaves the record.
use mathlib.Core.List.{[]}
use Rattle.std.proofs.Common.{rules}
use Rattle.store_definitions.specs.Answers.{done_means}
use Rattle.store_definitions.specs.Counting.{inc_spec}
use Rattle.store_definitions.specs.Lent.{memory, points_raising}
use Rattle.store_definitions.specs.Memory.{point_store}
use Rattle.labels.specs.Lent.{lists_raising}
use Rattle.point_store_c.proofs.ExportedStoreLaws.{call_kept, inc_keeps}
use Rattle.point_store_c.proofs.counts.ps_inc.Goals as goal

pub returns : goal.returns
returns c =
    let a = c.args in
    let i = c.store_in-s in
    let g = c.inc-answer in
    let m = memory a.store.now a.last_known_shingle.now (record { reference_count = a.reference_count.now; location = a.location.now; index_starts = a.index_starts.now; index_ends = a.index_ends.now }) (record { labels = a.labels.now; label_attributes = a.label_attributes.now; label_count = a.label_count.now; label_starts = a.label_starts.now; label_ends = a.label_ends.now; attributes = a.attributes.now; attribute_count = a.attribute_count.now; attribute_starts = a.attribute_starts.now; attribute_ends = a.attribute_ends.now }) in
    let kept = call_kept a.words.now m i.result i.ensures
    (λ p. inc_spec p a.index a.label) (done_means g.result) i.result
    (memory a.store.now a.last_known_shingle.now (points_raising g.new.points) (lists_raising g.new.labels)) g.ensures.inc
    [] [] c.done_number.result (inc_keeps (point_store i.result m) a.index a.label) c.done_number.ensures in
    search (rules, kept)
