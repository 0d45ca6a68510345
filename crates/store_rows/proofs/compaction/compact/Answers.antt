-- The check decides: a store that passes it is compacted as `Compacting` says.
use Rattle.std.proofs.Common.{rules, sym, ◌∙◌}
use Rattle.terms.specs.declared.Refusal.{Refusal}
use Rattle.store_definitions.specs.Lent.{held}
use Rattle.store_definitions.specs.Memory.{point_store}
use Rattle.store_check.specs.Checked.{lent_passed, lent_failed}
use Rattle.store_laws.specs.IllFormedLaws.{compact_ill}
use Rattle.store_rows.specs.Compacting.{rows_ready, compact_done}
use Rattle.store_rows.proofs.compaction.compact.Goals as goal

pub compact_unchecked-requires : goal.compact_unchecked-requires
compact_unchecked-requires c =
    let a = c.args in
    let m = held a.store.now a.last_known_shingle.now a.reference_count.now a.location.now a.index_starts.now a.index_ends.now a.labels.now a.label_attributes.now a.label_count.now a.label_starts.now a.label_ends.now a.attributes.now a.attribute_count.now a.attribute_starts.now a.attribute_ends.now in
    rows_ready (point_store a.s.now m) (lent_passed a.s.now m c.new-tables.result c.check.result Refusal.IllFormed (c.new-tables.ensures a.store.now a.last_known_shingle.now) c.check.ensures _ (sym c.ok_or.ensures.value ∙ c.in_ok-ok_or.was)).0

pub returns : goal.returns
returns c =
    let a = c.args in
    let m = held a.store.now a.last_known_shingle.now a.reference_count.now a.location.now a.index_starts.now a.index_ends.now a.labels.now a.label_attributes.now a.label_count.now a.label_starts.now a.label_ends.now a.attributes.now a.attribute_count.now a.attribute_starts.now a.attribute_ends.now in
    let g = c.compact_unchecked in
    compact_done (point_store a.s.now m) g.new.s g.new.store g.new.location (lent_passed a.s.now m c.new-tables.result c.check.result Refusal.IllFormed (c.new-tables.ensures a.store.now a.last_known_shingle.now) c.check.ensures _ (sym c.ok_or.ensures.value ∙ c.in_ok-ok_or.was)).0 g.ensures

pub returns-in_err-ok_or : goal.returns-in_err-ok_or
returns-in_err-ok_or c =
    let a = c.args in
    let m = held a.store.now a.last_known_shingle.now a.reference_count.now a.location.now a.index_starts.now a.index_ends.now a.labels.now a.label_attributes.now a.label_count.now a.label_starts.now a.label_ends.now a.attributes.now a.attribute_count.now a.attribute_starts.now a.attribute_ends.now in
    let ill = lent_failed a.s.now m c.new-tables.result c.check.result Refusal.IllFormed (c.new-tables.ensures a.store.now a.last_known_shingle.now) c.check.ensures _ (sym c.ok_or.ensures.value ∙ c.in_err-ok_or.was) in
    let refused = compact_ill (point_store a.s.now m) ill.0 0 in
    search (rules, refused)
