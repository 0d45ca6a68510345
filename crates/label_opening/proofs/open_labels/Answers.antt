-- Each table is cleared, and each manager opened.
use Rattle.std.proofs.Common.{◌≡◌, ◌++◌, drop, rules}
use Rattle.labels.specs.Lent.{labels_writing}
use Rattle.labels.specs.Opening.{cleared}
use Rattle.label_opening.specs.OpeningLaws.{may_open, table_is, opened_is}
use Rattle.label_opening.proofs.open_labels.Goals as goal

pub new_unchecked-label_manager-requires : goal.new_unchecked-label_manager-requires
new_unchecked-label_manager-requires c = may_open _ _ _ c.requires.label_manager_lem

pub new_unchecked-attribute_manager-requires : goal.new_unchecked-attribute_manager-requires
new_unchecked-attribute_manager-requires c = may_open _ _ _ c.requires.slot_manager

pub returns-clause-opened : goal.returns-clause-opened
returns-clause-opened c =
    let a = c.args in
    let first = c.new_unchecked-label_manager in
    let second = c.new_unchecked-attribute_manager in
    let l = labels_writing (record { label_manager = first.result; attribute_manager = second.result }) a.labels.now in
    let labels : c.fill.new.self ++ drop a.capacity a.labels.now.labels.now ≡ cleared a.capacity a.labels.now.labels.now = search rules in
    let slots : c.fill-2.new.self ++ drop a.capacity a.labels.now.label_attributes.now ≡ cleared a.capacity a.labels.now.label_attributes.now = search rules in
    let counts : c.fill-3.new.self ++ drop a.capacity a.labels.now.label_count.now ≡ cleared a.capacity a.labels.now.label_count.now = search rules in
    let classes : c.fill-4.new.self ++ drop a.capacity a.labels.now.attributes.now ≡ cleared a.capacity a.labels.now.attributes.now = search rules in
    let slot_counts : c.fill-5.new.self ++ drop a.capacity a.labels.now.attribute_count.now ≡ cleared a.capacity a.labels.now.attribute_count.now = search rules in
    opened_is a.capacity l _ _ _ _ _ labels slots
    (table_is a.capacity l.label_table first.result _ first.new.starts first.new.ends c.requires.label_manager_lem first.ensures counts)
    classes
    (table_is a.capacity l.attribute_table second.result _ second.new.starts second.new.ends c.requires.slot_manager second.ensures slot_counts)
