-- Small examples, computed: two labels of one class share a slot; a slot whose count reaches 0 is released and given to
-- another class, and the first class then gets another slot.
use Rattle.std.specs.Prelude.{ℕ, List, [], ◌∷◌, true, false, ◌≡◌, refl}
use Rattle.terms.specs.Below.{every_below, sum_below}
use Rattle.terms.specs.Search.{first_below}
use Rattle.interval_store_manager.specs.Intervals.{inside, holders, is_free, in_bounds, none_shared}
use Rattle.interval_store_manager.specs.WellFormed.{capacity_allowed, lent_enough, well_formed}
use Rattle.interval_store_manager.specs.Calls.{manager, taken, released}
use Rattle.labels.specs.Counted.{counted, managed, free_uncounted, counts_fit, index_taken, raised, lowered}
use Rattle.labels.specs.Labels.{Labels, LabelTaken, holds_class, class_slot, slot_taken, label_taken, label_lowered, slot_sum, differ, tables_lent, codes_allowed, slots_hold_classes, classes_distinct, slots_summed, labels_well}
use Rattle.labels.specs.Opening.{labels_opened}
use Rattle.labels.specs.AnswerLaws.{code_answer, class_answer}
use Rattle.labels.specs.Decisions.{in_use}
use Rattle.labels.specs.Readings.{holds, refused, label_spec, attribute_spec}

-- two entries with anything in them
some : List ℕ
some = 7 ∷ 8 ∷ []

fresh : Labels
fresh =
    labels_opened 2
    (record {
      labels = some;
      label_attributes = some;
      label_table = counted (manager 0 0) some some some;
      attributes = some;
      attribute_table = counted (manager 0 0) some some some;
    })

-- the classes of codes 0 to 3
table : List ℕ
table = 0 ∷ 0 ∷ 0 ∷ 1 ∷ []

add : Labels → ℕ → LabelTaken
add l code = label_taken table 2 l code

-- codes 0 and 2 are of class 0: one slot with count 2
sharing : Labels
sharing = (add (add fresh 0).after 2).after

-- code 0 given up, then codes 3 and 0 of classes 1 and 0: the slot goes to class 1, and class 0 gets the other
moved : Labels
moved = (add (add (label_lowered (add fresh 0).after 0) 3).after 0).after

shared_slot : (sharing.label_attributes ≡ 0 ∷ 0 ∷ []) × (sharing.attribute_table.counts ≡ 2 ∷ 0 ∷ [])
unfolding some fresh add sharing labels_opened label_taken slot_taken class_slot holds_class first_below raised index_taken taken table
shared_slot = (refl, refl)

shared_well : labels_well table 2 sharing ≡ true
unfolding some fresh add sharing labels_opened label_taken slot_taken class_slot holds_class first_below raised index_taken taken table labels_well managed free_uncounted counts_fit well_formed capacity_allowed lent_enough in_bounds none_shared holders inside is_free every_below sum_below slot_sum tables_lent codes_allowed slots_hold_classes classes_distinct slots_summed differ
shared_well = refl

-- a slot's count that is not the sum of its labels' counts
uncounted : labels_well table 2 (record { labels = sharing.labels; label_attributes = sharing.label_attributes; label_table = sharing.label_table; attributes = sharing.attributes; attribute_table = raised sharing.attribute_table 0 }) ≡ false
unfolding some fresh add sharing labels_opened label_taken slot_taken class_slot holds_class first_below raised index_taken taken table labels_well managed free_uncounted counts_fit well_formed capacity_allowed lent_enough in_bounds none_shared holders inside is_free every_below sum_below slot_sum tables_lent codes_allowed slots_hold_classes classes_distinct slots_summed differ
uncounted = refl

moved_slots : (moved.label_attributes ≡ 0 ∷ 1 ∷ []) × (moved.attributes ≡ 1 ∷ 0 ∷ [])
unfolding some fresh add moved labels_opened label_taken label_lowered lowered released slot_taken class_slot holds_class first_below raised index_taken taken table
moved_slots = (refl, refl)

moved_answers : (class_answer 2 moved 1 ≡ holds 0) × ((code_answer 2 moved 0 ≡ holds 3) × (code_answer 2 moved 2 ≡ refused 6))
unfolding some fresh add moved labels_opened label_taken label_lowered lowered released slot_taken class_slot holds_class first_below raised index_taken taken table attribute_spec label_spec in_use
moved_answers = (refl, (refl, refl))
