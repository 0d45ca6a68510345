-- Document 02, Point 6, computed: a store opened with a table whose classes fall, and texts with which nothing is opened.
use Rattle.std.specs.Prelude.{ℕ, true, false, List, [], ◌∷◌, ◌≡◌, refl, drop, replicate}
use Rattle.terms.specs.Below.{every_below, sum_below, count_below}
use Rattle.terms.specs.Rows.{all_equal}
use Rattle.terms.specs.Search.{first_below}
use Rattle.float_bits.specs.Words.{words_equal}
use Rattle.decimal.specs.Field.{column, columns, field, digit, value_from}
use Rattle.decimal.specs.Lines.{fields, line, lines}
use Rattle.class_table.specs.Reasons.{reason_classes}
use Rattle.class_table.specs.Table.{some_below, largest_below, table_allowed}
use Rattle.class_table.specs.Text.{numbered, table_text, classes_of, table_read}
use Rattle.interval_store_manager.specs.Calls.{pushed, changed, taken, released}
use Rattle.interval_store_manager.specs.Intervals.{inside, holders, is_free, free_number, in_bounds, none_shared}
use Rattle.interval_store_manager.specs.WellFormed.{capacity_allowed, lent_enough as stack_lent, well_formed as manager_well_formed}
use Rattle.placement.specs.Growth.{grown}
use Rattle.placement.specs.Laying.{written_count, laid_as, laid_elements, laid_free, place_of}
use Rattle.placement.specs.Overlap.{overlaps}
use Rattle.placement.specs.Row.{row_to_lay, moved_window}
use Rattle.labels.specs.Counted.{managed, free_uncounted, counts_fit, index_taken, raised, lowered, live_number}
use Rattle.labels.specs.Decisions.{code_decided, room_decided, in_use}
use Rattle.labels.specs.Labels.{labels_well, differ, slot_sum, label_taken, slot_taken, class_slot, holds_class, tables_lent, codes_allowed, slots_hold_classes, classes_distinct, slots_summed}
use Rattle.labels.specs.Opening.{labels_opened}
use Rattle.labels.specs.Readings.{attribute_spec as attribute_read}
use Rattle.store_definitions.specs.declared.Shape.{Shape}
use Rattle.store_definitions.specs.Memory.{Memory, PointStore, point_store}
use Rattle.store_definitions.specs.Answers.{is, refused, Answer, outcome}
use Rattle.store_definitions.specs.Opening.{no_record, fresh_with, opened_memory, opened, open_decided, open_spec}
use Rattle.store_definitions.specs.Counting.{live_number_spec}
use Rattle.store_definitions.specs.LabelReadings.{attribute_spec}
use Rattle.store_definitions.specs.Rows.{compacted_rows, grown_rows, short, room_made}
use Rattle.store_definitions.specs.Adding.{point_length, waits, table_full, entries_filled, add_decided, window_after, sequenced, row_of, label_given, labelled, table_grown, placed, joins, overflows, laid_rows, laid_how, kept_after, index_given, free_left, keeps, add_spec}
use Rattle.store_definitions.specs.Bounds.{bounds_hold, start_allowed, rotation_allowed, labels_lent, lent_enough}
use Rattle.store_definitions.specs.Decisions.{form_decided}
use Rattle.store_definitions.specs.WellFormed.{table_length_well, store_length_well, free_start_well, empty_uncounted, places_distinct, places_end, sequence_well, well_formed}

-- dimensions 1, shingle size 1, capacity 3, start 3, labels on
abbrev shape : Shape
shape =
    record {
      dimensions = 1;
      shingle_size = 1;
      capacity = 3;
      initial_capacity = 3;
      internal_shingling = false;
      internal_rotation = false;
      store_labels = true;
    }

-- the same with a shingle size that does not divide the dimensions
abbrev outside : Shape
outside =
    record {
      dimensions = 1;
      shingle_size = 2;
      capacity = 3;
      initial_capacity = 3;
      internal_shingling = false;
      internal_rotation = false;
      store_labels = true;
    }

-- memory with n entries in every table
abbrev lent : ℕ → Memory ℕ
lent n =
    record {
      store = replicate n 77;
      last_known_shingle = replicate n 77;
      reference_count = replicate n 77;
      location = replicate n 77;
      index_starts = replicate n 77;
      index_ends = replicate n 77;
      labels = replicate n 77;
      label_attributes = replicate n 77;
      label_count = replicate n 77;
      label_starts = replicate n 77;
      label_ends = replicate n 77;
      attributes = replicate n 77;
      attribute_count = replicate n 77;
      attribute_starts = replicate n 77;
      attribute_ends = replicate n 77;
    }

-- code 0 has class 2, code 1 class 1, every other code class 0
abbrev falling : List ℕ
falling = 2 ∷ 1 ∷ replicate 22 0

abbrev fresh : PointStore ℕ
fresh = (open_spec 0 shape (table_text falling) (lent 3)).after

-- three adds, with the codes 0, 1 and 2
abbrev after_adds : PointStore ℕ
after_adds =
    let one = (add_spec words_equal 0 fresh (5 ∷ []) 0).after in
    let two = (add_spec words_equal 0 one (6 ∷ []) 1).after in
    (add_spec words_equal 0 two (7 ∷ []) 2).after

-- the class answer reads the loaded table
pub classes_answered : ◌≡◌ {A = List Answer} (attribute_spec after_adds 0 ∷ attribute_spec after_adds 1 ∷ attribute_spec after_adds 2 ∷ []) (is 2 ∷ is 1 ∷ is 0 ∷ [])
unfolding opened_memory opened open_decided open_spec reason_classes every_below sum_below count_below all_equal first_below words_equal column columns field digit value_from fields line lines some_below largest_below table_allowed numbered table_text classes_of table_read pushed changed taken released inside holders is_free free_number in_bounds none_shared capacity_allowed stack_lent manager_well_formed grown written_count laid_as laid_elements laid_free place_of overlaps row_to_lay moved_window managed free_uncounted counts_fit index_taken raised lowered live_number code_decided room_decided in_use labels_well differ slot_sum label_taken slot_taken class_slot holds_class tables_lent codes_allowed slots_hold_classes classes_distinct slots_summed labels_opened attribute_read live_number_spec attribute_spec compacted_rows grown_rows short room_made point_length waits table_full entries_filled add_decided window_after sequenced row_of label_given labelled table_grown placed joins overflows laid_rows laid_how kept_after index_given free_left keeps add_spec bounds_hold start_allowed rotation_allowed labels_lent lent_enough form_decided table_length_well store_length_well free_start_well empty_uncounted places_distinct places_end sequence_well well_formed
classes_answered = refl

-- a record whose table has a gap is ill-formed
pub gap_ill_formed : live_number_spec (point_store (fresh_with shape (2 ∷ replicate 23 0)) fresh.memory) ≡ refused 1
unfolding opened_memory opened open_decided open_spec reason_classes every_below sum_below count_below all_equal first_below words_equal column columns field digit value_from fields line lines some_below largest_below table_allowed numbered table_text classes_of table_read pushed changed taken released inside holders is_free free_number in_bounds none_shared capacity_allowed stack_lent manager_well_formed grown written_count laid_as laid_elements laid_free place_of overlaps row_to_lay moved_window managed free_uncounted counts_fit index_taken raised lowered live_number code_decided room_decided in_use labels_well differ slot_sum label_taken slot_taken class_slot holds_class tables_lent codes_allowed slots_hold_classes classes_distinct slots_summed labels_opened attribute_read live_number_spec attribute_spec compacted_rows grown_rows short room_made point_length waits table_full entries_filled add_decided window_after sequenced row_of label_given labelled table_grown placed joins overflows laid_rows laid_how kept_after index_given free_left keeps add_spec bounds_hold start_allowed rotation_allowed labels_lent lent_enough form_decided table_length_well store_length_well free_start_well empty_uncounted places_distinct places_end sequence_well well_formed
gap_ill_formed = refl

-- one line less: 17, and nothing is opened
pub text_refused : open_spec 0 shape (drop 9 (table_text falling)) (lent 3) ≡ outcome (refused 17) (point_store no_record (lent 3))
unfolding open_decided open_spec all_equal column columns field digit value_from fields line lines some_below largest_below table_allowed every_below numbered table_text classes_of table_read bounds_hold start_allowed labels_lent lent_enough
text_refused = refl

-- after the lent-slice check, and so after the shape's
pub slices_first : open_spec 0 shape (drop 9 (table_text falling)) (lent 2) ≡ outcome (refused 1) (point_store no_record (lent 2))
unfolding open_decided open_spec all_equal column columns field digit value_from fields line lines some_below largest_below table_allowed every_below numbered table_text classes_of table_read bounds_hold start_allowed labels_lent lent_enough
slices_first = refl

pub shape_first : open_spec 0 outside (drop 9 (table_text falling)) (lent 2) ≡ outcome (refused 2) (point_store no_record (lent 2))
unfolding open_decided open_spec all_equal column columns field digit value_from fields line lines some_below largest_below table_allowed every_below numbered table_text classes_of table_read bounds_hold start_allowed labels_lent lent_enough
shape_first = refl
