-- Each clause of a hold's well-formedness broken alone: the next add answers 1. The hold that was not broken answers as its store.
use Rattle.std.specs.Prelude.{ℕ, Bool, true, false, not, ◌&&◌, List, [], ◌∷◌, ◌++◌, ◌≡◌, refl, eqb}
use Rattle.terms.specs.Below.{every_below, sum_below, count_below}
use Rattle.terms.specs.Rows.{all_equal}
use Rattle.terms.specs.Search.{first_below}
use Rattle.decimal.specs.Field.{column, columns, field, digit, value_from}
use Rattle.decimal.specs.Lines.{fields, line, lines}
use Rattle.class_table.specs.Reasons.{reason_classes}
use Rattle.class_table.specs.Table.{some_below, largest_below, table_allowed}
use Rattle.class_table.specs.Text.{numbered, table_text, classes_of, table_read}
use Rattle.interval_store_manager.specs.Calls.{pushed, changed, taken, released}
use Rattle.interval_store_manager.specs.Intervals.{inside, holders, is_free, free_number, in_bounds, none_shared}
use Rattle.interval_store_manager.specs.WellFormed.{capacity_allowed, lent_enough as stack_lent, well_formed as manager_well_formed}
use Rattle.placement.specs.Alignment.{wrapping_sub, wrapping_add, alignment, zeros_before}
use Rattle.placement.specs.Compaction.{holds, live_below, moved, grown_blocks, blocks, block_moves, copied_down, settled, block_down, blocks_down, written_by_blocks, compacted}
use Rattle.placement.specs.Copying.{turn, turned, copied}
use Rattle.placement.specs.Growth.{grown}
use Rattle.placement.specs.Laying.{written_count, laid_as, laid_elements, laid_free, place_of}
use Rattle.placement.specs.Overlap.{overlaps}
use Rattle.placement.specs.Row.{row_to_lay, moved_window}
use Rattle.labels.specs.Counted.{managed, free_uncounted, counts_fit, index_taken, raised, lowered}
use Rattle.labels.specs.Decisions.{none, in_use, code_decided, room_decided, inc_decided, dec_decided}
use Rattle.labels.specs.Labels.{holds_class, class_slot, slot_taken, label_taken, label_raised, label_lowered, slot_sum, differ, tables_lent as label_tables_lent, codes_allowed, slots_hold_classes, classes_distinct, slots_summed, labels_well}
use Rattle.labels.specs.Opening.{labels_opened}
use Rattle.store_definitions.specs.Answers.{Answer, kept, waiting, done, is, says, refused, refused_after}
use Rattle.store_definitions.specs.Opening.{open_decided, opened_memory, opened}
use Rattle.store_definitions.specs.Counting.{inc_test, incremented, inc_spec, dec_test, place_after_dec, decremented, dec_spec}
use Rattle.store_definitions.specs.Rows.{compacted_rows, grown_rows, short, room_made, compact_spec, copy_of}
use Rattle.store_definitions.specs.Adding.{point_length, waits, table_full, add_decided, window_after, sequenced, row_of, label_given, labelled, table_grown, placed, joins, overflows, laid_rows, laid_how, kept_after, index_given, free_left, keeps, add_spec}
use Rattle.store_definitions.specs.Bounds.{bounds_hold, start_allowed, rotation_allowed, labels_lent, lent_enough}
use Rattle.store_definitions.specs.Decisions.{form_decided, live, touch_decided}
use Rattle.store_definitions.specs.WellFormed.{table_length_well, store_length_well, free_start_well, empty_uncounted, places_distinct, places_end, sequence_well, well_formed}
use Rattle.hold_definitions.specs.Memory.{PointHold, store_of}
use Rattle.hold_definitions.specs.Listed.{times, every_named}
use Rattle.hold_definitions.specs.WellFormed.{width_allowed, tables_lent, names_live_points, counted_once, own_labels, hold_well_formed}
use Rattle.hold_definitions.specs.Opening.{hold_open_decided, hold_open_spec}
use Rattle.hold_definitions.specs.Adding.{gave_up, holding, hold_add_spec}
use Rattle.hold_definitions.specs.Cases.{Call, add, inc, shape, rubbish, inside_call, called}

after : List Call → PointHold ℕ → PointHold ℕ
after [] h = h
after (c ∷ cs) h = after cs (called c h).after

-- a hold of this width in a store of four points of one entry, after some adds
held_by : Bool → ℕ → List Call → PointHold ℕ
held_by labels width cs =
    let s = shape 1 1 4 false false labels in
    after cs (hold_open_spec 0 s width (table_text reason_classes) (rubbish s 4)).after

-- another width, another number held, other tables
remade : ℕ → ℕ → List ℕ → List ℕ → PointHold ℕ → PointHold ℕ
remade width held indices labels h =
    record {
      header = record { store = h.header.store; width = width; held = held };
      memory = record { store = h.memory.store; held_indices = indices; held_labels = labels };
    }

-- other counts of the labels and of the slots
recounted : List ℕ → List ℕ → PointHold ℕ → PointHold ℕ
recounted label_count attribute_count h =
    let m = h.memory.store in
    record {
      header = h.header;
      memory = record {
        store = record {
          store = m.store;
          last_known_shingle = m.last_known_shingle;
          reference_count = m.reference_count;
          location = m.location;
          index_starts = m.index_starts;
          index_ends = m.index_ends;
          labels = m.labels;
          label_attributes = m.label_attributes;
          label_count = label_count;
          label_starts = m.label_starts;
          label_ends = m.label_ends;
          attributes = m.attributes;
          attribute_count = attribute_count;
          attribute_starts = m.attribute_starts;
          attribute_ends = m.attribute_ends;
        };
        held_indices = h.memory.held_indices;
        held_labels = h.memory.held_labels;
      };
    }

two : List Call
two = add (10 ∷ []) 5 ∷ add (20 ∷ []) 8 ∷ []

three : List Call
three = two ++ add (30 ∷ []) 23 ∷ []

-- indices 0 and 1 are held, with labels or without
plain : PointHold ℕ
plain = held_by false 3 two

labelled_pair : PointHold ℕ
labelled_pair = held_by true 3 two

broken : List (PointHold ℕ)
broken =
    -- a width that opening would not take
    remade 0 0 (77 ∷ 77 ∷ 77 ∷ 77 ∷ []) [] (held_by false 3 [])
    ∷ remade 4 2 (0 ∷ 1 ∷ 77 ∷ 77 ∷ []) [] plain
    -- tables too short
    ∷ remade 3 2 (0 ∷ 1 ∷ 77 ∷ []) [] plain
    ∷ remade 3 2 (0 ∷ 1 ∷ 77 ∷ 77 ∷ []) (0 ∷ 1 ∷ 77 ∷ []) labelled_pair
    -- more held than the width
    ∷ remade 2 3 (0 ∷ 1 ∷ 2 ∷ 77 ∷ []) [] (held_by false 3 three)
    -- a point that is not live, a point twice, a live point that is not on the list, a count of 2
    ∷ remade 3 3 (0 ∷ 1 ∷ 2 ∷ 77 ∷ []) [] plain
    ∷ remade 3 3 (0 ∷ 1 ∷ 1 ∷ 77 ∷ []) [] plain
    ∷ remade 3 1 (0 ∷ 1 ∷ 77 ∷ 77 ∷ []) [] plain
    ∷ after (inc 1 none ∷ []) plain
    -- a label of two points, one that is not in use, a count of 2
    ∷ remade 3 2 (0 ∷ 1 ∷ 77 ∷ 77 ∷ []) (0 ∷ 0 ∷ 77 ∷ 77 ∷ []) labelled_pair
    ∷ remade 3 2 (0 ∷ 1 ∷ 77 ∷ 77 ∷ []) (0 ∷ 2 ∷ 77 ∷ 77 ∷ []) labelled_pair
    ∷ recounted (2 ∷ 1 ∷ 0 ∷ 0 ∷ []) (2 ∷ 1 ∷ 0 ∷ 0 ∷ []) labelled_pair
    ∷ []

-- what is not looked at: entries past those held, the labels' table with labels off, the order of the list
whole : List (PointHold ℕ)
whole =
    plain
    ∷ labelled_pair
    ∷ remade 3 2 (0 ∷ 1 ∷ 0 ∷ 0 ∷ 9 ∷ []) (0 ∷ []) plain
    ∷ remade 2 2 (1 ∷ 0 ∷ 77 ∷ 77 ∷ []) [] plain
    ∷ remade 3 2 (1 ∷ 0 ∷ 77 ∷ 77 ∷ []) (0 ∷ 1 ∷ 77 ∷ 77 ∷ []) labelled_pair
    ∷ []

is_one : Answer → Bool
is_one (kept i l laid left) = false
is_one waiting = false
is_one done = false
is_one (is n) = false
is_one (says b) = false
is_one (refused n) = eqb n 1
is_one (refused_after n k) = false

all_one : List (PointHold ℕ) → Bool
all_one [] = true
all_one (h ∷ hs) = well_formed (store_of h) && (is_one (called (add (40 ∷ []) 0) h).answer && all_one hs)

none_one : List (PointHold ℕ) → Bool
none_one [] = true
none_one (h ∷ hs) = not (is_one (called (add (40 ∷ []) 0) h).answer) && none_one hs

-- the store inside is well-formed, and the hold is not
each_clause : (all_one broken && none_one whole) ≡ true
unfolding after held_by remade recounted two three plain labelled_pair broken whole is_one all_one none_one shape rubbish inside_call called every_below all_equal pushed changed taken released inside holders is_free free_number in_bounds none_shared capacity_allowed stack_lent manager_well_formed wrapping_sub wrapping_add alignment zeros_before holds live_below moved grown_blocks blocks block_moves copied_down settled block_down blocks_down written_by_blocks compacted turn turned copied grown written_count laid_as laid_elements laid_free place_of overlaps row_to_lay moved_window managed free_uncounted counts_fit index_taken lowered code_decided room_decided dec_decided open_decided opened_memory opened dec_test place_after_dec decremented dec_spec compacted_rows grown_rows short room_made compact_spec copy_of point_length waits table_full add_decided window_after sequenced row_of label_given labelled table_grown placed joins overflows laid_rows laid_how kept_after index_given free_left keeps add_spec bounds_hold start_allowed rotation_allowed lent_enough form_decided live touch_decided table_length_well store_length_well free_start_well empty_uncounted places_distinct places_end sequence_well well_formed times every_named width_allowed tables_lent names_live_points counted_once own_labels hold_well_formed hold_open_decided hold_open_spec gave_up holding hold_add_spec sum_below count_below first_below raised in_use inc_decided holds_class class_slot slot_taken label_taken label_raised label_lowered slot_sum differ label_tables_lent codes_allowed slots_hold_classes classes_distinct slots_summed labels_well labels_opened inc_test incremented inc_spec labels_lent reason_classes table_read table_text numbered classes_of lines line fields field columns column value_from digit table_allowed some_below largest_below
each_clause = refl
