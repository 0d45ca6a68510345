-- Each clause of a product's well-formedness broken alone: the next set answers 1, and so do its kinds and the reading of the
-- tallies. The product that was not broken does not.
use Rattle.std.specs.Prelude.{ℕ, Bool, true, false, ◌&&◌, List, [], ◌∷◌, ◌++◌, ◌≡◌, refl, replicate, not}
use Rattle.terms.specs.Below.{every_below, sum_below, count_below}
use Rattle.terms.specs.Rows.{all_equal}
use Rattle.terms.specs.Search.{first_below}
use Rattle.decimal.specs.Field.{column, columns, field, digit, value_from}
use Rattle.decimal.specs.Lines.{fields, line, lines}
use Rattle.class_table.specs.Reasons.{reason_classes}
use Rattle.class_table.specs.Table.{some_below, largest_below, table_allowed}
use Rattle.class_table.specs.Text.{numbered, table_text, classes_of, table_read}
use Rattle.interval_store_manager.specs.Calls.{pushed, changed, taken, released}
use Rattle.interval_store_manager.specs.Intervals.{inside, holders, is_free, free_number, in_bounds, none_shared}
use Rattle.interval_store_manager.specs.WellFormed.{capacity_allowed, lent_enough as stack_lent, well_formed as manager_well_formed}
use Rattle.placement.specs.Alignment.{wrapping_sub, wrapping_add, alignment, zeros_before}
use Rattle.placement.specs.Compaction.{holds, live_below, moved, grown_blocks, blocks, block_moves, copied_down, settled, block_down, blocks_down, written_by_blocks, compacted}
use Rattle.placement.specs.Copying.{turn, turned, copied}
use Rattle.placement.specs.Growth.{grown}
use Rattle.placement.specs.Laying.{written_count, laid_as, laid_elements, laid_free, place_of}
use Rattle.placement.specs.Overlap.{overlaps}
use Rattle.placement.specs.Row.{row_to_lay, moved_window}
use Rattle.labels.specs.Counted.{managed, free_uncounted, counts_fit, index_taken, raised, lowered}
use Rattle.labels.specs.Decisions.{in_use, code_decided, room_decided, dec_decided}
use Rattle.labels.specs.Labels.{holds_class, class_slot, slot_taken, label_taken, label_lowered, slot_sum, differ, tables_lent as label_tables_lent, codes_allowed, slots_hold_classes, classes_distinct, slots_summed, labels_well}
use Rattle.labels.specs.Opening.{labels_opened}
use Rattle.store_definitions.specs.declared.Shape.{Shape}
use Rattle.store_definitions.specs.Answers.{Answer}
use Rattle.store_definitions.specs.Opening.{open_decided, opened_memory, opened, open_spec}
use Rattle.store_definitions.specs.Counting.{dec_test, place_after_dec, decremented, dec_spec}
use Rattle.store_definitions.specs.Rows.{compacted_rows, grown_rows, short, room_made, copy_of}
use Rattle.store_definitions.specs.Adding.{point_length, waits, table_full, entries_filled, add_decided, window_after, sequenced, row_of, label_given, labelled, table_grown, placed, joins, overflows, laid_rows, laid_how, kept_after, index_given, free_left, keeps, add_spec}
use Rattle.store_definitions.specs.Bounds.{bounds_hold, start_allowed, rotation_allowed, labels_lent, lent_enough}
use Rattle.store_definitions.specs.Decisions.{form_decided, live, touch_decided}
use Rattle.store_definitions.specs.WellFormed.{table_length_well, store_length_well, free_start_well, empty_uncounted, places_distinct, places_end, sequence_well, well_formed}
use Rattle.probes_definitions.specs.Memory.{PointProbes, store_of, last_floats}
use Rattle.probes_definitions.specs.Readings.{measured, estimated, any_absent, filled, tallied, of_kinds, any_above}
use Rattle.probes_definitions.specs.WellFormed.{eight_probes, tallies_within, probes_well_formed}
use Rattle.probes_definitions.specs.Opening.{probes_open_decided, probes_open_spec}
use Rattle.probes_definitions.specs.Setting.{no_earlier, set_decided, kinds_decided, set_checked, set_spec, set_kinds_spec}
use Rattle.probes_definitions.specs.Tallies.{probes_form_decided, tallies_spec}
use Rattle.probes_definitions.specs.Cases.{Call, set, set_kinds, shape, rubbish, with_inside, sequence_made, called, eight, numbers, same}

after : List Call → PointProbes ℕ → PointProbes ℕ
after [] p = p
after (c ∷ cs) p = after cs (called c p).after

-- rows of two sets, after one set
product : PointProbes ℕ
product =
    let s = shape 16 2 2 true false false in
    after (set (eight (estimated 1)) 0 ∷ []) (probes_open_spec 0 s (table_text reason_classes) (rubbish s 2)).after

-- other tallies
counting : List ℕ → PointProbes ℕ → PointProbes ℕ
counting tallies p = record { header = record { store = p.header.store; tallies = tallies }; memory = p.memory }

-- a product around any fresh store
around : Shape → PointProbes ℕ
around s =
    let p = (open_spec 0 s (table_text reason_classes) (rubbish s 2)).after in
    record { header = record { store = p.header; tallies = eight 0 }; memory = p.memory }

broken : List (PointProbes ℕ)
broken =
    -- another base
    around (shape 16 1 2 true false false)
    ∷ around (shape 8 2 2 true false false)
    -- no internal shingling
    ∷ around (shape 16 2 2 false false false)
    -- a tally above the sequence: the first, the last, all
    ∷ counting (2 ∷ replicate 7 0) product
    ∷ counting (replicate 7 1 ++ 2 ∷ []) product
    ∷ counting (eight 4294967295) product
    ∷ []

-- another shingle size of the same base; tallies up to the sequence
whole : List (PointProbes ℕ)
whole = around (shape 64 8 2 true false false) ∷ product ∷ counting (eight 0) product ∷ counting (1 ∷ 0 ∷ 1 ∷ 0 ∷ 1 ∷ 0 ∷ 1 ∷ 0 ∷ []) product ∷ []

is_one : Answer → Bool
is_one a = same (numbers a) (5 ∷ 1 ∷ [])

-- 1 before 3, 11 and 16
all_one : List (PointProbes ℕ) → Bool
all_one [] = true
all_one (p ∷ ps) =
    well_formed (store_of p)
    && (is_one (called (set (eight (measured 1)) 0) p).answer
    && (is_one (called (set [] 0) p).answer
    && (is_one (called (set_kinds (eight 3) [] 0) p).answer
    && (is_one (tallies_spec p []).answer
    && all_one ps))))

none_one : List (PointProbes ℕ) → Bool
none_one [] = true
none_one (p ∷ ps) = not (is_one (called (set (eight (measured 1)) 0) p).answer) && (not (is_one (tallies_spec p []).answer) && none_one ps)

-- the store inside is well-formed, and the product is not
each_clause : (all_one broken && none_one whole) ≡ true
unfolding after product counting around broken whole is_one all_one none_one probes_form_decided tallies_spec shape rubbish with_inside sequence_made called eight numbers same last_floats any_absent filled tallied of_kinds any_above eight_probes tallies_within probes_well_formed probes_open_decided probes_open_spec no_earlier set_decided kinds_decided set_checked set_spec set_kinds_spec every_below all_equal pushed changed taken released inside holders is_free free_number in_bounds none_shared capacity_allowed stack_lent manager_well_formed wrapping_sub wrapping_add alignment zeros_before holds live_below moved grown_blocks blocks block_moves copied_down settled block_down blocks_down written_by_blocks compacted turn turned copied grown written_count laid_as laid_elements laid_free place_of overlaps row_to_lay moved_window managed free_uncounted counts_fit index_taken lowered code_decided room_decided dec_decided open_decided opened_memory opened open_spec dec_test place_after_dec decremented dec_spec compacted_rows grown_rows short room_made copy_of point_length waits table_full entries_filled add_decided window_after sequenced row_of label_given labelled table_grown placed joins overflows laid_rows laid_how kept_after index_given free_left keeps add_spec bounds_hold start_allowed rotation_allowed lent_enough form_decided live touch_decided table_length_well store_length_well free_start_well empty_uncounted places_distinct places_end sequence_well well_formed sum_below count_below first_below raised in_use holds_class class_slot slot_taken label_taken label_lowered slot_sum differ label_tables_lent codes_allowed slots_hold_classes classes_distinct slots_summed labels_well labels_opened labels_lent reason_classes table_read table_text numbered classes_of lines line fields field columns column value_from digit table_allowed some_below largest_below
each_clause = refl
