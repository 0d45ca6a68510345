-- Worked cases of a hold, computed: elements are numbers, compared as such; the memory lent to each opening holds rubbish.
use Rattle.std.specs.Prelude.{ℕ, ◌*◌, Bool, true, false, cond, ◌&&◌, List, [], ◌∷◌, ◌++◌, ◌≡◌, refl, replicate, eqb}
use Rattle.placement.specs.declared.Laid.TheVariants.{Whole, Joined}
use Rattle.terms.specs.Below.{one, every_below, sum_below, count_below}
use Rattle.terms.specs.Rows.{all_equal}
use Rattle.terms.specs.Search.{first_below}
use Rattle.decimal.specs.Field.{column, columns, field, digit, value_from}
use Rattle.decimal.specs.Lines.{fields, line, lines}
use Rattle.class_table.specs.Reasons.{reason_classes}
use Rattle.class_table.specs.Table.{some_below, largest_below, table_allowed}
use Rattle.class_table.specs.Text.{numbered, table_text, classes_of, table_read}
use Rattle.interval_store_manager.specs.Calls.{pushed, changed, taken, released}
use Rattle.interval_store_manager.specs.Intervals.{inside, holders, is_free, free_number, in_bounds, none_shared}
use Rattle.interval_store_manager.specs.WellFormed.{capacity_allowed, lent_enough as stack_lent, well_formed as manager_well_formed}
use Rattle.placement.specs.Alignment.{wrapping_sub, wrapping_add, alignment, zeros_before}
use Rattle.placement.specs.Compaction.{holds, live_below, moved, grown_blocks, blocks, block_moves, copied_down, settled, block_down, blocks_down, written_by_blocks, compacted}
use Rattle.placement.specs.Copying.{turn, turned, copied}
use Rattle.placement.specs.Growth.{grown}
use Rattle.placement.specs.Laying.{written_count, laid_as, laid_elements, laid_free, place_of}
use Rattle.placement.specs.Overlap.{overlaps}
use Rattle.placement.specs.Row.{row_to_lay, moved_window}
use Rattle.labels.specs.Counted.{managed, free_uncounted, counts_fit, index_taken, raised, lowered}
use Rattle.labels.specs.Decisions.{none, in_use, code_decided, room_decided, inc_decided, dec_decided}
use Rattle.labels.specs.Labels.{holds_class, class_slot, slot_taken, label_taken, label_raised, label_lowered, slot_sum, differ, tables_lent as label_tables_lent, codes_allowed, slots_hold_classes, classes_distinct, slots_summed, labels_well}
use Rattle.labels.specs.Opening.{labels_opened}
use Rattle.store_definitions.specs.declared.Shape.{Shape}
use Rattle.store_definitions.specs.Answers.{Answer, kept, waiting, done, is, says, refused, refused_after, Outcome}
use Rattle.store_definitions.specs.Opening.{open_decided, opened_memory, opened}
use Rattle.store_definitions.specs.Counting.{inc_test, incremented, inc_spec, dec_test, place_after_dec, decremented, dec_spec}
use Rattle.store_definitions.specs.Rows.{compacted_rows, grown_rows, short, room_made, compact_spec, copy_of}
use Rattle.store_definitions.specs.Adding.{point_length, waits, table_full, add_decided, window_after, sequenced, row_of, label_given, labelled, table_grown, placed, joins, overflows, laid_rows, laid_how, kept_after, index_given, free_left, keeps, add_spec}
use Rattle.store_definitions.specs.Bounds.{bounds_hold, start_allowed, rotation_allowed, labels_lent, lent_enough}
use Rattle.store_definitions.specs.Decisions.{form_decided, live, touch_decided}
use Rattle.store_definitions.specs.WellFormed.{table_length_well, store_length_well, free_start_well, empty_uncounted, places_distinct, places_end, sequence_well, well_formed}
use Rattle.hold_definitions.specs.Memory.{HoldMemory, PointHold, store_of, indices_of, labels_of}
use Rattle.hold_definitions.specs.Answers.{HoldOutcome, hold_outcome}
use Rattle.hold_definitions.specs.Listed.{times, every_named}
use Rattle.hold_definitions.specs.WellFormed.{width_allowed, tables_lent, names_live_points, counted_once, own_labels, hold_well_formed}
use Rattle.hold_definitions.specs.Opening.{hold_open_decided, hold_open_spec}
use Rattle.hold_definitions.specs.Adding.{with_store, gave_up, holding, hold_add_spec}
use Rattle.hold_definitions.specs.Readings.{hold_form_decided, held_spec, held_number_spec}

pub data Call : Type 0 where
  -- a hold add: a point and a label code
  add : List ℕ → ℕ → Call
  -- calls on the store inside
  inc : ℕ → ℕ → Call
  compact : Call

unfoldable pub shape : (dims shingle capacity : ℕ) → (internal rotation labels : Bool) → Shape
shape dims shingle capacity internal rotation labels =
    record {
      dimensions = dims;
      shingle_size = shingle;
      capacity = capacity;
      initial_capacity = capacity;
      internal_shingling = internal;
      internal_rotation = rotation;
      store_labels = labels;
    }

-- tables of n entries; with labels off those of the labels are empty
unfoldable pub rubbish : Shape → ℕ → HoldMemory ℕ
rubbish s n =
    let table : List ℕ = replicate n 77 in
    let labels : List ℕ = cond s.store_labels table [] in
    record {
      store = record {
        store = replicate (n * s.dimensions) 77;
        last_known_shingle = replicate s.dimensions 77;
        reference_count = table;
        location = table;
        index_starts = table;
        index_ends = table;
        labels = labels;
        label_attributes = labels;
        label_count = labels;
        label_starts = labels;
        label_ends = labels;
        attributes = labels;
        attribute_count = labels;
        attribute_starts = labels;
        attribute_ends = labels;
      };
      held_indices = table;
      held_labels = labels;
    }

unfoldable pub inside_call : Outcome ℕ → PointHold ℕ → HoldOutcome ℕ
inside_call o h = hold_outcome o.answer (with_store o.after h)

unfoldable pub called : Call → PointHold ℕ → HoldOutcome ℕ
called (add point code) h = hold_add_spec eqb 0 h point code
called (inc i l) h = inside_call (inc_spec (store_of h) i l) h
called compact h = inside_call (compact_spec 0 (store_of h)) h

-- what a case says: the answers, the held indices and label indices, and the copy of one index
record Said : Type 0 where
  answers : List Answer
  indices : List ℕ
  labels : List ℕ
  copy : List ℕ

said : List Answer → List ℕ → List ℕ → List ℕ → Said
said answers indices labels copy = record { answers = answers; indices = indices; labels = labels; copy = copy }

run : ℕ → List Call → PointHold ℕ → List Answer → Said
run i [] h answers = said answers (indices_of h) (labels_of h) (copy_of (store_of h) i)
run i (c ∷ cs) h answers = let o = called c h in run i cs o.after (answers ++ o.answer ∷ [])

-- a refused opening ends the case
opening : Answer → ℕ → List Call → PointHold ℕ → Said
opening (kept i l laid left) n cs h = said [] [] [] []
opening waiting n cs h = said [] [] [] []
opening done n cs h = run n cs h []
opening (is k) n cs h = said [] [] [] []
opening (says b) n cs h = said [] [] [] []
opening (refused k) n cs h = said (refused k ∷ []) [] [] []
opening (refused_after k j) n cs h = said [] [] [] []

started : ℕ → List Call → HoldOutcome ℕ → Said
started n cs o = opening o.answer n cs o.after

-- a shape, a width, the calls, and the index that is copied in the end
ran : Shape → ℕ → List Call → ℕ → Said
ran s width calls i = started i calls (hold_open_spec 0 s width (table_text reason_classes) (rubbish s s.capacity))

-- a case: what the calls give, and what is said of it
record Case : Type 0 where
  found : Said
  expected : Said

-- one entry a point, room for four
plain : Shape
plain = shape 1 1 4 false false false

-- rows of two points
windowed : Shape
windowed = shape 2 2 3 true false false

rotating : Shape
rotating = shape 2 2 2 false true false

labelled_two : Shape
labelled_two = shape 1 1 3 false false true

cases : List Case
cases =
    -- two are held: the third kept add gives up the first point, the fourth the second, and gets the index of the first. The last number of a
    -- kept answer counts three live points then, the one that is given up among them
    record {
      found = ran plain 2 (add (10 ∷ []) 0 ∷ add (20 ∷ []) 0 ∷ add (30 ∷ []) 0 ∷ add (40 ∷ []) 0 ∷ []) 0;
      expected = said (kept 0 none (Whole 0) 3 ∷ kept 1 none (Whole 1) 2 ∷ kept 2 none (Whole 2) 1 ∷ kept 0 none (Whole 3) 1 ∷ []) (2 ∷ 0 ∷ []) [] (40 ∷ []);
    }
    -- a refused add gives up nothing
    ∷ record {
      found = ran plain 1 (add (10 ∷ []) 0 ∷ add (20 ∷ 21 ∷ []) 0 ∷ []) 0;
      expected = said (kept 0 none (Whole 0) 3 ∷ refused 3 ∷ []) (0 ∷ []) [] (10 ∷ []);
    }
    -- nor does a waiting one
    ∷ record {
      found = ran windowed 1 (add (1 ∷ []) 0 ∷ add (2 ∷ []) 0 ∷ add (3 ∷ []) 0 ∷ []) 1;
      expected = said (waiting ∷ kept 0 none (Whole 0) 2 ∷ kept 1 none (Joined 1) 1 ∷ []) (1 ∷ []) [] (2 ∷ 3 ∷ []);
    }
    -- rotating: every row that does not join is refused with 10 for ever, since a refused add gives up nothing; one that joins is kept
    ∷ record {
      found = ran rotating 1 (add (1 ∷ 2 ∷ []) 0 ∷ add (2 ∷ 3 ∷ []) 0 ∷ add (9 ∷ 9 ∷ []) 0 ∷ add (9 ∷ 9 ∷ []) 0 ∷ add (9 ∷ 9 ∷ []) 0 ∷ add (3 ∷ 4 ∷ []) 0 ∷ []) 0;
      expected = said (kept 0 none (Whole 0) 1 ∷ kept 1 none (Joined 1) 0 ∷ refused 10 ∷ refused 10 ∷ refused 10 ∷ kept 0 none (Joined 2) 0 ∷ []) (0 ∷ []) [] (3 ∷ 4 ∷ []);
    }
    -- labels: the label of the point given up goes with it, and its index is given again
    ∷ record {
      found = ran labelled_two 2 (add (10 ∷ []) 5 ∷ add (20 ∷ []) 6 ∷ add (30 ∷ []) 23 ∷ add (40 ∷ []) 0 ∷ []) 0;
      expected = said (kept 0 0 (Whole 0) 2 ∷ kept 1 1 (Whole 1) 1 ∷ kept 2 2 (Whole 2) 0 ∷ kept 0 0 (Whole 2) 0 ∷ []) (2 ∷ 0 ∷ []) (2 ∷ 0 ∷ []) (40 ∷ []);
    }
    -- an inc on the store inside makes the next add answer 1
    ∷ record {
      found = ran plain 2 (add (10 ∷ []) 0 ∷ inc 0 none ∷ add (20 ∷ []) 0 ∷ []) 0;
      expected = said (kept 0 none (Whole 0) 3 ∷ done ∷ refused 1 ∷ []) (0 ∷ []) [] (10 ∷ []);
    }
    -- a compact does not
    ∷ record {
      found = ran plain 1 (add (10 ∷ []) 0 ∷ add (20 ∷ []) 0 ∷ compact ∷ add (30 ∷ []) 0 ∷ []) 0;
      expected = said (kept 0 none (Whole 0) 3 ∷ kept 1 none (Whole 1) 2 ∷ done ∷ kept 0 none (Whole 1) 2 ∷ []) (0 ∷ []) [] (30 ∷ []);
    }
    -- widths: 0, one that is the capacity, and any with capacity 1
    ∷ record { found = ran plain 0 [] 0; expected = said (refused 15 ∷ []) [] [] [] }
    ∷ record { found = ran plain 4 [] 0; expected = said (refused 15 ∷ []) [] [] [] }
    ∷ record { found = ran plain 3 (add (10 ∷ []) 0 ∷ []) 0; expected = said (kept 0 none (Whole 0) 3 ∷ []) (0 ∷ []) [] (10 ∷ []) }
    ∷ record { found = ran (shape 1 1 1 false false false) 1 [] 0; expected = said (refused 15 ∷ []) [] [] [] }
    -- the shape before the width, the width before the memory
    ∷ record { found = ran (shape 0 1 4 false false false) 0 [] 0; expected = said (refused 2 ∷ []) [] [] [] }
    ∷ record { found = started 0 [] (hold_open_spec 0 plain 4 (table_text reason_classes) (rubbish plain 3)); expected = said (refused 15 ∷ []) [] [] [] }
    ∷ record { found = started 0 [] (hold_open_spec 0 plain 3 (table_text reason_classes) (rubbish plain 3)); expected = said (refused 1 ∷ []) [] [] [] }
    -- a text that is no table's, after the width and the memory
    ∷ record { found = started 0 [] (hold_open_spec 0 plain 4 [] (rubbish plain 4)); expected = said (refused 15 ∷ []) [] [] [] }
    ∷ record { found = started 0 [] (hold_open_spec 0 plain 3 [] (rubbish plain 3)); expected = said (refused 1 ∷ []) [] [] [] }
    ∷ record { found = started 0 [] (hold_open_spec 0 plain 3 [] (rubbish plain 4)); expected = said (refused 17 ∷ []) [] [] [] }
    ∷ []

-- an answer as numbers: which kind it is, and what it holds
numbers : Answer → List ℕ
numbers (kept i l (Whole place) left) = 0 ∷ i ∷ l ∷ 0 ∷ place ∷ left ∷ []
numbers (kept i l (Joined place) left) = 0 ∷ i ∷ l ∷ 1 ∷ place ∷ left ∷ []
numbers waiting = 1 ∷ []
numbers done = 2 ∷ []
numbers (is n) = 3 ∷ n ∷ []
numbers (says b) = 4 ∷ one b ∷ []
numbers (refused n) = 5 ∷ n ∷ []
numbers (refused_after n k) = 6 ∷ n ∷ k ∷ []

same : List ℕ → List ℕ → Bool
same xs ys = all_equal eqb xs ys

agree : Said → Said → Bool
agree a b =
    all_equal (λ x y. same (numbers x) (numbers y)) a.answers b.answers
    && (same a.indices b.indices && (same a.labels b.labels && same a.copy b.copy))

stand : List Case → Bool
stand [] = true
stand (c ∷ cs) = agree c.found c.expected && stand cs

-- every case gives what is said of it
held_cases : stand cases ≡ true
unfolding numbers same agree stand plain windowed rotating labelled_two cases shape rubbish inside_call called said run opening started ran every_below all_equal pushed changed taken released inside holders is_free free_number in_bounds none_shared capacity_allowed stack_lent manager_well_formed wrapping_sub wrapping_add alignment zeros_before holds live_below moved grown_blocks blocks block_moves copied_down settled block_down blocks_down written_by_blocks compacted turn turned copied grown written_count laid_as laid_elements laid_free place_of overlaps row_to_lay moved_window managed free_uncounted counts_fit index_taken lowered code_decided room_decided dec_decided open_decided opened_memory opened dec_test place_after_dec decremented dec_spec compacted_rows grown_rows short room_made compact_spec copy_of point_length waits table_full add_decided window_after sequenced row_of label_given labelled table_grown placed joins overflows laid_rows laid_how kept_after index_given free_left keeps add_spec bounds_hold start_allowed rotation_allowed lent_enough form_decided live touch_decided table_length_well store_length_well free_start_well empty_uncounted places_distinct places_end sequence_well well_formed times every_named width_allowed tables_lent names_live_points counted_once own_labels hold_well_formed hold_open_decided hold_open_spec gave_up holding hold_add_spec sum_below count_below first_below raised in_use inc_decided holds_class class_slot slot_taken label_taken label_raised label_lowered slot_sum differ label_tables_lent codes_allowed slots_hold_classes classes_distinct slots_summed labels_well labels_opened inc_test incremented inc_spec labels_lent reason_classes table_read table_text numbered classes_of lines line fields field columns column value_from digit table_allowed some_below largest_below
held_cases = refl

-- the readings after some calls: the number held, and what a slice of n entries gets
readings : ℕ → List Call → PointHold ℕ → List ℕ
readings n [] h = numbers (held_number_spec h) ++ numbers (held_spec h (replicate n 77)).answer ++ (held_spec h (replicate n 77)).out
readings n (c ∷ cs) h = readings n cs (called c h).after

read : ℕ → List Call → HoldOutcome ℕ → List ℕ
read n cs o = readings n cs o.after

three : List Call
three = add (10 ∷ []) 0 ∷ add (20 ∷ []) 0 ∷ add (30 ∷ []) 0 ∷ []

-- a slice that is not as long as the list gets 3 and is left as it was
held_readings : (same (read 2 three (hold_open_spec 0 plain 2 (table_text reason_classes) (rubbish plain 4))) (3 ∷ 2 ∷ 2 ∷ 1 ∷ 2 ∷ [])
    && (same (read 3 three (hold_open_spec 0 plain 2 (table_text reason_classes) (rubbish plain 4))) (3 ∷ 2 ∷ 5 ∷ 3 ∷ 77 ∷ 77 ∷ 77 ∷ [])
    && same (read 0 [] (hold_open_spec 0 plain 2 (table_text reason_classes) (rubbish plain 4))) (3 ∷ 0 ∷ 2 ∷ []))) ≡ true
unfolding readings read three numbers same plain shape rubbish inside_call called said run opening started ran every_below all_equal pushed changed taken released inside holders is_free free_number in_bounds none_shared capacity_allowed stack_lent manager_well_formed wrapping_sub wrapping_add alignment zeros_before holds live_below moved grown_blocks blocks block_moves copied_down settled block_down blocks_down written_by_blocks compacted turn turned copied grown written_count laid_as laid_elements laid_free place_of overlaps row_to_lay moved_window managed free_uncounted counts_fit index_taken lowered code_decided room_decided dec_decided open_decided opened_memory opened dec_test place_after_dec decremented dec_spec compacted_rows grown_rows short room_made compact_spec copy_of point_length waits table_full add_decided window_after sequenced row_of label_given labelled table_grown placed joins overflows laid_rows laid_how kept_after index_given free_left keeps add_spec bounds_hold start_allowed rotation_allowed lent_enough form_decided live touch_decided table_length_well store_length_well free_start_well empty_uncounted places_distinct places_end sequence_well well_formed times every_named width_allowed tables_lent names_live_points counted_once own_labels hold_well_formed hold_open_decided hold_open_spec gave_up holding hold_add_spec sum_below count_below first_below raised in_use inc_decided holds_class class_slot slot_taken label_taken label_raised label_lowered slot_sum differ label_tables_lent codes_allowed slots_hold_classes classes_distinct slots_summed labels_well labels_opened inc_test incremented inc_spec labels_lent hold_form_decided held_spec held_number_spec table_read table_text numbered classes_of lines line fields field columns column value_from digit reason_classes table_allowed some_below largest_below
held_readings = refl
