-- Worked cases of a product, computed: elements are numbers, compared as such; the memory lent to each opening holds rubbish.
use Rattle.std.specs.Prelude.{ℕ, ◌+◌, ◌*◌, Bool, true, false, cond, ◌&&◌, List, [], ◌∷◌, ◌++◌, ◌≡◌, refl, replicate, eqb}
use Rattle.placement.specs.declared.Laid.TheVariants.{Whole, Joined}
use Rattle.terms.specs.Below.{one, every_below, sum_below, count_below}
use Rattle.terms.specs.Rows.{all_equal}
use Rattle.terms.specs.Search.{first_below}
use Rattle.decimal.specs.Field.{column, columns, field, digit, value_from}
use Rattle.decimal.specs.Lines.{fields, line, lines}
use Rattle.class_table.specs.Reasons.{reason_classes}
use Rattle.class_table.specs.Table.{some_below, largest_below, table_allowed}
use Rattle.class_table.specs.Text.{numbered, table_text, classes_of, table_read}
use Rattle.interval_store_manager.specs.Calls.{pushed, changed, taken, released}
use Rattle.interval_store_manager.specs.Intervals.{inside, holders, is_free, free_number, in_bounds, none_shared}
use Rattle.interval_store_manager.specs.WellFormed.{capacity_allowed, lent_enough as stack_lent, well_formed as manager_well_formed}
use Rattle.placement.specs.Alignment.{wrapping_sub, wrapping_add, alignment, zeros_before}
use Rattle.placement.specs.Compaction.{holds, live_below, moved, grown_blocks, blocks, block_moves, copied_down, settled, block_down, blocks_down, written_by_blocks, compacted}
use Rattle.placement.specs.Copying.{turn, turned, copied}
use Rattle.placement.specs.Growth.{grown}
use Rattle.placement.specs.Laying.{written_count, laid_as, laid_elements, laid_free, place_of}
use Rattle.placement.specs.Overlap.{overlaps}
use Rattle.placement.specs.Row.{row_to_lay, moved_window}
use Rattle.labels.specs.Counted.{managed, free_uncounted, counts_fit, index_taken, raised, lowered}
use Rattle.labels.specs.Decisions.{none, in_use, code_decided, room_decided, dec_decided}
use Rattle.labels.specs.Labels.{holds_class, class_slot, slot_taken, label_taken, label_lowered, slot_sum, differ, tables_lent as label_tables_lent, codes_allowed, slots_hold_classes, classes_distinct, slots_summed, labels_well}
use Rattle.labels.specs.Opening.{labels_opened}
use Rattle.store_definitions.specs.declared.Shape.{Shape}
use Rattle.store_definitions.specs.Memory.{Memory, PointStore}
use Rattle.store_definitions.specs.Answers.{Answer, kept, waiting, done, is, says, refused, refused_after, Outcome}
use Rattle.store_definitions.specs.Parts.{with_window}
use Rattle.store_definitions.specs.Opening.{open_decided, opened_memory, opened}
use Rattle.store_definitions.specs.Counting.{dec_test, place_after_dec, decremented, dec_spec}
use Rattle.store_definitions.specs.Rows.{compacted_rows, grown_rows, short, room_made, copy_of}
use Rattle.store_definitions.specs.Adding.{point_length, waits, table_full, entries_filled, add_decided, window_after, sequenced, row_of, label_given, labelled, table_grown, placed, joins, overflows, laid_rows, laid_how, kept_after, index_given, free_left, keeps, add_spec}
use Rattle.store_definitions.specs.Bounds.{bounds_hold, start_allowed, rotation_allowed, labels_lent, lent_enough}
use Rattle.store_definitions.specs.Decisions.{form_decided, live, touch_decided}
use Rattle.store_definitions.specs.WellFormed.{table_length_well, store_length_well, free_start_well, empty_uncounted, places_distinct, places_end, sequence_well, well_formed}
use Rattle.probes_definitions.specs.Memory.{PointProbes, store_of, last_floats}
use Rattle.probes_definitions.specs.Answers.{ProbesOutcome, probes_outcome}
use Rattle.probes_definitions.specs.Readings.{ProbeReading, measured, estimated, absent, any_absent, filled, tallied, of_kinds, any_above}
use Rattle.probes_definitions.specs.WellFormed.{eight_probes, tallies_within, probes_well_formed}
use Rattle.probes_definitions.specs.Opening.{probes_open_decided, probes_open_spec}
use Rattle.probes_definitions.specs.Setting.{no_earlier, set_decided, kinds_decided, set_checked, set_spec, set_kinds_spec}
use Rattle.probes_definitions.specs.Tallies.{probes_form_decided, tallies_spec}

pub data Call : Type 0 where
  -- a set: readings and a label code; the same as kinds and elements
  set : List (ProbeReading ℕ) → ℕ → Call
  set_kinds : List ℕ → List ℕ → ℕ → Call
  -- calls on the store inside
  add : List ℕ → ℕ → Call
  dec : ℕ → ℕ → Call
  -- the sequence made another number
  at_sequence : ℕ → Call

unfoldable pub shape : (dims shingle capacity : ℕ) → (internal rotation labels : Bool) → Shape
shape dims shingle capacity internal rotation labels =
    record {
      dimensions = dims;
      shingle_size = shingle;
      capacity = capacity;
      initial_capacity = capacity;
      internal_shingling = internal;
      internal_rotation = rotation;
      store_labels = labels;
    }

-- tables of n entries and a window that is longer than its row; with labels off the tables of the labels are empty
unfoldable pub rubbish : Shape → ℕ → Memory ℕ
rubbish s n =
    let table : List ℕ = replicate n 77 in
    let labels : List ℕ = cond s.store_labels table [] in
    record {
      store = replicate (n * s.dimensions) 77;
      last_known_shingle = replicate (s.dimensions + 3) 77;
      reference_count = table;
      location = table;
      index_starts = table;
      index_ends = table;
      labels = labels;
      label_attributes = labels;
      label_count = labels;
      label_starts = labels;
      label_ends = labels;
      attributes = labels;
      attribute_count = labels;
      attribute_starts = labels;
      attribute_ends = labels;
    }

-- what a call on the store inside leaves
unfoldable pub with_inside : PointProbes ℕ → Outcome ℕ → ProbesOutcome ℕ
with_inside p o =
    probes_outcome o.answer (record { header = record { store = o.after.header; tallies = p.header.tallies }; memory = o.after.memory })

unfoldable pub sequence_made : PointStore ℕ → ℕ → Outcome ℕ
sequence_made p n = record { answer = done; after = with_window p.memory.last_known_shingle n p }

unfoldable pub called : Call → PointProbes ℕ → ProbesOutcome ℕ
called (set readings code) p = set_spec eqb 0 p readings code
called (set_kinds kinds xs code) p = set_kinds_spec eqb 0 p kinds xs code
called (add point code) p = with_inside p (add_spec eqb 0 (store_of p) point code)
called (dec i l) p = with_inside p (dec_spec (store_of p) i l)
called (at_sequence n) p = with_inside p (sequence_made (store_of p) n)

-- what a case says: the answers, the tallies, the last floats and the copy of one index, which is empty where there is no point
record Said : Type 0 where
  answers : List Answer
  tallies : List ℕ
  lasts : List ℕ
  copy : List ℕ

said : List Answer → List ℕ → List ℕ → List ℕ → Said
said answers tallies lasts copy = record { answers = answers; tallies = tallies; lasts = lasts; copy = copy }

run : ℕ → List Call → PointProbes ℕ → List Answer → Said
run i [] p answers = said answers p.header.tallies (last_floats (store_of p)) (copy_of (store_of p) i)
run i (c ∷ cs) p answers = let o = called c p in run i cs o.after (answers ++ o.answer ∷ [])

-- a refused opening ends the case
opening : Answer → ℕ → List Call → PointProbes ℕ → Said
opening (kept i l laid left) n cs p = said [] [] [] []
opening waiting n cs p = said [] [] [] []
opening done n cs p = run n cs p []
opening (is k) n cs p = said [] [] [] []
opening (says b) n cs p = said [] [] [] []
opening (refused k) n cs p = said (refused k ∷ []) [] [] []
opening (refused_after k j) n cs p = said [] [] [] []

started : ℕ → List Call → ProbesOutcome ℕ → Said
started n cs o = opening o.answer n cs o.after

-- a shape, the calls, and the index that is copied in the end
ran : Shape → List Call → ℕ → Said
ran s calls i = started i calls (probes_open_spec 0 s (table_text reason_classes) (rubbish s s.capacity))

-- a case: what the calls give, and what is said of it
record Case : Type 0 where
  found : Said
  expected : Said

-- eight of a kind
unfoldable pub eight : {A : Type 0} → A → List A
eight x = x ∷ x ∷ x ∷ x ∷ x ∷ x ∷ x ∷ x ∷ []

-- seven measured at x, with one reading first or last
first : ProbeReading ℕ → ℕ → List (ProbeReading ℕ)
first r x = r ∷ replicate 7 (measured x)

last : ProbeReading ℕ → ℕ → List (ProbeReading ℕ)
last r x = replicate 7 (measured x) ++ r ∷ []

-- a row a set, and rows of two sets
plain : Shape
plain = shape 8 1 2 true false false

windowed : Shape
windowed = shape 16 2 2 true false false

labelled_sets : Shape
labelled_sets = shape 16 2 2 true false true

rotating : Shape
rotating = shape 16 2 2 true true false

zeros : List ℕ
zeros = eight 0

cases : List Case
cases =
    -- an Estimated is stored and tallied, in a waiting set too; an Absent repeats its own probe's last stored float. The last number of a kept
    -- answer is the table length, here 2, less the live points
    record {
      found = ran windowed (set (first (estimated 5) 1) 0 ∷ set (last (estimated 6) 2) 0 ∷ set (first absent 3) 0 ∷ []) 1;
      expected = said (waiting ∷ kept 0 none (Whole 0) 1 ∷ kept 1 none (Joined 1) 0 ∷ []) (1 ∷ 0 ∷ 0 ∷ 0 ∷ 0 ∷ 0 ∷ 0 ∷ 1 ∷ []) (2 ∷ replicate 7 3) (replicate 7 2 ++ 6 ∷ 2 ∷ replicate 7 3);
    }
    -- an Absent repeats the last stored float, not the first, and an absent one after an absent one too
    ∷ record {
      found = ran windowed (set (first (measured 5) 1) 0 ∷ set (first (estimated 6) 2) 0 ∷ set (first absent 3) 0 ∷ set (last absent 4) 0 ∷ []) 1;
      expected = said (waiting ∷ kept 0 none (Whole 0) 1 ∷ kept 1 none (Joined 1) 0 ∷ refused 9 ∷ []) (1 ∷ replicate 7 0) (6 ∷ replicate 7 3) (6 ∷ replicate 7 2 ++ 6 ∷ replicate 7 3);
    }
    -- before the first set an Absent is refused with 16, and nothing is tallied or stored
    ∷ record {
      found = ran windowed (set (first absent 1) 0 ∷ set (estimated 4 ∷ replicate 6 (measured 1) ++ absent ∷ []) 0 ∷ []) 0;
      expected = said (refused 16 ∷ refused 16 ∷ []) zeros zeros [];
    }
    -- 16 before 4; a set without an Absent gets the store's 4, and one with a length other than eight 3
    ∷ record {
      found = ran labelled_sets (set (first absent 1) 24 ∷ set (first (estimated 2) 1) 24 ∷ set (absent ∷ replicate 8 (measured 1)) 24 ∷ set (eight (measured 1)) 3 ∷ set (first absent 9) 24 ∷ []) 0;
      expected = said (refused 16 ∷ refused 4 ∷ refused 3 ∷ waiting ∷ refused 4 ∷ []) zeros (eight 1) [];
    }
    -- 8 and 9 leave tallies and last floats
    ∷ record {
      found = ran plain (set (eight (estimated 1)) 0 ∷ set (eight (estimated 2)) 0 ∷ set (eight (estimated 3)) 0 ∷ []) 1;
      expected = said (kept 0 none (Whole 0) 1 ∷ kept 1 none (Whole 1) 0 ∷ refused 9 ∷ []) (eight 2) (eight 2) (eight 2);
    }
    ∷ record {
      found = ran (shape 8 1 1 true false true) (set (eight (estimated 1)) 7 ∷ set (eight (estimated 2)) 7 ∷ []) 0;
      expected = said (kept 0 0 (Whole 0) 0 ∷ refused 8 ∷ []) (eight 1) (eight 1) (eight 1);
    }
    -- so does 10
    ∷ record {
      found = ran rotating (set (eight (measured 1)) 0 ∷ set (eight (measured 2)) 0 ∷ set (eight (measured 3)) 0 ∷ dec 0 none ∷ set (eight (measured 4)) 0 ∷ dec 0 none ∷ set (eight (estimated 5)) 0 ∷ []) 1;
      expected = said (waiting ∷ kept 0 none (Whole 0) 1 ∷ kept 1 none (Joined 1) 0 ∷ done ∷ kept 0 none (Joined 2) 0 ∷ done ∷ refused 10 ∷ []) zeros (eight 4) (eight 3 ++ eight 2);
    }
    -- 12, once the sequence is at its limit; a tally may be as high
    ∷ record {
      found = ran plain (at_sequence 4294967294 ∷ set (eight (estimated 1)) 0 ∷ set (first absent 2) 0 ∷ []) 0;
      expected = said (done ∷ kept 0 none (Whole 0) 1 ∷ refused 12 ∷ []) (eight 1) (eight 1) (eight 1);
    }
    -- an add on the store inside raises the sequence: an Absent then repeats its floats
    ∷ record {
      found = ran plain (add (1 ∷ 2 ∷ 3 ∷ 4 ∷ 5 ∷ 6 ∷ 7 ∷ 8 ∷ []) 0 ∷ set (eight absent) 0 ∷ []) 1;
      expected = said (kept 0 none (Whole 0) 1 ∷ kept 1 none (Whole 1) 0 ∷ []) zeros (1 ∷ 2 ∷ 3 ∷ 4 ∷ 5 ∷ 6 ∷ 7 ∷ 8 ∷ []) (1 ∷ 2 ∷ 3 ∷ 4 ∷ 5 ∷ 6 ∷ 7 ∷ 8 ∷ []);
    }
    -- kinds: 3, then 11, then 16; an Absent's element is not looked at
    ∷ record {
      found = ran plain (set_kinds (replicate 7 0) (eight 1) 0 ∷ set_kinds (3 ∷ replicate 6 0) (eight 1) 0 ∷ set_kinds (eight 3) (replicate 9 1) 0 ∷ set_kinds (2 ∷ replicate 6 0 ++ 3 ∷ []) (eight 1) 0 ∷ set_kinds (2 ∷ replicate 7 0) (eight 1) 0 ∷ set_kinds (eight 1) (eight 1) 0 ∷ set_kinds (2 ∷ 1 ∷ replicate 6 0) (eight 9) 0 ∷ []) 1;
      expected = said (refused 3 ∷ refused 3 ∷ refused 3 ∷ refused 11 ∷ refused 16 ∷ kept 0 none (Whole 0) 1 ∷ kept 1 none (Whole 1) 0 ∷ []) (1 ∷ 2 ∷ replicate 6 1) (1 ∷ replicate 7 9) (1 ∷ replicate 7 9);
    }
    -- openings: another base, no internal shingling, outside the bounds; and memory too short, after these
    ∷ record { found = ran (shape 8 2 2 true false false) [] 0; expected = said (refused 2 ∷ []) [] [] [] }
    ∷ record { found = ran (shape 16 1 2 true false false) [] 0; expected = said (refused 2 ∷ []) [] [] [] }
    ∷ record { found = ran (shape 8 1 2 false false false) [] 0; expected = said (refused 2 ∷ []) [] [] [] }
    ∷ record { found = ran (shape 72 9 2 true false false) [] 0; expected = said (refused 2 ∷ []) [] [] [] }
    ∷ record { found = started 0 [] (probes_open_spec 0 (shape 8 2 2 true false false) (table_text reason_classes) (rubbish plain 1)); expected = said (refused 2 ∷ []) [] [] [] }
    ∷ record { found = started 0 [] (probes_open_spec 0 plain (table_text reason_classes) (rubbish plain 1)); expected = said (refused 1 ∷ []) [] [] [] }
    ∷ record { found = ran (shape 64 8 2 true false false) [] 0; expected = said [] zeros zeros [] }
    ∷ []

-- an answer as numbers: which kind it is, and what it holds
unfoldable pub numbers : Answer → List ℕ
numbers (kept i l (Whole place) left) = 0 ∷ i ∷ l ∷ 0 ∷ place ∷ left ∷ []
numbers (kept i l (Joined place) left) = 0 ∷ i ∷ l ∷ 1 ∷ place ∷ left ∷ []
numbers waiting = 1 ∷ []
numbers done = 2 ∷ []
numbers (is n) = 3 ∷ n ∷ []
numbers (says b) = 4 ∷ one b ∷ []
numbers (refused n) = 5 ∷ n ∷ []
numbers (refused_after n k) = 6 ∷ n ∷ k ∷ []

unfoldable pub same : List ℕ → List ℕ → Bool
same xs ys = all_equal eqb xs ys

agree : Said → Said → Bool
agree a b =
    all_equal (λ x y. same (numbers x) (numbers y)) a.answers b.answers
    && (same a.tallies b.tallies && (same a.lasts b.lasts && same a.copy b.copy))

stand : List Case → Bool
stand [] = true
stand (c ∷ cs) = agree c.found c.expected && stand cs

-- every case gives what is said of it
probe_cases : stand cases ≡ true
unfolding said run opening started ran first last plain windowed labelled_sets rotating zeros cases agree stand shape rubbish with_inside sequence_made called eight numbers same last_floats any_absent filled tallied of_kinds any_above eight_probes tallies_within probes_well_formed probes_open_decided probes_open_spec no_earlier set_decided kinds_decided set_checked set_spec set_kinds_spec every_below all_equal pushed changed taken released inside holders is_free free_number in_bounds none_shared capacity_allowed stack_lent manager_well_formed wrapping_sub wrapping_add alignment zeros_before holds live_below moved grown_blocks blocks block_moves copied_down settled block_down blocks_down written_by_blocks compacted turn turned copied grown written_count laid_as laid_elements laid_free place_of overlaps row_to_lay moved_window managed free_uncounted counts_fit index_taken lowered code_decided room_decided dec_decided open_decided opened_memory opened dec_test place_after_dec decremented dec_spec compacted_rows grown_rows short room_made copy_of point_length waits table_full entries_filled add_decided window_after sequenced row_of label_given labelled table_grown placed joins overflows laid_rows laid_how kept_after index_given free_left keeps add_spec bounds_hold start_allowed rotation_allowed lent_enough form_decided live touch_decided table_length_well store_length_well free_start_well empty_uncounted places_distinct places_end sequence_well well_formed sum_below count_below first_below raised in_use holds_class class_slot slot_taken label_taken label_lowered slot_sum differ label_tables_lent codes_allowed slots_hold_classes classes_distinct slots_summed labels_well labels_opened labels_lent reason_classes table_read table_text numbered classes_of lines line fields field columns column value_from digit table_allowed some_below largest_below
probe_cases = refl

-- the tallies after some sets, in a slice of n entries: one that is not as long as eight gets 3 and is left as it was
readings : ℕ → List Call → PointProbes ℕ → List ℕ
readings n [] p = numbers (tallies_spec p (replicate n 77)).answer ++ (tallies_spec p (replicate n 77)).out
readings n (c ∷ cs) p = readings n cs (called c p).after

read : ℕ → List Call → List ℕ
read n cs = readings n cs (probes_open_spec 0 plain (table_text reason_classes) (rubbish plain 2)).after

tally_readings : (same (read 8 (set (first (estimated 5) 1) 0 ∷ [])) (2 ∷ 1 ∷ replicate 7 0)
    && (same (read 7 []) (5 ∷ 3 ∷ replicate 7 77) && same (read 9 []) (5 ∷ 3 ∷ replicate 9 77))) ≡ true
unfolding readings read first plain probes_form_decided tallies_spec shape rubbish with_inside sequence_made called eight numbers same last_floats any_absent filled tallied of_kinds any_above eight_probes tallies_within probes_well_formed probes_open_decided probes_open_spec no_earlier set_decided kinds_decided set_checked set_spec set_kinds_spec every_below all_equal pushed changed taken released inside holders is_free free_number in_bounds none_shared capacity_allowed stack_lent manager_well_formed wrapping_sub wrapping_add alignment zeros_before holds live_below moved grown_blocks blocks block_moves copied_down settled block_down blocks_down written_by_blocks compacted turn turned copied grown written_count laid_as laid_elements laid_free place_of overlaps row_to_lay moved_window managed free_uncounted counts_fit index_taken lowered code_decided room_decided dec_decided open_decided opened_memory opened dec_test place_after_dec decremented dec_spec compacted_rows grown_rows short room_made copy_of point_length waits table_full entries_filled add_decided window_after sequenced row_of label_given labelled table_grown placed joins overflows laid_rows laid_how kept_after index_given free_left keeps add_spec bounds_hold start_allowed rotation_allowed lent_enough form_decided live touch_decided table_length_well store_length_well free_start_well empty_uncounted places_distinct places_end sequence_well well_formed sum_below count_below first_below raised in_use holds_class class_slot slot_taken label_taken label_lowered slot_sum differ label_tables_lent codes_allowed slots_hold_classes classes_distinct slots_summed labels_well labels_opened labels_lent reason_classes table_read table_text numbered classes_of lines line fields field columns column value_from digit table_allowed some_below largest_below
tally_readings = refl
