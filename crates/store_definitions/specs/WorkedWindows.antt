-- Document 01, 'Worked windows': cases A to H and a small start as one table, and the theorem that the calls' definitions give what it
-- says. The elements are float words, compared as the calls compare them; the memory lent to each opening holds rubbish.
use Rattle.std.specs.Prelude.{ℕ, ◌*◌, Bool, true, false, ◌&&◌, List, [], ◌∷◌, ◌++◌, ◌≡◌, refl, take, replicate, eqb, pos}
use Rattle.std.specs.Float.{binary32}
use Rattle.std.specs.Float.Ieee.{of_int, to_bits}
use Rattle.placement.specs.declared.Laid.TheVariants.{Whole, Joined}
use Rattle.terms.specs.Below.{one, every_below, sum_below, count_below}
use Rattle.terms.specs.Rows.{all_equal}
use Rattle.float_bits.specs.Words.{word_of, words_equal}
use Rattle.decimal.specs.Field.{column, columns, field, digit, value_from}
use Rattle.decimal.specs.Lines.{fields, line, lines}
use Rattle.class_table.specs.Reasons.{reason_classes}
use Rattle.class_table.specs.Table.{some_below, largest_below, table_allowed}
use Rattle.class_table.specs.Text.{numbered, table_text, classes_of, table_read}
use Rattle.interval_store_manager.specs.Calls.{pushed, changed, taken, released}
use Rattle.interval_store_manager.specs.Intervals.{inside, holders, is_free, free_number, in_bounds, none_shared}
use Rattle.interval_store_manager.specs.WellFormed.{capacity_allowed, lent_enough as stack_lent, well_formed as manager_well_formed}
use Rattle.placement.specs.Alignment.{wrapping_sub, wrapping_add, alignment, zeros_before}
use Rattle.placement.specs.Compaction.{holds, live_below, moved, grown_blocks, blocks, block_moves, copied_down, settled, block_down, blocks_down, written_by_blocks, compacted}
use Rattle.placement.specs.Copying.{turn, turned, copied}
use Rattle.placement.specs.Growth.{grown}
use Rattle.placement.specs.Laying.{written_count, laid_as, laid_elements, laid_free, place_of}
use Rattle.placement.specs.Overlap.{overlaps}
use Rattle.placement.specs.Row.{row_to_lay, moved_window}
use Rattle.labels.specs.Counted.{managed, free_uncounted, counts_fit, index_taken, lowered, live_number}
use Rattle.labels.specs.Decisions.{none, code_decided, room_decided, dec_decided}
use Rattle.store_definitions.specs.declared.Shape.{Shape}
use Rattle.store_definitions.specs.Memory.{Memory, PointStore}
use Rattle.store_definitions.specs.Parts.{table_length}
use Rattle.store_definitions.specs.Answers.{Answer, kept, waiting, done, is, says, refused, refused_after, Outcome, Output, output}
use Rattle.store_definitions.specs.Opening.{open_decided, opened_memory, opened, open_spec}
use Rattle.store_definitions.specs.Counting.{dec_test, place_after_dec, decremented, dec_spec, live_number_spec, free_start_spec}
use Rattle.store_definitions.specs.Rows.{compacted_rows, grown_rows, short, room_made, compact_spec, copy_of, copy_decided, copy_written, copy_spec}
use Rattle.store_definitions.specs.Adding.{point_length, waits, table_full, add_decided, window_after, sequenced, row_of, label_given, labelled, entries_filled, table_grown, placed, joins, overflows, laid_rows, laid_how, kept_after, index_given, free_left, keeps, add_spec}
use Rattle.store_definitions.specs.Bounds.{bounds_hold, start_allowed, rotation_allowed, lent_enough}
use Rattle.store_definitions.specs.Decisions.{form_decided, live, touch_decided}
use Rattle.store_definitions.specs.WellFormed.{table_length_well, store_length_well, free_start_well, empty_uncounted, places_distinct, places_end, sequence_well, well_formed}

data Call : Type 0 where
  add : List ℕ → Call
  dec : ℕ → Call
  compact : Call

-- dimensions 4, shingle size 2, labels off
shape : (internal rotation : Bool) → (capacity start : ℕ) → Shape
shape internal rotation capacity start =
    record {
      dimensions = 4;
      shingle_size = 2;
      capacity = capacity;
      initial_capacity = start;
      internal_shingling = internal;
      internal_rotation = rotation;
      store_labels = false;
    }

rubbish : Shape → Memory ℕ
rubbish h =
    record {
      store = replicate (h.capacity * 4) 77;
      last_known_shingle = replicate 4 77;
      reference_count = replicate h.capacity 77;
      location = replicate h.capacity 77;
      index_starts = replicate h.capacity 77;
      index_ends = replicate h.capacity 77;
      labels = [];
      label_attributes = [];
      label_count = [];
      label_starts = [];
      label_ends = [];
      attributes = [];
      attribute_count = [];
      attribute_starts = [];
      attribute_ends = [];
    }

-- the words of whole numbers' floats
floats : List ℕ → List ℕ
floats [] = []
floats (n ∷ ns) = word_of (of_int binary32 (pos n)) ∷ floats ns

words_of_floats : floats (0 ∷ 1 ∷ 2 ∷ 3 ∷ 4 ∷ []) ≡ 0 ∷ 0x3f80_0000 ∷ 0x4000_0000 ∷ 0x4040_0000 ∷ 0x4080_0000 ∷ []
unfolding floats of_int to_bits
words_of_floats = refl

called : Call → PointStore ℕ → Outcome ℕ
called (add point) p = add_spec words_equal 0 p (floats point) 0
called (dec i) p = dec_spec p i none
called compact p = compact_spec 0 p

-- what a case says: the answers, the opening's first, the places of the table, the floats before the free start, and what free
-- start, live number and the copy of one index answer
record Said : Type 0 where
  answers : List Answer
  places : List ℕ
  before : List ℕ
  free : Answer
  live : Answer
  copy : Output ℕ

run : ℕ → List Call → Outcome ℕ → List Answer → Said
run i [] o answers =
    let p = o.after in
    record {
      answers = answers ++ o.answer ∷ [];
      places = take (table_length p.header) p.memory.location;
      before = take p.header.start_free_region p.memory.store;
      free = free_start_spec p;
      live = live_number_spec p;
      copy = copy_spec p i (replicate 4 77);
    }
run i (c ∷ cs) o answers = run i cs (called c o.after) (answers ++ o.answer ∷ [])

record Case : Type 0 where
  opening : Shape
  calls : List Call
  copied_index : ℕ
  said : Said

ran : Case → Said
ran c = run c.copied_index c.calls (open_spec 0 c.opening (table_text reason_classes) (rubbish c.opening)) []

-- a copy that is given
copies : List ℕ → Output ℕ
copies row = output done (floats row)

abbrev plain : Shape
plain = shape true false 10 5

abbrev rotating : Shape
rotating = shape true true 10 5

abbrev five : List Call
five = add (1 ∷ 2 ∷ []) ∷ add (3 ∷ 4 ∷ []) ∷ add (5 ∷ 6 ∷ []) ∷ add (7 ∷ 8 ∷ []) ∷ add (9 ∷ 10 ∷ []) ∷ []

abbrev five_answers : List Answer
five_answers = done ∷ waiting ∷ kept 0 none (Whole 0) 4 ∷ kept 1 none (Joined 1) 3 ∷ kept 2 none (Joined 2) 2 ∷ kept 3 none (Joined 3) 1 ∷ []

abbrev e : ℕ
e = 65535

cases : List Case
cases =
    -- A: add 1 2: Waiting
    record {
      opening = plain;
      calls = take 1 five;
      copied_index = 0;
      said = record { answers = take 2 five_answers; places = e ∷ e ∷ e ∷ e ∷ e ∷ []; before = []; free = is 0; live = is 0; copy = output (refused 5) (replicate 4 77) };
    }
    -- the last number of a kept answer is the table length, here 5, less the live points
    -- B: 3 4: index 0, Whole, place 0, free start 4
    ∷ record {
      opening = plain;
      calls = take 2 five;
      copied_index = 0;
      said = record { answers = take 3 five_answers; places = 0 ∷ e ∷ e ∷ e ∷ e ∷ []; before = floats (1 ∷ 2 ∷ 3 ∷ 4 ∷ []); free = is 4; live = is 1; copy = copies (1 ∷ 2 ∷ 3 ∷ 4 ∷ []) };
    }
    -- C: 5 6: index 1, Joined, place 1, free start 6
    ∷ record {
      opening = plain;
      calls = take 3 five;
      copied_index = 1;
      said = record { answers = take 4 five_answers; places = 0 ∷ 1 ∷ e ∷ e ∷ e ∷ []; before = floats (1 ∷ 2 ∷ 3 ∷ 4 ∷ 5 ∷ 6 ∷ []); free = is 6; live = is 2; copy = copies (3 ∷ 4 ∷ 5 ∷ 6 ∷ []) };
    }
    -- then 7 8 and 9 10: indices 2, 3, places 2, 3, free start 10
    ∷ record {
      opening = plain;
      calls = five;
      copied_index = 3;
      said = record { answers = five_answers; places = 0 ∷ 1 ∷ 2 ∷ 3 ∷ e ∷ []; before = floats (1 ∷ 2 ∷ 3 ∷ 4 ∷ 5 ∷ 6 ∷ 7 ∷ 8 ∷ 9 ∷ 10 ∷ []); free = is 10; live = is 4; copy = copies (7 ∷ 8 ∷ 9 ∷ 10 ∷ []) };
    }
    -- D: dec 0, dec 1, compact: places 0 and 1 for indices 2 and 3, free start 6; copy 2 is 5 6 7 8
    ∷ record {
      opening = plain;
      calls = five ++ dec 0 ∷ dec 1 ∷ compact ∷ [];
      copied_index = 2;
      said = record { answers = five_answers ++ done ∷ done ∷ done ∷ []; places = e ∷ e ∷ 0 ∷ 1 ∷ e ∷ []; before = floats (5 ∷ 6 ∷ 7 ∷ 8 ∷ 9 ∷ 10 ∷ []); free = is 6; live = is 2; copy = copies (5 ∷ 6 ∷ 7 ∷ 8 ∷ []) };
    }
    -- E: add 11 12: index 0, Joined, place 2
    ∷ record {
      opening = plain;
      calls = five ++ dec 0 ∷ dec 1 ∷ compact ∷ add (11 ∷ 12 ∷ []) ∷ [];
      copied_index = 0;
      said = record { answers = five_answers ++ done ∷ done ∷ done ∷ kept 0 none (Joined 2) 2 ∷ []; places = 2 ∷ e ∷ 0 ∷ 1 ∷ e ∷ []; before = floats (5 ∷ 6 ∷ 7 ∷ 8 ∷ 9 ∷ 10 ∷ 11 ∷ 12 ∷ []); free = is 8; live = is 3; copy = copies (9 ∷ 10 ∷ 11 ∷ 12 ∷ []) };
    }
    -- F: rotating, after C, copy 1 is 5 6 3 4
    ∷ record {
      opening = rotating;
      calls = take 3 five;
      copied_index = 1;
      said = record { answers = take 4 five_answers; places = 0 ∷ 1 ∷ e ∷ e ∷ e ∷ []; before = floats (1 ∷ 2 ∷ 3 ∷ 4 ∷ 5 ∷ 6 ∷ []); free = is 6; live = is 2; copy = copies (5 ∷ 6 ∷ 3 ∷ 4 ∷ []) };
    }
    -- G: rotating, the five adds, dec 0, compact: two zeros, free start still 10
    ∷ record {
      opening = rotating;
      calls = five ++ dec 0 ∷ compact ∷ [];
      copied_index = 1;
      said = record { answers = five_answers ++ done ∷ done ∷ []; places = e ∷ 1 ∷ 2 ∷ 3 ∷ e ∷ []; before = floats (0 ∷ 0 ∷ 3 ∷ 4 ∷ 5 ∷ 6 ∷ 7 ∷ 8 ∷ 9 ∷ 10 ∷ []); free = is 10; live = is 3; copy = copies (5 ∷ 6 ∷ 3 ∷ 4 ∷ []) };
    }
    -- G: without rotation 8
    ∷ record {
      opening = plain;
      calls = five ++ dec 0 ∷ compact ∷ [];
      copied_index = 1;
      said = record { answers = five_answers ++ done ∷ done ∷ []; places = e ∷ 0 ∷ 1 ∷ 2 ∷ e ∷ []; before = floats (3 ∷ 4 ∷ 5 ∷ 6 ∷ 7 ∷ 8 ∷ 9 ∷ 10 ∷ []); free = is 8; live = is 3; copy = copies (3 ∷ 4 ∷ 5 ∷ 6 ∷ []) };
    }
    -- H: no internal shingling, rotating, capacity 2, start 2: add 1 2 3 4; add 3 4 5 6; dec 0; add 9 9 9 9: refused 10
    ∷ record {
      opening = shape false true 2 2;
      calls = add (1 ∷ 2 ∷ 3 ∷ 4 ∷ []) ∷ add (3 ∷ 4 ∷ 5 ∷ 6 ∷ []) ∷ dec 0 ∷ add (9 ∷ 9 ∷ 9 ∷ 9 ∷ []) ∷ [];
      copied_index = 1;
      said = record { answers = done ∷ kept 0 none (Whole 0) 1 ∷ kept 1 none (Joined 1) 0 ∷ done ∷ refused 10 ∷ []; places = e ∷ 1 ∷ []; before = floats (0 ∷ 0 ∷ 3 ∷ 4 ∷ 5 ∷ 6 ∷ []); free = is 6; live = is 1; copy = copies (5 ∷ 6 ∷ 3 ∷ 4 ∷ []) };
    }
    -- a start of 1 grows to its capacity of 3, by an index and a point's floats at a time, so none is left after any add; there an index
    -- is denied
    ∷ record {
      opening = shape false false 3 1;
      calls = add (1 ∷ 2 ∷ 3 ∷ 4 ∷ []) ∷ add (5 ∷ 6 ∷ 7 ∷ 8 ∷ []) ∷ add (9 ∷ 9 ∷ 9 ∷ 9 ∷ []) ∷ add (1 ∷ 2 ∷ 3 ∷ 4 ∷ []) ∷ [];
      copied_index = 2;
      said = record { answers = done ∷ kept 0 none (Whole 0) 0 ∷ kept 1 none (Whole 2) 0 ∷ kept 2 none (Whole 4) 0 ∷ refused 9 ∷ []; places = 0 ∷ 2 ∷ 4 ∷ []; before = floats (1 ∷ 2 ∷ 3 ∷ 4 ∷ 5 ∷ 6 ∷ 7 ∷ 8 ∷ 9 ∷ 9 ∷ 9 ∷ 9 ∷ []); free = is 12; live = is 3; copy = copies (9 ∷ 9 ∷ 9 ∷ 9 ∷ []) };
    }
    ∷ []

-- an answer as numbers: which kind it is, and what it holds
numbers : Answer → List ℕ
numbers (kept i l (Whole place) left) = 0 ∷ i ∷ l ∷ 0 ∷ place ∷ left ∷ []
numbers (kept i l (Joined place) left) = 0 ∷ i ∷ l ∷ 1 ∷ place ∷ left ∷ []
numbers waiting = 1 ∷ []
numbers done = 2 ∷ []
numbers (is n) = 3 ∷ n ∷ []
numbers (says b) = 4 ∷ one b ∷ []
numbers (refused n) = 5 ∷ n ∷ []
numbers (refused_after n k) = 6 ∷ n ∷ k ∷ []

same : List ℕ → List ℕ → Bool
same xs ys = all_equal eqb xs ys

alike : Answer → Answer → Bool
alike a b = same (numbers a) (numbers b)

agree : Said → Said → Bool
agree a b =
    all_equal alike a.answers b.answers
    && (same a.places b.places
    && (same a.before b.before
    && (alike a.free b.free
    && (alike a.live b.live && (alike a.copy.answer b.copy.answer && same a.copy.out b.copy.out)))))

hold : List Case → Bool
hold [] = true
hold (c ∷ cs) = agree (ran c) c.said && hold cs

-- every case gives what is said of it
worked_windows : hold cases ≡ true
unfolding shape rubbish floats called run ran copies cases numbers same alike agree hold of_int to_bits words_equal table_read table_text numbered classes_of lines line fields field columns column value_from digit reason_classes table_allowed some_below largest_below every_below sum_below count_below all_equal pushed changed taken released inside holders is_free free_number in_bounds none_shared capacity_allowed stack_lent manager_well_formed wrapping_sub wrapping_add alignment zeros_before holds live_below moved grown_blocks blocks block_moves copied_down settled block_down blocks_down written_by_blocks compacted turn turned copied grown written_count laid_as laid_elements laid_free place_of overlaps row_to_lay moved_window managed free_uncounted counts_fit index_taken lowered code_decided room_decided dec_decided open_decided opened_memory opened open_spec dec_test place_after_dec decremented dec_spec compacted_rows grown_rows short room_made compact_spec copy_of copy_decided copy_written copy_spec live_number live_number_spec free_start_spec point_length waits table_full add_decided window_after sequenced row_of label_given labelled entries_filled table_grown placed joins overflows laid_rows laid_how kept_after index_given free_left keeps add_spec bounds_hold start_allowed rotation_allowed lent_enough form_decided live touch_decided table_length_well store_length_well free_start_well empty_uncounted places_distinct places_end sequence_well well_formed
worked_windows = refl
