-- What the calls and their answers of the lists say, and each clause of the guarantee computed on them, with the equality that the
-- contracts use.
use Rattle.std.specs.Prelude.{[], ◌∷◌, ◌≡◌, refl, take, replicate}
use Rattle.terms.specs.Below.{every_below, sum_below, count_below}
use Rattle.terms.specs.Rows.{all_equal}
use Rattle.terms.specs.Search.{first_below}
use Rattle.float_bits.specs.Words.{plus_zero, minus_zero, words_equal}
use Rattle.decimal.specs.Field.{column, columns, field, digit, value_from}
use Rattle.decimal.specs.Lines.{fields, line, lines}
use Rattle.class_table.specs.Reasons.{reason_classes}
use Rattle.class_table.specs.Table.{some_below, largest_below, table_allowed}
use Rattle.class_table.specs.Text.{numbered, table_text, classes_of, table_read}
use Rattle.interval_store_manager.specs.Calls.{pushed, changed, taken, released}
use Rattle.interval_store_manager.specs.Intervals.{inside, holders, is_free, free_number, in_bounds, none_shared}
use Rattle.interval_store_manager.specs.WellFormed.{capacity_allowed, lent_enough as stack_lent, well_formed as manager_well_formed}
use Rattle.placement.specs.declared.Laid.TheVariants.{Whole, Joined}
use Rattle.placement.specs.Alignment.{wrapping_sub, wrapping_add, alignment, zeros_before}
use Rattle.placement.specs.AlignmentLaws.{point_room}
use Rattle.placement.specs.Compaction.{holds, live_below, moved, grown_blocks, blocks, block_moves, copied_down, settled, block_down, blocks_down, written_by_blocks, compacted}
use Rattle.placement.specs.Copying.{turn, turned, copied}
use Rattle.placement.specs.Growth.{grown}
use Rattle.placement.specs.Laying.{written_count, laid_as, laid_elements, laid_free, place_of}
use Rattle.placement.specs.Overlap.{overlaps}
use Rattle.placement.specs.Row.{row_to_lay, moved_window}
use Rattle.labels.specs.Counted.{managed, free_uncounted, counts_fit, index_taken, raised, lowered, live_number}
use Rattle.labels.specs.Decisions.{none, code_decided, room_decided, in_use, inc_decided, dec_decided}
use Rattle.labels.specs.Labels.{labels_well, differ, slot_sum, label_taken, slot_taken, class_slot, holds_class, tables_lent, codes_allowed, slots_hold_classes, classes_distinct, slots_summed, label_raised, label_lowered}
use Rattle.labels.specs.Opening.{labels_opened}
use Rattle.store_definitions.specs.Answers.{kept, done, is, refused, refused_after, output}
use Rattle.store_definitions.specs.Opening.{opened_memory, opened}
use Rattle.store_definitions.specs.Counting.{inc_test, incremented, inc_spec, pair_decided, pair_done, adjust_from, adjust_spec, dec_test, place_after_dec, decremented, dec_spec, count_spec, live_number_spec, free_start_spec}
use Rattle.store_definitions.specs.Rows.{compacted_rows, grown_rows, short, room_made, compact_spec, copy_of, copy_decided, copy_written, copy_spec}
use Rattle.store_definitions.specs.Adding.{point_length, waits, table_full, entries_filled, add_decided, window_after, sequenced, row_of, label_given, labelled, table_grown, placed, joins, overflows, laid_rows, laid_how, kept_after, index_given, free_left, keeps, add_spec}
use Rattle.store_definitions.specs.Bounds.{bounds_hold, rotation_allowed, labels_lent, lent_enough}
use Rattle.store_definitions.specs.Decisions.{form_decided, live, touch_decided}
use Rattle.store_definitions.specs.WellFormed.{table_length_well, store_length_well, free_start_well, empty_uncounted, places_distinct, places_end, sequence_well, well_formed}
use Rattle.guarantee.specs.Calls.{copy_call, count_call, live_number_call, free_start_call}
use Rattle.guarantee.specs.Run.{add, inc, compact, after}
use Rattle.guarantee.specs.History.{dead, alive, pair_changes, pairs_changes, joined_points, row_of_add, changed_by, recorded, history}
use Rattle.guarantee.specs.Guarantee.{number_in, live_indices}
use Rattle.guarantee.specs.CaseLists.{plain, turning, small_plain, small_turning, small_labelled, fresh, past, store, answer, gave, list_a, list_b, list_c, list_four, list_full, list_d, list_g, list_adjust, refused_adjust, list_insert, list_small, third, list_labelled, list_zeros, a_nan, other_nan, list_nan}

-- the clauses on these lists, computed
pub record Computed : Type 0 where
  -- (d): four kept adds less two decs; one kept add, two incs, one dec; one kept add and the inc of the pair that stands
  pub d_d : sum_below 10 (λ i. number_in (count_call (store plain list_d) i)) ≡ 2
  pub d_adjusted : sum_below 10 (λ i. number_in (count_call (store plain list_adjust) i)) ≡ 2
  pub d_insert : sum_below 10 (λ i. number_in (count_call (store plain list_insert) i)) ≡ 2
  -- (a)
  pub a_waits : count_call (store plain list_a) 0 ≡ refused 5
  pub a_lives : count_call (store plain list_d) 2 ≡ is 1
  pub a_died : count_call (store plain list_d) 0 ≡ refused 5
  pub a_adjusted : count_call (store plain list_adjust) 0 ≡ is 2
  -- the second pair of the adjust is refused, and the first stands
  pub insert_refused : answer plain refused_adjust list_b ≡ refused_after 5 1
  pub a_insert : count_call (store plain list_insert) 0 ≡ is 2
  -- (c): right after the add
  pub c_b : (copy_call (store plain list_b) 0 (replicate 4 0)).out ≡ 1 ∷ 2 ∷ 3 ∷ 4 ∷ []
  pub c_c : (copy_call (store plain list_c) 1 (replicate 4 0)).out ≡ 3 ∷ 4 ∷ 5 ∷ 6 ∷ []
  pub c_four : (copy_call (store plain list_four) 2 (replicate 4 0)).out ≡ 5 ∷ 6 ∷ 7 ∷ 8 ∷ []
  -- (b): and still after D
  pub b_d : (copy_call (store plain list_d) 2 (replicate 4 0)).out ≡ 5 ∷ 6 ∷ 7 ∷ 8 ∷ []
  -- (b), (c) with rotation: after the compact of G the copy is the row turned
  pub b_g : copy_call (store turning list_g) 1 (replicate 4 0) ≡ output done (5 ∷ 6 ∷ 3 ∷ 4 ∷ [])
  -- (e), (f), and the readings
  pub e_d : take 4 (store plain list_d).memory.location ≡ 65535 ∷ 65535 ∷ 0 ∷ 1 ∷ []
  pub f_d : free_start_call (store plain list_d) ≡ is 6
  pub number_d : live_number_call (store plain list_d) ≡ is 2
  -- (f) with rotation: one live index, and its room of three floats is all used
  pub f_small : free_start_call (store small_turning (compact ∷ list_small)) ≡ is 3
  -- (g), (h): without rotation compaction makes room; with it none is made, and the bound says so
  pub g_small : answer small_plain third list_small ≡ kept 0 none (Whole 2) 0
  pub h_small : answer small_turning third list_small ≡ refused 10
  -- (i): a table of five indices and one live point; two that were given up are free again, and one of them is taken; the table is full
  -- and gains one index, which is taken
  pub i_b : answer plain (add (3 ∷ 4 ∷ []) 0) list_a ≡ kept 0 none (Whole 0) 4
  pub i_again : answer plain (add (11 ∷ 12 ∷ []) 0) list_d ≡ kept 0 none (Joined 2) 2
  pub i_grown : answer plain (add (13 ∷ 14 ∷ []) 0) list_full ≡ kept 5 none (Joined 5) 0
  -- labels on: a code above 23, a label index not in use, and those that are
  pub label_code : answer small_labelled (add (3 ∷ 4 ∷ []) 24) [] ≡ refused 4
  pub label_not_used : answer small_labelled (inc 0 1) list_labelled ≡ refused 6
  pub label_kept : answer small_labelled (add (5 ∷ 6 ∷ []) 0) list_labelled ≡ kept 1 1 (Whole 2) 0
  pub a_labelled : count_call (store small_labelled list_labelled) 0 ≡ is 2
  -- −0.0 does not join 0.0: the row is laid whole, and its zero keeps its sign
  pub zeros_whole : answer small_plain (add (minus_zero ∷ 2 ∷ []) 0) (add (1 ∷ plus_zero ∷ []) 0 ∷ []) ≡ kept 1 none (Whole 2) 0
  pub c_zeros : (copy_call (store small_plain list_zeros) 1 (replicate 2 0)).out ≡ minus_zero ∷ 2 ∷ []
  -- a NaN joins a NaN of the same bits, and its word comes back; one of other bits does not
  pub nan_joined : answer small_plain (add (a_nan ∷ 2 ∷ []) 0) (add (1 ∷ a_nan ∷ []) 0 ∷ []) ≡ kept 1 none (Joined 1) 0
  pub other_nan_whole : answer small_plain (add (other_nan ∷ 2 ∷ []) 0) (add (1 ∷ a_nan ∷ []) 0 ∷ []) ≡ kept 1 none (Whole 2) 0
  pub c_nan : (copy_call (store small_plain list_nan) 1 (replicate 2 0)).out ≡ a_nan ∷ 2 ∷ []

pub computed : Computed
unfolding fresh opened_memory opened after history recorded changed_by pair_changes pairs_changes joined_points row_of_add live_indices every_below sum_below count_below all_equal pushed changed taken released inside holders is_free free_number in_bounds none_shared capacity_allowed stack_lent manager_well_formed wrapping_sub wrapping_add alignment zeros_before point_room holds live_below moved grown_blocks blocks block_moves copied_down settled block_down blocks_down written_by_blocks compacted turn turned copied grown written_count laid_as laid_elements laid_free place_of overlaps row_to_lay moved_window managed free_uncounted counts_fit index_taken lowered live_number code_decided room_decided inc_decided dec_decided raised inc_test incremented inc_spec pair_decided pair_done adjust_from adjust_spec dec_test place_after_dec decremented dec_spec compacted_rows grown_rows short room_made compact_spec copy_of point_length waits table_full entries_filled add_decided window_after sequenced row_of label_given labelled table_grown placed joins overflows laid_rows laid_how kept_after index_given free_left keeps add_spec bounds_hold rotation_allowed lent_enough form_decided live touch_decided table_length_well store_length_well free_start_well empty_uncounted places_distinct places_end sequence_well well_formed words_equal table_read table_text numbered classes_of lines line fields field columns column value_from digit table_allowed some_below largest_below labels_lent labels_opened labels_well differ slot_sum label_taken slot_taken class_slot holds_class tables_lent codes_allowed slots_hold_classes classes_distinct slots_summed label_raised label_lowered first_below reason_classes in_use live_number_spec free_start_spec count_spec copy_decided copy_written copy_spec
computed =
    record {
      d_d = refl;
      d_adjusted = refl;
      d_insert = refl;
      a_waits = refl;
      a_lives = refl;
      a_died = refl;
      a_adjusted = refl;
      insert_refused = refl;
      a_insert = refl;
      c_b = refl;
      c_c = refl;
      c_four = refl;
      b_d = refl;
      b_g = refl;
      e_d = refl;
      f_d = refl;
      number_d = refl;
      f_small = refl;
      g_small = refl;
      h_small = refl;
      i_b = refl;
      i_again = refl;
      i_grown = refl;
      label_code = refl;
      label_not_used = refl;
      label_kept = refl;
      a_labelled = refl;
      zeros_whole = refl;
      c_zeros = refl;
      nan_joined = refl;
      other_nan_whole = refl;
      c_nan = refl;
    }

-- what the calls and their answers say
pub record Said : Type 0 where
  -- A: the add waits
  pub a : (past plain list_a).life 0 ≡ dead
  -- B: index 0, place 0, the row 1 2 3 4; C: index 1, place 1, the row 3 4 5 6
  pub b : (past plain list_b).life 0 ≡ alive 0 0 (gave list_b (1 ∷ 2 ∷ 3 ∷ 4 ∷ []) 0)
  pub c : (past plain list_c).life 1 ≡ alive 0 0 (gave list_c (3 ∷ 4 ∷ 5 ∷ 6 ∷ []) 1)
  -- the accepted pair's inc and dec count, the refused one's not
  pub adjusted : (past plain list_adjust).life 0 ≡ alive 2 1 (gave list_b (1 ∷ 2 ∷ 3 ∷ 4 ∷ []) 0)
  pub inserted : (past plain list_insert).life 0 ≡ alive 1 0 (gave list_b (1 ∷ 2 ∷ 3 ∷ 4 ∷ []) 0)
  -- D: indices 0 and 1 are gone, index 2 is live since the add of 7 8
  pub d_gone : (past plain list_d).life 0 ≡ dead
  pub d_live : (past plain list_d).life 2 ≡ alive 0 0 (gave list_four (5 ∷ 6 ∷ 7 ∷ 8 ∷ []) 2)
  pub d_adds : (past plain list_d).adds ≡ 4
  pub d_incs : (past plain list_d).incs ≡ 0
  pub d_decs : (past plain list_d).decs ≡ 2
  pub d_number : live_indices 10 (past plain list_d) ≡ 2
  -- after D and one add more three of the five indices are live; six of six once the table has grown
  pub i_again_number : live_indices 10 (past plain (add (11 ∷ 12 ∷ []) 0 ∷ list_d)) ≡ 3
  pub i_grown_number : live_indices 10 (past plain (add (13 ∷ 14 ∷ []) 0 ∷ list_full)) ≡ 6
  -- G, with rotation: index 1 is live since the add of 5 6
  pub g_live : (past turning list_g).life 1 ≡ alive 0 0 (gave list_c (3 ∷ 4 ∷ 5 ∷ 6 ∷ []) 1)
  -- the small lists
  pub small_number : live_indices 2 (past small_turning (compact ∷ list_small)) ≡ 1
  pub labelled : (past small_labelled list_labelled).life 0 ≡ alive 1 0 (gave (add (1 ∷ 2 ∷ []) 7 ∷ []) (1 ∷ 2 ∷ []) 0)
  pub labelled_gone : (past small_labelled list_labelled).life 1 ≡ dead
  pub zeros : (past small_plain list_zeros).life 1 ≡ alive 0 0 (gave list_zeros (minus_zero ∷ 2 ∷ []) 2)
  pub nan : (past small_plain list_nan).life 1 ≡ alive 0 0 (gave list_nan (a_nan ∷ 2 ∷ []) 1)

pub said : Said
unfolding fresh opened_memory opened after history recorded changed_by pair_changes pairs_changes joined_points row_of_add live_indices every_below sum_below count_below all_equal pushed changed taken released inside holders is_free free_number in_bounds none_shared capacity_allowed stack_lent manager_well_formed wrapping_sub wrapping_add alignment zeros_before point_room holds live_below moved grown_blocks blocks block_moves copied_down settled block_down blocks_down written_by_blocks compacted turn turned copied grown written_count laid_as laid_elements laid_free place_of overlaps row_to_lay moved_window managed free_uncounted counts_fit index_taken lowered live_number code_decided room_decided inc_decided dec_decided raised inc_test incremented inc_spec pair_decided pair_done adjust_from adjust_spec dec_test place_after_dec decremented dec_spec compacted_rows grown_rows short room_made compact_spec copy_of point_length waits table_full entries_filled add_decided window_after sequenced row_of label_given labelled table_grown placed joins overflows laid_rows laid_how kept_after index_given free_left keeps add_spec bounds_hold rotation_allowed lent_enough form_decided live touch_decided table_length_well store_length_well free_start_well empty_uncounted places_distinct places_end sequence_well well_formed words_equal table_read table_text numbered classes_of lines line fields field columns column value_from digit table_allowed some_below largest_below labels_lent labels_opened labels_well differ slot_sum label_taken slot_taken class_slot holds_class tables_lent codes_allowed slots_hold_classes classes_distinct slots_summed label_raised label_lowered first_below reason_classes in_use
said =
    record {
      a = refl;
      b = refl;
      c = refl;
      adjusted = refl;
      inserted = refl;
      d_gone = refl;
      d_live = refl;
      d_adds = refl;
      d_incs = refl;
      d_decs = refl;
      d_number = refl;
      i_again_number = refl;
      i_grown_number = refl;
      g_live = refl;
      small_number = refl;
      labelled = refl;
      labelled_gone = refl;
      zeros = refl;
      nan = refl;
    }
