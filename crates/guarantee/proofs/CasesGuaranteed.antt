-- The list guarantee is not empty: instantiated at the lists, it gives what they show.
use Rattle.std.specs.Prelude.{ℕ, ◌+◌, ◌*◌, ◌≤◌, List, [], ◌∷◌, ◌≡◌, refl, replicate}
use Rattle.std.proofs.Common.{arith, ap, ◌∙◌}
use Rattle.float_bits.specs.Words.{minus_zero, words_equal, words_exact}
use Rattle.terms.specs.Below.{sum_below}
use Rattle.placement.specs.declared.Laid.TheVariants.{Joined}
use Rattle.placement.specs.Growth.{grown}
use Rattle.placement.specs.Copying.{turn, turned}
use Rattle.labels.specs.Decisions.{none}
use Rattle.store_definitions.specs.declared.Shape.{Shape}
use Rattle.store_definitions.specs.Answers.{done, is, refused, output}
use Rattle.store_definitions.specs.Parts.{table_length}
use Rattle.guarantee.specs.Calls.{copy_call, count_call, live_number_call}
use Rattle.guarantee.specs.Run.{Call, add, dec, compact}
use Rattle.guarantee.specs.Guarantee.{count_answer, number_in, live_indices, Guarantee}
use Rattle.guarantee.proofs.Theorem.{guaranteed}
use Rattle.guarantee.specs.CaseLists.{plain, turning, small_plain, small_turning, small_labelled, rubbish, table, fresh, opening, past, store, gave, list_a, list_b, list_c, list_four, list_five, list_full, list_d, list_g, list_adjust, list_insert, list_small, third, list_labelled, list_zeros, a_nan, list_nan}
use Rattle.guarantee.specs.Cases.{computed, said}

-- what the guarantee gives of them
record Gives : Type 0 where
  a_count : count_call (store plain list_a) 0 ≡ refused 5
  b_count : count_call (store plain list_b) 0 ≡ is 1
  c_copy : copy_call (store plain list_c) 1 (replicate 4 0) ≡ output done (3 ∷ 4 ∷ 5 ∷ 6 ∷ [])
  adjusted_count : count_call (store plain list_adjust) 0 ≡ is 2
  inserted_count : count_call (store plain list_insert) 0 ≡ is 2
  d_refused : count_call (store plain list_d) 0 ≡ refused 5
  d_count : count_call (store plain list_d) 2 ≡ is 1
  d_kept : copy_call (store plain list_d) 2 (replicate 4 0) ≡ copy_call (store plain list_four) 2 (replicate 4 0)
  d_copy : copy_call (store plain list_d) 2 (replicate 4 0) ≡ output done (5 ∷ 6 ∷ 7 ∷ 8 ∷ [])
  d_sum : sum_below 10 (λ i. number_in (count_call (store plain list_d) i)) ≡ 2
  d_room : (store plain list_d).header.start_free_region ≤ 8
  d_number : live_number_call (store plain list_d) ≡ is 2
  g_kept : copy_call (store turning list_g) 1 (replicate 4 0) ≡ copy_call (store turning list_c) 1 (replicate 4 0)
  g_copy : copy_call (store turning list_g) 1 (replicate 4 0) ≡ output done (5 ∷ 6 ∷ 3 ∷ 4 ∷ [])
  -- the room of one live index, which is all used
  small_room : (store small_turning (compact ∷ list_small)).header.start_free_region ≤ 3
  -- a live point's room of 3 floats and 2 floats more do not fit the store length, which is the largest
  h_bound : live_indices 2 (past small_turning list_small) * 3 + 2 ≤ grown (store small_turning list_small).header.store_length 2 4 → ⊥
  -- of the table's five indices three are live where two are free; the sixth is new and live
  i_again : 2 + 3 ≡ table_length (store plain (add (11 ∷ 12 ∷ []) 0 ∷ list_d)).header
  i_grown : 6 ≡ table_length (store plain (add (13 ∷ 14 ∷ []) 0 ∷ list_full)).header
  labelled_count : count_call (store small_labelled list_labelled) 0 ≡ is 2
  labelled_gone : count_call (store small_labelled list_labelled) 1 ≡ refused 5
  labelled_copy : copy_call (store small_labelled list_labelled) 0 (replicate 2 0) ≡ output done (1 ∷ 2 ∷ [])
  -- exactly the row: the zero keeps its sign, the NaN its bits
  zeros_copy : copy_call (store small_plain list_zeros) 1 (replicate 2 0) ≡ output done (minus_zero ∷ 2 ∷ [])
  nan_copy : copy_call (store small_plain list_nan) 1 (replicate 2 0) ≡ output done (a_nan ∷ 2 ∷ [])

abbrev Holding : Shape → List (Call ℕ) → Type 0
Holding h calls = Guarantee words_equal 0 h (fresh h) calls

abbrev holding : (calls : List (Call ℕ)) → Holding plain calls
holding calls = guaranteed words_equal 0 plain (fresh plain) table (rubbish plain) opening.plain calls

abbrev holding_turning : (calls : List (Call ℕ)) → Holding turning calls
holding_turning calls = guaranteed words_equal 0 turning (fresh turning) table (rubbish turning) opening.turning calls

abbrev holding_small : (calls : List (Call ℕ)) → Holding small_plain calls
holding_small calls = guaranteed words_equal 0 small_plain (fresh small_plain) table (rubbish small_plain) opening.small_plain_lem calls

abbrev holding_small_turning : (calls : List (Call ℕ)) → Holding small_turning calls
holding_small_turning calls = guaranteed words_equal 0 small_turning (fresh small_turning) table (rubbish small_turning) opening.small_turning_lem calls

abbrev holding_labelled : (calls : List (Call ℕ)) → Holding small_labelled calls
holding_labelled calls = guaranteed words_equal 0 small_labelled (fresh small_labelled) table (rubbish small_labelled) opening.small_labelled_lem calls

gives : Gives
unfolding turn turned grown
gives =
    record {
      a_count = (holding list_a).counts 0 ∙ ap count_answer said.a;
      b_count = (holding list_b).counts 0 ∙ ap count_answer said.b;
      c_copy = (holding list_c).copies_row words_exact 1 (gave list_c (3 ∷ 4 ∷ 5 ∷ 6 ∷ []) 1) (0, 0, said.c) (replicate 4 0) refl;
      adjusted_count = (holding list_adjust).counts 0 ∙ ap count_answer said.adjusted;
      inserted_count = (holding list_insert).counts 0 ∙ ap count_answer said.inserted;
      d_refused = (holding list_d).counts 0 ∙ ap count_answer said.d_gone;
      d_count = (holding list_d).counts 2 ∙ ap count_answer said.d_live;
      d_kept = (holding list_d).copies_kept 2 (gave list_four (5 ∷ 6 ∷ 7 ∷ 8 ∷ []) 2) (0, 0, said.d_live) (replicate 4 0);
      d_copy = (holding list_d).copies_row words_exact 2 (gave list_four (5 ∷ 6 ∷ 7 ∷ 8 ∷ []) 2) (0, 0, said.d_live) (replicate 4 0) refl;
      d_sum = omega (arith, (holding list_d).sum, said.d_adds, said.d_incs, said.d_decs);
      d_room = rw said.d_number at ((holding list_d).compact_room (dec 1 none ∷ dec 0 none ∷ list_five) refl);
      d_number = (holding list_d).live_number_lem ∙ ap is said.d_number;
      g_kept = (holding_turning list_g).copies_kept 1 (gave list_c (3 ∷ 4 ∷ 5 ∷ 6 ∷ []) 1) (0, 0, said.g_live) (replicate 4 0);
      g_copy = (holding_turning list_g).copies_row words_exact 1 (gave list_c (3 ∷ 4 ∷ 5 ∷ 6 ∷ []) 1) (0, 0, said.g_live) (replicate 4 0) refl;
      small_room = rw said.small_number at ((holding_small_turning (compact ∷ list_small)).compact_room list_small refl);
      h_bound = λ fits. (holding_small_turning (third ∷ list_small)).float_space_within.0 fits computed.h_small;
      i_again = rw said.i_again_number at ((holding (add (11 ∷ 12 ∷ []) 0 ∷ list_d)).figures.0 0 none (Joined 2) 2 computed.i_again);
      i_grown = rw said.i_grown_number at ((holding (add (13 ∷ 14 ∷ []) 0 ∷ list_full)).figures.0 5 none (Joined 5) 0 computed.i_grown);
      labelled_count = (holding_labelled list_labelled).counts 0 ∙ ap count_answer said.labelled;
      labelled_gone = (holding_labelled list_labelled).counts 1 ∙ ap count_answer said.labelled_gone;
      labelled_copy = (holding_labelled list_labelled).copies_row words_exact 0 (gave (add (1 ∷ 2 ∷ []) 7 ∷ []) (1 ∷ 2 ∷ []) 0) (1, 0, said.labelled) (replicate 2 0) refl;
      zeros_copy = (holding_small list_zeros).copies_row words_exact 1 (gave list_zeros (minus_zero ∷ 2 ∷ []) 2) (0, 0, said.zeros) (replicate 2 0) refl;
      nan_copy = (holding_small list_nan).copies_row words_exact 1 (gave list_nan (a_nan ∷ 2 ∷ []) 1) (0, 0, said.nan) (replicate 2 0) refl;
    }
