-- Document 01's worked windows A to H, as far as rows, places, zeros and copies go: dimensions 4, shingle size 2, so base and extra 2;
-- elements are numbers.
use Rattle.std.specs.Prelude.{Bool, true, false, List, [], ◌∷◌, ◌≡◌, refl, ℕ, ◌+◌, ltb, eqb, replicate}
use Rattle.terms.specs.Rows.{all_equal}
use Rattle.placement.specs.declared.Laid.{Laid}
use Rattle.placement.specs.declared.Laid.TheVariants.{Whole, Joined}
use Rattle.placement.specs.Row.{row_to_lay, moved_window}
use Rattle.placement.specs.Overlap.{overlaps}
use Rattle.placement.specs.Laying.{written_count, laid_as, laid_elements, laid_free}
use Rattle.placement.specs.Copying.{turn, turned, copied}
use Rattle.placement.specs.Growth.{grown}
use Rattle.placement.specs.Alignment.{wrapping_sub, wrapping_add, alignment, zeros_before}
use Rattle.placement.specs.Compaction.{Layout, holds, live_below, moved, grown_blocks, blocks, block_moves, copied_down, settled, block_down, blocks_down, written_by_blocks, compacted}
use Rattle.placement.specs.Steps.{taken, step, steps_from, steps}

-- elements and free start, with how the last row was laid
record LaidRows : Type 0 where
  elements : List ℕ
  free : ℕ
  laid : Laid

-- a row is laid at the free start
lay : LaidRows → List ℕ → LaidRows
lay s row =
    let joined : Bool = overlaps eqb 2 2 s.free s.elements row in
    record {
      elements = laid_elements 4 2 joined s.free s.elements row;
      free = laid_free 4 2 joined s.free;
      laid = laid_as 4 2 joined s.free;
    }

-- adds with internal shingling: the window moves by each point, and is laid
adds : LaidRows → List ℕ → List (List ℕ) → LaidRows
adds s window [] = s
adds s window (point ∷ points) = let row : List ℕ = moved_window 2 window point in adds (lay s (row_to_lay true row point)) row points

fresh : ℕ → LaidRows
fresh length = record { elements = replicate length 0; free = 0; laid = Whole 0 }

-- A: the add of 1 2 is waiting and leaves the window 0 0 1 2. B, C: 3 4 and 5 6. Then 7 8 and 9 10
after_b : LaidRows
after_b = adds (fresh 20) (0 ∷ 0 ∷ 1 ∷ 2 ∷ []) ((3 ∷ 4 ∷ []) ∷ [])

after_c : LaidRows
after_c = adds after_b (1 ∷ 2 ∷ 3 ∷ 4 ∷ []) ((5 ∷ 6 ∷ []) ∷ [])

after_five : LaidRows
after_five = adds after_c (3 ∷ 4 ∷ 5 ∷ 6 ∷ []) ((7 ∷ 8 ∷ []) ∷ (9 ∷ 10 ∷ []) ∷ [])

compact_five : Bool → List ℕ → Layout ℕ
compact_five rotation location = compacted 0 4 2 rotation after_five.elements location after_five.free

-- D: dec 0, dec 1, compact
layout_d : Layout ℕ
layout_d = compact_five false (65535 ∷ 65535 ∷ 2 ∷ 3 ∷ 65535 ∷ [])

-- E: add 11 12
after_e : LaidRows
after_e =
    adds (record { elements = layout_d.elements; free = layout_d.free; laid = Whole 0 }) (7 ∷ 8 ∷ 9 ∷ 10 ∷ []) ((11 ∷ 12 ∷ []) ∷ [])

-- H: no internal shingling, rotating, capacity 2, start 2; add 1 2 3 4, add 3 4 5 6, dec 0
after_h : LaidRows
after_h = lay (lay (fresh 8) (row_to_lay false [] (1 ∷ 2 ∷ 3 ∷ 4 ∷ []))) (row_to_lay false [] (3 ∷ 4 ∷ 5 ∷ 6 ∷ []))

layout_h : Layout ℕ
layout_h = compacted 0 4 2 true after_h.elements (65535 ∷ 1 ∷ []) after_h.free

-- what the rows, places, free starts and copies are, and what document 01 says
record Windows : Type 0 where
  a : moved_window {E = ℕ} 2 (replicate 4 0) (1 ∷ 2 ∷ []) ≡ 0 ∷ 0 ∷ 1 ∷ 2 ∷ []
  b : after_b ≡ record { elements = 1 ∷ 2 ∷ 3 ∷ 4 ∷ replicate 16 0; free = 4; laid = Whole 0 }
  c : after_c ≡ record { elements = 1 ∷ 2 ∷ 3 ∷ 4 ∷ 5 ∷ 6 ∷ replicate 14 0; free = 6; laid = Joined 1 }
  five : after_five ≡ record { elements = 1 ∷ 2 ∷ 3 ∷ 4 ∷ 5 ∷ 6 ∷ 7 ∷ 8 ∷ 9 ∷ 10 ∷ replicate 10 0; free = 10; laid = Joined 3 }
  d : layout_d ≡ record { elements = 5 ∷ 6 ∷ 7 ∷ 8 ∷ 9 ∷ 10 ∷ 7 ∷ 8 ∷ 9 ∷ 10 ∷ replicate 10 0; location = 65535 ∷ 65535 ∷ 0 ∷ 1 ∷ 65535 ∷ []; free = 6 }
  d_copy : copied false 4 2 0 layout_d.elements ≡ 5 ∷ 6 ∷ 7 ∷ 8 ∷ []
  e : after_e.laid ≡ Joined 2
  f : copied true 4 2 1 after_c.elements ≡ 5 ∷ 6 ∷ 3 ∷ 4 ∷ []
  -- half a turn is the same either way round; a quarter is not
  f_quarter : copied true 4 1 1 after_c.elements ≡ 5 ∷ 2 ∷ 3 ∷ 4 ∷ []
  -- G: rotating, the five adds, dec 0, compact: two zeros, free start still 10; without rotation 8
  g : compact_five true (65535 ∷ 1 ∷ 2 ∷ 3 ∷ 65535 ∷ []) ≡ record { elements = 0 ∷ 0 ∷ 3 ∷ 4 ∷ 5 ∷ 6 ∷ 7 ∷ 8 ∷ 9 ∷ 10 ∷ replicate 10 0; location = 65535 ∷ 1 ∷ 2 ∷ 3 ∷ 65535 ∷ []; free = 10 }
  g_unturned : (compact_five false (65535 ∷ 1 ∷ 2 ∷ 3 ∷ 65535 ∷ [])).free ≡ 8
  -- D and G by steps
  d_steps : settled after_five.elements (65535 ∷ 65535 ∷ 2 ∷ 3 ∷ 65535 ∷ []) (steps 0 4 2 false after_five.elements (2 ∷ 3 ∷ [])).written ≡ layout_d
  g_steps : settled after_five.elements (65535 ∷ 1 ∷ 2 ∷ 3 ∷ 65535 ∷ []) (steps 0 4 2 true after_five.elements (1 ∷ 2 ∷ 3 ∷ [])).written ≡ compact_five true (65535 ∷ 1 ∷ 2 ∷ 3 ∷ 65535 ∷ [])
  -- H: add 9 9 9 9 does not join, and after compaction and growth its four elements pass the store length
  h : layout_h.free ≡ 6
  h_joins : overlaps eqb 2 2 6 layout_h.elements (9 ∷ 9 ∷ 9 ∷ 9 ∷ []) ≡ false
  h_passes : ltb (grown 8 4 8) (layout_h.free + written_count 4 2 false) ≡ true
  -- run only: a table of 4 gets a fifth index, and one of 5 a sixth
  fifth : grown 4 1 10 ≡ 5
  sixth : grown 5 1 10 ≡ 6
  -- floats of one point, dimensions 4, gain a point's; 30 of them gain a fifth
  point_more : grown 4 4 40 ≡ 8
  fifth_more : grown 30 4 40 ≡ 36
  -- run only: in H the last row 5 6 9 9 joins
  h_run : lay (record { elements = layout_h.elements; free = 6; laid = Whole 0 }) (5 ∷ 6 ∷ 9 ∷ 9 ∷ []) ≡ record { elements = 0 ∷ 0 ∷ 3 ∷ 4 ∷ 5 ∷ 6 ∷ 9 ∷ 9 ∷ []; free = 8; laid = Joined 2 }

windows : Windows
unfolding lay adds fresh after_b after_c after_five compact_five layout_d after_e after_h layout_h row_to_lay moved_window overlaps all_equal written_count laid_as laid_elements laid_free turn turned copied grown wrapping_sub wrapping_add alignment zeros_before holds live_below moved grown_blocks blocks block_moves copied_down settled block_down blocks_down written_by_blocks compacted taken step steps_from steps
windows =
    record {
      a = refl;
      b = refl;
      c = refl;
      five = refl;
      d = refl;
      d_copy = refl;
      e = refl;
      f = refl;
      f_quarter = refl;
      g = refl;
      d_steps = refl;
      g_steps = refl;
      g_unturned = refl;
      h = refl;
      h_joins = refl;
      h_passes = refl;
      fifth = refl;
      sixth = refl;
      point_more = refl;
      fifth_more = refl;
      h_run = refl;
    }
