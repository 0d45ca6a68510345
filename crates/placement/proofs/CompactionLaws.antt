-- What compaction keeps, on places and a free start as a well-formed store has them.
use Rattle.std.specs.Prelude.{Bool, List, map, ◌⊎◌, ◌≡◌, ℕ, ◌+◌, ◌*◌, ◌/◌, ◌%◌, ◌≤◌, ◌<◌, length, drop, get_or}
use Rattle.std.proofs.Math.Bool.{true, false}
use Rattle.std.proofs.Math.Path.{refl, sym, ap, subst⁻¹}
use Rattle.std.proofs.Common.{◌∙◌, le_refl, mul-le-mul_right, arith}
use Rattle.std.specs.Int.{◌∣◌}
use Rattle.std.proofs.Math.Nat.{div-le_self, le_trans}
use Rattle.std.proofs.Math.Decide.{dec_lt}
use Rattle.std.proofs.Math.ListN.{length-map, get_or-map}
use Rattle.std.proofs.Math.Seq.{drop_at}
use Rattle.placement.specs.Row.{piece}
use Rattle.placement.specs.Pieces.{piece_front, length_front}
use Rattle.placement.specs.AlignmentLaws.{point_room}
use Rattle.placement.specs.Copying.{turn, copied}
use Rattle.placement.specs.Compaction.{Written, Layout, holds, live_below, live_count, moved, settled, compacted}
use Rattle.placement.specs.MovedLaws.{olds, moved_each, unmoved, moved_rank}
use Rattle.placement.specs.Places.{Live, WellPlaced, Distinct, place_below}
use Rattle.placement.proofs.ProgressLaws.{PointKept, Sound}
use Rattle.placement.proofs.Scan.{holds_at, live_rising, live_met, live_count_lem, well_sound}
use Rattle.placement.specs.Steps.{steps}
use Rattle.placement.proofs.StepsLaw.{steps_are_blocks}

-- what compaction keeps
pub record CompactionKeeps {E : Type 0} (dims base : ℕ) (rotation : Bool) (location : List ℕ) (free : ℕ) (elements : List E) (after : Layout E) : Type 0 where
  pub length_kept : length after.elements ≡ length elements
  pub indices_kept : length after.location ≡ length location
  pub rest_kept : drop after.free after.elements ≡ drop after.free elements
  pub free_started : (after.free ≡ 0) ⊎ (dims ≤ after.free)
  pub free_whole : base ∣ after.free
  pub free_down : after.free ≤ free
  pub free_room : after.free ≤ live_count location * point_room rotation dims base
  pub empty_kept : (i : ℕ) → get_or location i 65535 ≡ 65535 → get_or after.location i 65535 ≡ 65535
  pub ends : (i : ℕ) → Live location i → get_or after.location i 65535 * base + dims ≤ after.free
  pub same : (i : ℕ) → Live location i → piece (get_or after.location i 65535 * base) dims after.elements ≡ piece (get_or location i 65535 * base) dims elements
  pub same_turn : (i : ℕ) → Live location i → turn rotation dims base (get_or after.location i 65535) ≡ turn rotation dims base (get_or location i 65535)
  pub rank : (i j : ℕ) → Live location i → Live location j → get_or location i 65535 < get_or location j 65535 → get_or after.location i 65535 < get_or after.location j 65535

module _ {E : Type 0} (zero_element : E) (dims base : ℕ) (rotation : Bool) (elements : List E) (location : List ℕ) (free : ℕ) (well : WellPlaced dims base location free (length elements)) where
  -- the places that the scan meets
  abbrev live : List ℕ
  live = live_below location (free / base)

  sound : Sound dims base rotation elements free live (free / base) (steps zero_element dims base rotation elements live)
  sound = well_sound zero_element dims base rotation elements location free well (free / base) (le_refl (free / base))

  -- compaction is what the scan's steps leave
  pub compacted_by_steps : compacted zero_element dims base rotation elements location free ≡ settled elements location (steps zero_element dims base rotation elements (live_below location (free / base))).written
  unfolding compacted
  compacted_by_steps = sym (ap (settled elements location) (steps_are_blocks zero_element dims base rotation elements (omega (arith, well.small)) (live_below location (free / base)) (live_rising location (free / base))))

  -- a point's place is met
  met : (i : ℕ) → Live location i → holds live (get_or location i 65535) ≡ true
  met i l = live_met location (free / base) (get_or location i 65535) (place_below dims base location free (length elements) well i l) (holds_at location i 65535 l.listed)

  abbrev w : Written E
  w = (steps zero_element dims base rotation elements live).written

  -- the move of the point at index i
  moved_kept : (i : ℕ) → Live location i → PointKept dims base rotation elements (free / base) w.front w.free (record { old = get_or location i 65535; new = moved w.moves (get_or location i 65535) })
  moved_kept i l =
      moved_each (PointKept dims base rotation elements (free / base) w.front w.free) w.moves (get_or location i 65535) sound.kept
      (rw sound.olds_met (met i l))

  -- an empty place is moved by none
  empty : moved w.moves 65535 ≡ 65535
  empty = go (holds (olds w.moves) 65535) refl
    where
      go : (t : Bool) → holds (olds w.moves) 65535 ≡ t → moved w.moves 65535 ≡ 65535
      go true e =
          let k : PointKept dims base rotation elements (free / base) w.front w.free (record { old = 65535; new = moved w.moves 65535 }) = moved_each (PointKept dims base rotation elements (free / base) w.front w.free) w.moves 65535 sound.kept e in
          absurd (omega (arith, k.older, div-le_self free base, well.small))
      go false e = unmoved w.moves 65535 e

  place_after : (i : ℕ) → get_or (map (moved w.moves) location) i 65535 ≡ moved w.moves (get_or location i 65535)
  place_after i = ap (get_or (map (moved w.moves) location) i) (sym empty) ∙ get_or-map (moved w.moves) location i 65535

  turn_same : (rotation : Bool) (p q : ℕ) → (rotation ≡ true → p * base % dims ≡ q * base % dims) → turn rotation dims base p ≡ turn rotation dims base q
  unfolding turn
  turn_same true p q h = h refl
  turn_same false p q h = refl

  pub compaction_keeps : CompactionKeeps dims base rotation location free elements (compacted zero_element dims base rotation elements location free)
  unfolding settled
  compaction_keeps =
      subst⁻¹ (CompactionKeeps dims base rotation location free elements) compacted_by_steps
      (record {
        length_kept = length_front elements w.front w.free sound.counted (omega (arith, sound.behind, sound.inside, well.inside));
        indices_kept = length-map location (moved w.moves);
        rest_kept = drop_at w.front (drop w.free elements) w.free sound.counted;
        free_started = sound.started;
        free_whole = sound.whole_free;
        free_down = omega (arith, sound.behind, sound.inside);
        free_room = le_trans sound.room (mul-le-mul_right (point_room rotation dims base) (live_count_lem location (free / base) (omega (arith, div-le_self free base, well.small))));
        empty_kept = λ i e. place_after i ∙ ap (moved w.moves) e ∙ empty;
        ends = λ i l. rw (place_after i) (moved_kept i l).ends;
        same = λ i l. rw (place_after i) (piece_front (moved w.moves (get_or location i 65535) * base) dims w.front (drop w.free elements) (omega (arith, sound.counted, (moved_kept i l).ends)) ∙ (moved_kept i l).same);
        same_turn = λ i l. rw (place_after i) (turn_same rotation (moved w.moves (get_or location i 65535)) (get_or location i 65535) (moved_kept i l).same_turn);
        rank = λ i j l m h. rw (place_after i, place_after j) (moved_rank w.moves (get_or location i 65535) (get_or location j 65535) sound.ranked (rw sound.olds_met (met i l)) (rw sound.olds_met (met j m)) h);
      })

-- ---- what follows from it

module _ {E : Type 0} (dims base : ℕ) (rotation : Bool) (location : List ℕ) (free : ℕ) (elements : List E) (after : Layout E) (well : WellPlaced dims base location free (length elements)) (kept : CompactionKeeps dims base rotation location free elements after) where
  -- no point comes into being
  was_live : (i : ℕ) → Live after.location i → Live location i
  was_live i l = record { listed = rw kept.indices_kept at l.listed; placed = λ e. l.placed (kept.empty_kept i e) }

  pub well_after : WellPlaced dims base after.location after.free (length after.elements)
  well_after =
      record {
        shaped = well.shaped;
        small = omega (arith, kept.free_down, well.small);
        inside = omega (arith, kept.free_down, well.inside, kept.length_kept);
        ends = λ i l. kept.ends i (was_live i l);
      }

  pub distinct_after : Distinct location → Distinct after.location
  distinct_after distinct i j l m e =
      let p : ℕ = get_or location i 65535 in
      let q : ℕ = get_or location j 65535 in
      distinct i j (was_live i l) (was_live j m) (go (dec_lt p q) (dec_lt q p))
    where
      go : Dec (get_or location i 65535 < get_or location j 65535) → Dec (get_or location j 65535 < get_or location i 65535) → get_or location i 65535 ≡ get_or location j 65535
      go (yes h) _ = absurd (omega (arith, kept.rank i j (was_live i l) (was_live j m) h))
      go (no h) (yes k) = absurd (omega (arith, kept.rank j i (was_live j m) (was_live i l) k))
      go (no h) (no k) = omega arith

  -- a copy is what it was
  pub copy_kept : (i : ℕ) → Live location i → copied rotation dims base (get_or after.location i 65535) after.elements ≡ copied rotation dims base (get_or location i 65535) elements
  unfolding copied
  copy_kept i l = rw (kept.same_turn i l, kept.same i l)
