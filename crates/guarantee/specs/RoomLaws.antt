-- Compaction, growth and the room that an add makes: every live index's copy stays, and when float space runs out.
use Rattle.std.specs.Prelude.{ℕ, ◌+◌, ◌*◌, ◌-◌, ◌≤◌, ◌<◌, List, ◌++◌, ◌≡◌, length, get_or, take, replicate, ltb}
use Rattle.std.proofs.Common.{arith, append_assoc, sym, ◌∙◌, take-append-drop, length-take-le, get_or-take, ne_eqb, ltb-true, lt-ltb}
use Rattle.std.proofs.Math.Bool.{Bool, true, false, cond}
use Rattle.std.proofs.lemmas.Bool.{false≢true, eqb-false}
use Rattle.std.proofs.Math.Path.{refl, ap}
use Rattle.std.proofs.Math.ListN.{drop, get_or-append}
use Rattle.placement.specs.AlignmentLaws.{point_room}
use Rattle.placement.specs.Compaction.{Layout, live_count, compacted}
use Rattle.placement.proofs.CompactionLaws.{CompactionKeeps, compaction_keeps, copy_kept}
use Rattle.placement.specs.Copying.{copied}
use Rattle.placement.specs.Growth.{grown}
use Rattle.placement.specs.Laying.{written_count}
use Rattle.placement.specs.Pieces.{piece_front}
use Rattle.placement.specs.Places.{Live}
use Rattle.placement.specs.Row.{piece}
use Rattle.store_definitions.specs.declared.Store.{Store}
use Rattle.store_definitions.specs.Parts.{base_of, table_length, Rows}
use Rattle.store_definitions.specs.Rows.{compacted_rows, grown_rows, short, room_made}
use Rattle.store_definitions.specs.Adding.{joins, overflows}
use Rattle.store_laws.specs.PlacesLaws.{live_make, live_placed}
use Rattle.store_laws.specs.RowsLaws.{RowsOf, compacted_sound, compacted_empty}

-- the copy of index i
abbrev pub copy_in : {E : Type 0} → Store → Rows E → ℕ → List E
copy_in s r i = copied s.internal_rotation s.dimensions (base_of s) (get_or r.location i 65535) r.elements

not_short : (a b : ℕ) → ltb a b ≡ false → a < b → ⊥
not_short a b e h = false≢true (sym e ∙ lt-ltb a b h)

written_most : (dims base : ℕ) (joined : Bool) → base ≤ dims → written_count dims base joined ≤ dims
unfolding written_count
written_most dims base true h = h
written_most dims base false h = omega arith

module _ {E : Type 0} (zero_element : E) (s : Store) (t : table_length s ≤ s.capacity) where
  abbrev n : ℕ
  n = table_length s

  module _ (r : Rows E) (w : RowsOf s r) where
    abbrev c : Rows E
    c = compacted_rows zero_element s r

    abbrev l : Layout E
    l = compacted zero_element s.dimensions (base_of s) s.internal_rotation r.elements (take n r.location) r.free

    kept : CompactionKeeps s.dimensions (base_of s) s.internal_rotation (take n r.location) r.free r.elements l
    kept = compaction_keeps zero_element s.dimensions (base_of s) s.internal_rotation r.elements (take n r.location) r.free w.well_placed

    lent : n ≤ length r.location
    lent = omega (arith, w.places_lent)

    listed : length l.location ≡ n
    listed = kept.indices_kept ∙ length-take-le n r.location lent

    -- after compaction
    pub compact_copy : (i : ℕ) → i < n → Live (take n r.location) i → copy_in s c i ≡ copy_in s r i
    unfolding compacted_rows
    compact_copy i h live =
        rw (get_or-append l.location (drop n r.location) 65535 i (omega (arith, listed)))
        (copy_kept s.dimensions (base_of s) s.internal_rotation (take n r.location) r.free r.elements l w.well_placed kept i live
        ∙ ap (λ (place : ℕ). copied s.internal_rotation s.dimensions (base_of s) place r.elements) (get_or-take n r.location i 65535 h))

    pub compact_free_lem : c.free ≤ live_count (take n r.location) * point_room s.internal_rotation s.dimensions (base_of s)
    unfolding compacted_rows
    compact_free_lem = kept.free_room

    pub compact_down : c.free ≤ r.free
    unfolding compacted_rows
    compact_down = kept.free_down

    pub compact_live : (i : ℕ) → i < n → Live (take n r.location) i → Live (take n c.location) i
    compact_live i h live =
        live_make n c.location (omega (arith, (compacted_sound zero_element s t r w).places_lent)) i h
        (eqb-false (get_or c.location i 65535) 65535
        (sym (compacted_empty zero_element s t r w i h) ∙ ne_eqb (get_or r.location i 65535) 65535 (live_placed n r.location lent i live)))

    -- after growth
    ends : (i : ℕ) → i < n → Live (take n r.location) i → get_or r.location i 65535 * base_of s + s.dimensions ≤ r.store_length
    ends i h live = omega (arith, rw (get_or-take n r.location i 65535 h) at (w.well_placed.ends i live), w.free_inside)

    front : (i : ℕ) (rest : List E) → i < n → Live (take n r.location) i → piece (get_or r.location i 65535 * base_of s) s.dimensions (take r.store_length r.elements ++ rest) ≡ piece (get_or r.location i 65535 * base_of s) s.dimensions r.elements
    front i rest h live =
        let at = get_or r.location i 65535 * base_of s in
        let long : at + s.dimensions ≤ length (take r.store_length r.elements) = rw (length-take-le r.store_length r.elements (omega (arith, w.store_within, w.floats_lent))) (ends i h live) in
        piece_front at s.dimensions (take r.store_length r.elements) rest long
        ∙ sym (piece_front at s.dimensions (take r.store_length r.elements) (drop r.store_length r.elements) long)
        ∙ ap (piece at s.dimensions) (take-append-drop r.store_length r.elements)

    grown_copy : (i : ℕ) → i < n → Live (take n r.location) i → copy_in s (grown_rows zero_element s r) i ≡ copy_in s r i
    unfolding grown_rows copied
    grown_copy i h live =
        rw (append_assoc (take r.store_length r.elements) (replicate (grown r.store_length s.dimensions (s.capacity * s.dimensions) - r.store_length) zero_element) (drop (grown r.store_length s.dimensions (s.capacity * s.dimensions)) r.elements), front i (replicate (grown r.store_length s.dimensions (s.capacity * s.dimensions) - r.store_length) zero_element ++ drop (grown r.store_length s.dimensions (s.capacity * s.dimensions)) r.elements) h live)

  module _ (r : Rows E) (w : RowsOf s r) where
    -- of the room made
    pub room_copy : (i : ℕ) → i < n → Live (take n r.location) i → copy_in s (room_made zero_element s r) i ≡ copy_in s r i
    unfolding room_made
    room_copy i h live = go (short zero_element s r) (short zero_element s (c r w))
      where
        go : (a b : Bool) → copy_in s (cond a (cond b (grown_rows zero_element s (c r w)) (c r w)) r) i ≡ copy_in s r i
        go true true = grown_copy (c r w) (compacted_sound zero_element s t r w) i h (compact_live r w i h live) ∙ compact_copy r w i h live
        go true false = compact_copy r w i h live
        go false b = refl

    abbrev longest : ℕ
    longest = grown r.store_length s.dimensions (s.capacity * s.dimensions)

    -- a row that does not fit: compaction ran, and growth, and left too little
    pub short_room : (eq : E → E → Bool) (row : List E) → base_of s ≤ s.dimensions → overflows eq s (room_made zero_element s r) row ≡ true
        → (longest < (c r w).free + s.dimensions) × ((room_made zero_element s r).store_length ≡ longest)
    unfolding overflows room_made short grown_rows compacted_rows
    short_room eq row wide e =
        go (short zero_element s r) (short zero_element s (c r w)) refl refl
        (λ x. written_most s.dimensions (base_of s) (joins eq s x row) wide)
        (ltb-true _ _ e)
      where
        room : Bool → Bool → Rows E
        room a b = cond a (cond b (grown_rows zero_element s (c r w)) (c r w)) r

        go : (a b : Bool) → short zero_element s r ≡ a → short zero_element s (c r w) ≡ b
            → ((x : Rows E) → written_count s.dimensions (base_of s) (joins eq s x row) ≤ s.dimensions)
            → (room a b).store_length < (room a b).free + written_count s.dimensions (base_of s) (joins eq s (room a b) row)
            → (longest < (c r w).free + s.dimensions) × ((room a b).store_length ≡ longest)
        go true true p q most o = (omega (arith, most (room true true)), refl)
        go true false p q most o = absurd (not_short r.store_length ((c r w).free + s.dimensions) q (omega (arith, most (room true false))))
        go false b p q most o = absurd (not_short r.store_length (r.free + s.dimensions) p (omega (arith, most r)))
