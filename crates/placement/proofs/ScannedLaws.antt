-- The scan of places as code makes it: elements and places where they stand, the write position and the end of what was read. What it
-- leaves once the live places below q are met, from what it left before; and at the end it is compaction.
use Rattle.std.specs.Prelude.{Bool, false, List, ◌≡◌, ℕ, suc, ◌+◌, ◌*◌, ◌-◌, ◌/◌, ◌≤◌, ◌<◌, length, get_or}
use Rattle.std.proofs.Math.Path.{ap}
use Rattle.std.proofs.Common.{◌∙◌, le_refl, le_of_lt, arith}
use Rattle.std.proofs.Math.ListN.{length-map}
use Rattle.placement.specs.Alignment.{zeros_before}
use Rattle.placement.specs.Compaction.{Layout, holds, live_below, moved, settled, compacted, copied_down}
use Rattle.placement.proofs.CompactionLaws.{compacted_by_steps}
use Rattle.placement.proofs.InPlaceLaws.{taken_elements, taken_location, step_joins, step_starts, none_settled}
use Rattle.placement.specs.Pieces.{length_front}
use Rattle.placement.specs.Places.{Live, WellPlaced, Distinct, place_below}
use Rattle.placement.proofs.ProgressLaws.{Sound, starts_ready}
use Rattle.placement.proofs.Scan.{holds_at, live_next, live_none, steps_next, well_sound}
use Rattle.placement.specs.Steps.{Progress, taken, step, steps_from, steps}
use Rattle.placement.specs.Scanned.{ScanState, shown, advanced}

module _ {E : Type 0} (zero_element : E) (dims base : ℕ) (rotation : Bool) (elements : List E) (location : List ℕ) where
  -- what the scan of the places below q leaves
  unfoldable pub scanned : ℕ → ScanState E
  scanned q = shown elements location (steps zero_element dims base rotation elements (live_below location q))

  pub scanned_first : scanned 0 ≡ record { elements = elements; location = location; free = 0; read = 0 }
  unfolding scanned shown steps steps_from live_below
  scanned_first = ap (λ (l : Layout E). record { elements = l.elements; location = l.location; free = 0; read = 0 }) (none_settled zero_element dims base rotation elements location)

  pub scanned_dead : (q : ℕ) → holds location q ≡ false → scanned (suc q) ≡ scanned q
  unfolding scanned
  scanned_dead q e = rw (live_none location q e)

  module _ (free : ℕ) (well : WellPlaced dims base location free (length elements)) where
    -- nothing leaves its bounds
    pub record Bounded (q : ℕ) : Type 0 where
      pub behind : (scanned q).free ≤ (scanned q).read
      pub inside : (scanned q).read ≤ free
      pub elements_kept : length (scanned q).elements ≡ length elements
      pub indices_kept : length (scanned q).location ≡ length location

    pub scanned_bounded : (q : ℕ) → q ≤ free / base → Bounded q
    unfolding scanned shown settled
    scanned_bounded q h =
        let s : Progress E = steps zero_element dims base rotation elements (live_below location q) in
        let sound : Sound dims base rotation elements free (live_below location q) q s = well_sound zero_element dims base rotation elements location free well q h in
        record {
          behind = sound.behind;
          inside = sound.inside;
          elements_kept = length_front elements s.written.front s.written.free sound.counted (omega (arith, sound.behind, sound.inside, well.inside));
          indices_kept = length-map location (moved s.written.moves);
        }

    -- at the end it is compaction
    pub scanned_last : compacted zero_element dims base rotation elements location free ≡ record { elements = (scanned (free / base)).elements; location = (scanned (free / base)).location; free = (scanned (free / base)).free }
    unfolding scanned shown settled
    scanned_last = compacted_by_steps zero_element dims base rotation elements location free well

    -- the point of index i is met at its place q
    module _ (q i : ℕ) (live : Live location i) (at : get_or location i 65535 ≡ q) where
      abbrev end : ℕ
      end = q * base + dims

      abbrev s : Progress E
      s = steps zero_element dims base rotation elements (live_below location q)

      pub met_inside : q * base + dims ≤ free
      met_inside = rw at at (well.ends i live)

      pub met_below : q < free / base
      met_below = rw at at (place_below dims base location free (length elements) well i live)

      sound : Sound dims base rotation elements free (live_below location q) q s
      sound = well_sound zero_element dims base rotation elements location free well q (le_of_lt met_below)

      -- a point that starts at or before the end of what was read ends past it
      pub joins_within : (scanned q).read + base ≤ q * base + dims
      unfolding scanned shown
      joins_within = sound.next

      -- the zeros before any other end by its start
      pub starts_behind : (scanned q).read < q * base → (scanned q).free + zeros_before rotation dims (scanned q).free (q * base) ≤ q * base
      unfolding scanned shown
      starts_behind h =
          (starts_ready zero_element dims base rotation elements free well.shaped (omega (arith, well.small)) well.inside (live_below location q) q s sound q (le_refl q) met_inside h).behind

      module _ (distinct : Distinct location) where
        next : scanned (suc q) ≡ shown elements location (step zero_element dims base rotation elements s q)
        unfolding scanned
        next = rw (live_next location q (rw at at (holds_at location i 65535 live.listed)), steps_next zero_element dims base rotation elements (live_below location q) q)

        down : (zeros from : ℕ) → s.written.free + zeros ≤ from → shown elements location (taken zero_element dims base elements zeros from q s) ≡ advanced zero_element dims base zeros from end i (scanned q)
        unfolding scanned shown taken copied_down
        down zeros from h =
            let e = taken_elements zero_element dims base rotation elements location zeros from q s sound.counted h in
            let l = taken_location zero_element dims base rotation elements location free (live_below location q) q s sound zeros from q i (le_refl q) distinct live at in
            λ k. record { elements = e k; location = l k; free = s.written.free + zeros + (end - from); read = end }

        pub scanned_joins : q * base ≤ (scanned q).read → scanned (suc q) ≡ advanced zero_element dims base 0 (scanned q).read (q * base + dims) i (scanned q)
        unfolding scanned shown
        scanned_joins h =
            next
            ∙ ap (shown elements location) (step_joins zero_element dims base rotation elements location s q h)
            ∙ down 0 s.read (omega (arith, sound.behind))

        pub scanned_starts : (scanned q).read < q * base
            → scanned (suc q) ≡ advanced zero_element dims base (zeros_before rotation dims (scanned q).free (q * base)) (q * base) (q * base + dims) i (scanned q)
        unfolding scanned shown
        scanned_starts h =
            next
            ∙ ap (shown elements location) (step_starts zero_element dims base rotation elements location s q h)
            ∙ down (zeros_before rotation dims s.written.free (q * base)) (q * base) (starts_behind h)
