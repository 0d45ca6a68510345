-- A step of compaction on the elements and places where they stand: zeros are filled in at the write position, elements are copied
-- down from further up in the same list, and one place is set.
use Rattle.std.specs.Prelude.{Bool, ◌≡◌, get_or, set}
use Rattle.std.proofs.Math.Bool.{true, false}
use mathlib.Core.List.{List, ◌++◌, map-id}
use Rattle.std.proofs.Math.Path.{refl, sym, ap}
use Rattle.std.proofs.Common.{◌∙◌, le_of_eq, arith, le-leb, take_all, take_at, drop-drop}
use Prim.Native.Nat.{ℕ, ◌+◌, ◌*◌, ◌-◌, ◌/◌, ◌≤◌, ◌<◌}
use Rattle.std.proofs.lemmas.Bool.{lt-leb}
use Rattle.std.proofs.Math.ListN.{length, take, drop, replicate, length-append}
use Rattle.std.proofs.lemmas.List.{length-replicate}
use Rattle.std.proofs.Math.Seq.{paste, drop-append-add}
use Rattle.placement.specs.Alignment.{zeros_before}
use Rattle.placement.specs.Compaction.{nothing_written, holds, moved, settled, copied_down}
use Rattle.placement.specs.MovedLaws.{olds, moved_each, places_next}
use Rattle.placement.specs.Places.{Live, Distinct}
use Rattle.placement.proofs.ProgressLaws.{PointKept, Sound}
use Rattle.placement.specs.Steps.{Progress, taken, step}
use Rattle.placement.specs.InPlace.{copied_within, filled}

module _ {E : Type 0} where
  module _ (elements front : List E) (free : ℕ) (counted : length front ≡ free) where
    -- reading from the write position on
    read_rest : (from : ℕ) → free ≤ from → drop from (front ++ drop free elements) ≡ drop from elements
    read_rest from h =
        let m : ℕ = from - free in
        ap (λ (n : ℕ). drop n (front ++ drop free elements)) (let e : from ≡ length front + m = omega arith in e)
        ∙ drop-append-add front (drop free elements) m
        ∙ drop-drop m free elements
        ∙ ap (λ (n : ℕ). drop n elements) (let e : free + m ≡ from = omega arith in e)

    -- writing there
    paste_front : (s : List E) (n : ℕ) → paste (front ++ drop free elements) free s n ≡ front ++ take n s ++ drop (free + n) elements
    paste_front s n = rw (take_at front (drop free elements) free counted, read_rest (free + n) (omega arith))

module _ {E : Type 0} (zero_element : E) (dims base : ℕ) (rotation : Bool) (elements : List E) (location : List ℕ) where
  -- the elements after one step, from those before it
  pub taken_elements : (zeros from p : ℕ) (s : Progress E) → length s.written.front ≡ s.written.free → s.written.free + zeros ≤ from
      → (settled elements location (taken zero_element dims base elements zeros from p s).written).elements
      ≡ copied_within (s.written.free + zeros) from (p * base + dims - from) (filled zero_element s.written.free zeros (settled elements location s.written).elements)
  unfolding settled taken copied_down
  taken_elements zeros from p s counted behind =
      let f : ℕ = s.written.free in
      let n : ℕ = p * base + dims - from in
      let front : List E = s.written.front ++ replicate zeros zero_element in
      let fills : filled zero_element f zeros (s.written.front ++ drop f elements) ≡ front ++ drop (f + zeros) elements =
      paste_front elements s.written.front f counted (replicate zeros zero_element) zeros
      ∙ ap (λ (l : List E). s.written.front ++ l ++ drop (f + zeros) elements) (take_all zeros (replicate zeros zero_element) (le_of_eq (length-replicate zeros zero_element))) in
      let counted' : length front ≡ f + zeros = length-append s.written.front (replicate zeros zero_element) ∙ rw (counted, length-replicate) in
      sym (ap (copied_within (f + zeros) from n) fills
      ∙ paste_front elements front (f + zeros) counted' (drop from (front ++ drop (f + zeros) elements)) n
      ∙ ap (λ (l : List E). front ++ take n l ++ drop (f + zeros + n) elements) (read_rest elements front (f + zeros) counted' from behind))

  -- which step is made
  pub step_joins : (s : Progress E) (p : ℕ) → p * base ≤ s.read → step zero_element dims base rotation elements s p ≡ taken zero_element dims base elements 0 s.read p s
  unfolding step
  step_joins s p h = rw (le-leb (p * base) s.read h)

  pub step_starts : (s : Progress E) (p : ℕ) → s.read < p * base
      → step zero_element dims base rotation elements s p ≡ taken zero_element dims base elements (zeros_before rotation dims s.written.free (p * base)) (p * base) p s
  unfolding step
  step_starts s p h = rw (lt-leb (p * base) s.read h)

  -- before the first step nothing has changed
  pub none_settled : settled elements location nothing_written ≡ record { elements = elements; location = location; free = 0 }
  unfolding settled moved
  none_settled = ap (λ (l : List ℕ). record { elements = elements; location = l; free = 0 }) (map-id location)

  -- the places after one step, from those before it: the place of the point at p is set
  pub taken_location : (limit : ℕ) (ps : List ℕ) (least : ℕ) (s : Progress E) → Sound dims base rotation elements limit ps least s → (zeros from p i : ℕ) → least ≤ p → Distinct location → Live location i → get_or location i 65535 ≡ p
      → (settled elements location (taken zero_element dims base elements zeros from p s).written).location
      ≡ set (settled elements location s.written).location i ((s.written.free + zeros + (p * base + dims - from) - dims) / base)
  unfolding settled taken copied_down
  taken_location limit ps least s sound zeros from p i in_order distinct live at =
      places_next location i s.written.moves (record { old = p; new = (s.written.free + zeros + (p * base + dims - from) - dims) / base }) distinct live at
      (go (holds (olds s.written.moves) p) refl)
    where
      go : (t : Bool) → holds (olds s.written.moves) p ≡ t → t ≡ false
      go true e =
          let k : PointKept dims base rotation elements least s.written.front s.written.free (record { old = p; new = moved s.written.moves p }) = moved_each (PointKept dims base rotation elements least s.written.front s.written.free) s.written.moves p sound.kept e in
          absurd (omega (arith, k.older))
      go false e = refl
