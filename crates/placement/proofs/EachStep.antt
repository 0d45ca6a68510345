-- Document 02, Point 3: 'Compaction goes by steps in order of place, each given the next live point's place and no later one.' 'after each
-- step floats, places so far and write position are what compaction would leave were no later point live.' The theorem is `each_step`.
-- What stands there after some steps is `scanned`, which is what the code's loop holds: elements and places where they are, the write
-- position, the end of what was read.
use Rattle.std.specs.Prelude.{Bool, true, false, cond, ◌≡◌, length, get_or, take}
use mathlib.Core.List.{List, [], ◌∷◌, ◌++◌}
use Rattle.std.proofs.Math.Path.{refl, sym}
use Prim.Native.Nat.{ℕ, zero, suc, ◌/◌, ◌≤◌, ◌<◌}
use Rattle.std.proofs.Math.Decide.{dec_lt, ℕ_discrete}
use Rattle.std.proofs.Math.Nat.{le_refl, le_trans}
use Rattle.std.proofs.Common.{arith, length-append, take_all}
use Rattle.std.proofs.Math.ListN.{get_or-append, get_or-eq_default}
use Rattle.std.proofs.lemmas.List.{take-append-le}
use Rattle.std.proofs.Math.Seq.{take-append_seam, get_or-append_seam}
use Rattle.terms.specs.Entries.{any_default}
use Rattle.placement.specs.Compaction.{Layout, holds, live_below, settled, compacted}
use Rattle.placement.proofs.NoLater.{no_later, AsCompacted, after_step}
use Rattle.placement.specs.Places.{WellPlaced}
use Rattle.placement.specs.Scanned.{ScanState, shown}
use Rattle.placement.proofs.ScannedLaws.{scanned}
use Rattle.placement.specs.Steps.{steps}

-- the place that k steps reach: that of the next live point or, once every step is made, the bound
unfoldable pub reached : List ℕ → (bound k : ℕ) → ℕ
reached location bound k = get_or (live_below location bound) k bound

module _ (location : List ℕ) where
  -- one place more: a fact of the place that k steps reach, from the same fact before
  module _ (b k : ℕ) (P : ℕ → List ℕ → Type 0) where
    abbrev ps : List ℕ
    ps = live_below location b

    further : (t : Bool)
        → (k < length ps → P (get_or ps k b) (take k ps))
        → (t ≡ true → P b ps)
        → P (suc b) (cond t (ps ++ b ∷ []) ps)
        → P (get_or (cond t (ps ++ b ∷ []) ps) k (suc b)) (take k (cond t (ps ++ b ∷ []) ps))
    further true before here past =
        elim (dec_lt k (length ps)) [
          | yes l ↦ rw (get_or-append ps (b ∷ []) (suc b) k l, any_default ps k (suc b) b l, take-append-le k ps (b ∷ []) (omega arith)) (before l)
          | no f ↦ elim (ℕ_discrete k (length ps)) [
            | yes e ↦ rw (e, get_or-append_seam ps b [] (suc b), take-append_seam ps (b ∷ [])) (here refl)
            | no d ↦
                let beyond : length (ps ++ b ∷ []) ≤ k = rw (length-append ps (b ∷ [])) (omega arith) in
                rw (get_or-eq_default (ps ++ b ∷ []) (suc b) {n = k} beyond, take_all k (ps ++ b ∷ []) beyond) past
          ]
        ]
    further false before here past =
        elim (dec_lt k (length ps)) [
          | yes l ↦ rw (any_default ps k (suc b) b l) (before l)
          | no f ↦
              let beyond : length ps ≤ k = omega arith in
              rw (get_or-eq_default ps (suc b) {n = k} beyond, take_all k ps beyond) past
        ]

  reached_most : (bound k : ℕ) → reached location bound k ≤ bound
  unfolding reached live_below
  reached_most zero k = le_refl 0
  reached_most (suc b) k =
      further b k (λ q l. q ≤ suc b) (holds location b) (λ l. le_trans (reached_most b k) (omega arith)) (λ e. omega arith) (le_refl (suc b))

  -- below it stand the first k live points
  pub reached_live : (bound k : ℕ) → live_below location (reached location bound k) ≡ take k (live_below location bound)
  unfolding reached live_below
  reached_live zero k = sym (take_all k [] (omega arith))
  reached_live (suc b) k =
      further b k (λ q l. live_below location q ≡ l) (holds location b) (λ l. reached_live b k) (λ e. refl) refl

-- elements, places and write position of the scan
abbrev pub layout_of : {E : Type 0} → ScanState E → Layout E
layout_of t = record { elements = t.elements; location = t.location; free = t.free }

module _ {E : Type 0} (zero_element : E) (dims base : ℕ) (rotation : Bool) (elements : List E) (location : List ℕ) (free : ℕ) (well : WellPlaced dims base location free (length elements)) where
  abbrev place : ℕ → ℕ
  place k = reached location (free / base) k

  -- k steps, over the first k live places in order, leave the scan there
  pub steps_made : (k : ℕ) → scanned zero_element dims base rotation elements location (place k)
      ≡ shown elements location (steps zero_element dims base rotation elements (take k (live_below location (free / base))))
  unfolding scanned
  steps_made k = rw (reached_live location (free / base) k)

  -- after every number of steps: floats, places so far and write position are compaction's, were no later point live
  pub each_step : (k : ℕ)
      → AsCompacted (place k) location
      (layout_of (scanned zero_element dims base rotation elements location (place k)))
      (compacted zero_element dims base rotation elements (no_later (place k) location) free)
  unfolding scanned shown settled
  each_step k = after_step zero_element dims base rotation elements location free well (place k) (reached_most location (free / base) k)
