-- Document 02, Point 3: 'after each step floats, places so far and write position are what compaction would leave were no later
-- point live.' Here the steps have been made at the live places below q.
use Rattle.std.specs.Prelude.{Bool, ◌≡◌, eqb, length}
use Rattle.std.proofs.Math.Bool.{true, false, cond}
use mathlib.Core.List.{List, [], ◌∷◌, ◌++◌, map}
use Rattle.std.proofs.Math.Path.{refl, sym, ap}
use Rattle.std.proofs.Common.{◌∙◌, add-zero, add-suc, arith}
use Prim.Native.Nat.{ℕ, zero, suc, ◌+◌, ◌-◌, ◌/◌, ◌≤◌, ◌<◌}
use Rattle.std.proofs.Math.Nat.{div-le_self}
use borrow.Author.Tests.{ne_eqb, lt-ltb, ltb-true, ltb-false}
use Rattle.std.proofs.Math.Dec.{ltb}
use Rattle.std.proofs.Math.ListN.{drop, get_or, length-map}
use Rattle.placement.specs.Compaction.{Written, Layout, holds, moved, live_below, settled, written_by_blocks, compacted}
use Rattle.placement.specs.MovedLaws.{get_d_map}
use Rattle.placement.specs.Places.{WellPlaced}
use Rattle.placement.proofs.Scan.{live_none, live_rising}
use Rattle.placement.specs.Steps.{steps}
use Rattle.placement.proofs.StepsLaw.{steps_are_blocks}

-- the places, were no point at place q or later live
unfoldable pub no_later : ℕ → List ℕ → List ℕ
no_later q location = map (λ p. cond (ltb p q) p 65535) location

module _ (q : ℕ) (within : q ≤ 65535) where
  holds_earlier : (location : List ℕ) (p : ℕ) → p < q → holds (no_later q location) p ≡ holds location p
  unfolding holds no_later
  holds_earlier [] p h = refl
  holds_earlier (o ∷ location) p h = go (ltb o q) refl (holds_earlier location p h)
    where
      go : (t : Bool) → ltb o q ≡ t → holds (no_later q location) p ≡ holds location p
          → cond (eqb (cond t o 65535) p) true (holds (no_later q location) p) ≡ cond (eqb o p) true (holds location p)
      go true e ih = ap (cond (eqb o p) true) ih
      go false e ih =
          let past : q ≤ o = ltb-false o q e in
          rw (ne_eqb 65535 p (λ f. omega arith), ne_eqb o p (λ f. omega arith)) ih

  holds_later : (location : List ℕ) (p : ℕ) → q ≤ p → p < 65535 → holds (no_later q location) p ≡ false
  unfolding holds no_later
  holds_later [] p h k = refl
  holds_later (o ∷ location) p h k = go (ltb o q) refl (holds_later location p h k)
    where
      go : (t : Bool) → ltb o q ≡ t → holds (no_later q location) p ≡ false → cond (eqb (cond t o 65535) p) true (holds (no_later q location) p) ≡ false
      go true e ih = rw (ne_eqb o p (λ f. omega (arith, ltb-true o q e))) ih
      go false e ih = rw (ne_eqb 65535 p (λ f. omega arith)) ih

  module _ (location : List ℕ) where
    live_same : (b : ℕ) → b ≤ q → live_below (no_later q location) b ≡ live_below location b
    unfolding live_below
    live_same zero h = refl
    live_same (suc b) h = rw (holds_earlier location b h, live_same b (omega arith))

    live_none_later : (m : ℕ) → q + m ≤ 65535 → live_below (no_later q location) (q + m) ≡ live_below location q
    live_none_later zero h = rw add-zero (live_same q (omega arith))
    live_none_later (suc m) h =
        rw add-suc
        (live_none (no_later q location) (q + m) (holds_later location (q + m) (omega arith) (omega arith)) ∙ live_none_later m (omega arith))

    live_earlier : (bound : ℕ) → q ≤ bound → bound ≤ 65535 → live_below (no_later q location) bound ≡ live_below location q
    live_earlier bound h k =
        ap (live_below (no_later q location)) (let e : bound ≡ q + (bound - q) = omega arith in e) ∙ live_none_later (bound - q) (omega arith)

-- what is there is as if it were compaction's
pub record AsCompacted {E : Type 0} (q : ℕ) (location : List ℕ) (after compacted : Layout E) : Type 0 where
  pub elements : after.elements ≡ compacted.elements
  pub free : after.free ≡ compacted.free
  pub places : (i : ℕ) → i < length location → get_or location i 65535 < q → get_or after.location i 65535 ≡ get_or compacted.location i 65535

module _ {E : Type 0} (zero_element : E) (dims base : ℕ) (rotation : Bool) (elements : List E) (location : List ℕ) (free : ℕ) (well : WellPlaced dims base location free (length elements)) where
  pub after_step : (q : ℕ) → q ≤ free / base
      → AsCompacted q location (settled elements location (steps zero_element dims base rotation elements (live_below location q)).written) (compacted zero_element dims base rotation elements (no_later q location) free)
  unfolding settled compacted no_later
  after_step q h =
      let w : Written E = (steps zero_element dims base rotation elements (live_below location q)).written in
      let within : free / base ≤ 65535 = omega (arith, div-le_self free base, well.small) in
      let same : w ≡ written_by_blocks zero_element dims base rotation elements (live_below (no_later q location) (free / base)) =
      rw (live_earlier q (omega arith) location (free / base) h within)
      (steps_are_blocks zero_element dims base rotation elements (omega (arith, well.small)) (live_below location q) (live_rising location q)) in
      record {
        elements = ap (λ (v : Written E). v.front ++ drop v.free elements) same;
        free = ap (λ (v : Written E). v.free) same;
        places =
            λ i l earlier.
            let p : ℕ = get_or location i 65535 in
            let kept : get_or (no_later q location) i 65535 ≡ p = get_d_map (λ p. cond (ltb p q) p 65535) location i 65535 65535 l ∙ rw (lt-ltb p q earlier) in
            get_d_map (moved w.moves) location i 65535 65535 l
            ∙ ap (moved w.moves) (sym kept)
            ∙ sym (get_d_map (moved w.moves) (no_later q location) i 65535 65535 (rw length-map l))
            ∙ ap (λ (v : Written E). get_or (map (moved v.moves) (no_later q location)) i 65535) same;
      }
