-- Compaction by steps leaves what compaction by blocks does (document 02, Point 3), for any live places in order: so after each
-- step it leaves what compaction would leave were no later point live.
use Rattle.std.specs.Prelude.{Bool, cond, ◌≡◌, leb}
use Rattle.std.proofs.Math.Bool.{true, false}
use mathlib.Core.List.{List, [], ◌∷◌, ◌++◌, map, append-nil, append_assoc, map-append}
use Rattle.std.proofs.Math.Path.{refl, ap}
use Rattle.std.proofs.Common.{sym, ◌∙◌, leb-true}
use Prim.Native.Nat.{ℕ, suc, ◌+◌, ◌*◌, ◌-◌, ◌/◌, ◌^◌, ◌≤◌, ◌<◌, max}
use Rattle.std.proofs.Math.Nat.{mul-le-mul_right, zero-mod}
use native.Mathlib.Omega.{arith}
use Rattle.std.proofs.Math.ListN.{replicate}
use Rattle.placement.specs.Row.{piece}
use Rattle.placement.specs.Pieces.{piece_join}
use Rattle.placement.specs.Alignment.{zeros_before}
use Rattle.placement.specs.AlignmentLaws.{alignment_difference}
use Rattle.placement.specs.Compaction.{Move, Block, Written, grown_blocks, blocks, block_moves, nothing_written, copied_down, block_down, blocks_down, written_by_blocks}
use Rattle.placement.specs.Order.{Rising}
use Rattle.placement.specs.Steps.{Progress, taken, step, steps_from, steps}

module _ {E : Type 0} (zero_element : E) (dims base : ℕ) (rotation : Bool) (elements : List E) where
  -- where a block that was written so far leaves the steps
  abbrev after : Written E → Block → Progress E
  after w block = record { written = block_down zero_element dims base rotation elements w block; read = block.end }

  module _ (w : Written E) (block : Block) (p : ℕ) where
    abbrev longer : Block
    longer = record { start = block.start; end = max block.end (p * base + dims); places = block.places ++ p ∷ [] }

    -- a step that goes on a block leaves what the longer block would
    joins : block.start ≤ block.end → block.start ≤ p * base → block.end ≤ p * base + dims
        → taken zero_element dims base elements 0 block.end p (after w block) ≡ after w longer
    unfolding taken block_down copied_down block_moves
    joins h k l =
        let s : ℕ = block.start in
        let e : ℕ = block.end in
        let at : ℕ = w.free + zeros_before rotation dims w.free s in
        let f : List E = w.front ++ replicate (zeros_before rotation dims w.free s) zero_element in
        let upto : ℕ = p * base + dims in
        let longest : upto ≡ max e upto = omega arith in
        let new : at + (e - s) + 0 + (upto - e) - dims ≡ at + (p * base - s) = omega arith in
        let front : f ++ piece s (e - s) elements ++ [] ++ piece e (upto - e) elements ≡ f ++ piece s (max e upto - s) elements =
        ap (λ (r : List E). r ++ piece e (upto - e) elements) (append-nil (f ++ piece s (e - s) elements))
        ∙ append_assoc f (piece s (e - s) elements) (piece e (upto - e) elements)
        ∙ ap (λ (r : List E). f ++ r) (piece_join s e upto elements h l ∙ ap (λ (n : ℕ). piece s (n - s) elements) longest) in
        let free : at + (e - s) + 0 + (upto - e) ≡ at + (max e upto - s) = omega arith in
        let to : ℕ → Move = λ q. record { old = q; new = (at + (q * base - s)) / base } in
        let moves : w.moves ++ map to block.places ++ record { old = p; new = (at + (e - s) + 0 + (upto - e) - dims) / base } ∷ [] ≡ w.moves ++ map to (block.places ++ p ∷ []) =
        rw (new, append_assoc, map-append) in
        λ i. record { written = record { front = front i; free = free i; moves = moves i }; read = longest i }

  -- a step that starts a block leaves what the block of its one point does
  starts : (s : Progress E) (p : ℕ)
      → taken zero_element dims base elements (zeros_before rotation dims s.written.free (p * base)) (p * base) p s
      ≡ after s.written (record { start = p * base; end = p * base + dims; places = p ∷ [] })
  unfolding taken block_down copied_down block_moves
  starts s p =
      let at : ℕ = s.written.free + zeros_before rotation dims s.written.free (p * base) in
      let new : at + (p * base + dims - p * base) - dims ≡ at + (p * base - p * base) = omega arith in
      rw new

  -- the steps over the places after a block's first leave what the blocks that grow from it do
  goes_on : (w : Written E) (block : Block) (least : ℕ) (ps : List ℕ) → block.start ≤ block.end → block.start ≤ least * base → block.end ≤ least * base + dims → Rising least ps
      → (steps_from zero_element dims base rotation elements (after w block) ps).written ≡ blocks_down zero_element dims base rotation elements w (grown_blocks dims base block ps)
  unfolding step steps_from grown_blocks blocks_down
  goes_on w block least [] h k l r = refl
  goes_on w block least (p ∷ ps) h k l r =
      let above : least * base ≤ p * base = mul-le-mul_right base r.0 in
      let s : Progress E = after w block in
      let run : Progress E → Written E = λ s. (steps_from zero_element dims base rotation elements s ps).written in
      let alone : Block = record { start = p * base; end = p * base + dims; places = p ∷ [] } in
      both (leb (p * base) block.end) run (blocks_down zero_element dims base rotation elements w)
      (ap run (joins w block p h (omega arith) (omega arith)) ∙ goes_on w (longer w block p) (suc p) ps (omega arith) (omega arith) (omega arith) r.1)
      (ap run (starts s p) ∙ goes_on s.written alone (suc p) ps (omega arith) (omega arith) (omega arith) r.1)
    where
      both : (t : Bool) (f : Progress E → Written E) (g : List Block → Written E) {a b : Progress E} {c d : List Block} → f a ≡ g c → f b ≡ g d → f (cond t a b) ≡ g (cond t c d)
      both true f g x y = x
      both false f g x y = y

  -- no zeros come before a block that starts where writing does
  at_start : (rotation : Bool) → dims < 2 ^ 64 → zeros_before rotation dims 0 0 ≡ 0
  unfolding zeros_before
  at_start true h = alignment_difference dims 0 0 (omega arith) (omega arith) ∙ zero-mod dims
  at_start false h = refl

  -- the first step starts a block too: where it goes on what was read, its point stands at place 0
  first : dims < 2 ^ 64 → (p : ℕ)
      → step zero_element dims base rotation elements (record { written = nothing_written; read = 0 }) p
      ≡ after nothing_written (record { start = p * base; end = p * base + dims; places = p ∷ [] })
  unfolding step
  first h p = go (leb (p * base) 0) refl ∙ starts (record { written = nothing_written; read = 0 }) p
    where
      from : ℕ → ℕ → Progress E
      from zeros start = taken zero_element dims base elements zeros start p (record { written = nothing_written; read = 0 })

      go : (t : Bool) → leb (p * base) 0 ≡ t → cond t (from 0 0) (from (zeros_before rotation dims 0 (p * base)) (p * base)) ≡ from (zeros_before rotation dims 0 (p * base)) (p * base)
      go true e =
          let none : p * base ≡ 0 = omega (arith, leb-true (p * base) 0 e) in
          sym (ap (λ (n : ℕ). from (zeros_before rotation dims 0 n) n) none ∙ ap (λ (z : ℕ). from z 0) (at_start rotation h))
      go false e = refl

  pub steps_are_blocks : dims < 2 ^ 64 → (ps : List ℕ) → Rising 0 ps → (steps zero_element dims base rotation elements ps).written ≡ written_by_blocks zero_element dims base rotation elements ps
  unfolding steps steps_from written_by_blocks blocks blocks_down
  steps_are_blocks h [] r = refl
  steps_are_blocks h (p ∷ ps) r =
      let alone : Block = record { start = p * base; end = p * base + dims; places = p ∷ [] } in
      ap (λ (s : Progress E). (steps_from zero_element dims base rotation elements s ps).written) (first h p)
      ∙ goes_on nothing_written alone (suc p) ps (omega arith) (omega arith) (omega arith) r.1
