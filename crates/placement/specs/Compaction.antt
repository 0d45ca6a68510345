-- Compaction by blocks, as document 01 words it in 'Compact'.
use Rattle.std.specs.Prelude.{Bool, true, false, cond, List, [], ◌∷◌, ◌++◌, map, ℕ, zero, suc, ◌+◌, ◌*◌, ◌-◌, ◌/◌, max, leb, eqb, drop, replicate}
use Rattle.placement.specs.Row.{piece}
use Rattle.placement.specs.Alignment.{zeros_before}

-- Points: a table of places, one for each index, where 65,535 is an empty place.

-- whether some point stands at a place
unfoldable pub holds : List ℕ → ℕ → Bool
holds [] place = false
holds (p ∷ ps) place = cond (eqb p place) true (holds ps place)

-- 'Live points by place': the places below `bound` at which a point stands, in order
unfoldable pub live_below : List ℕ → ℕ → List ℕ
live_below location zero = []
live_below location (suc place) =
    cond (holds location place) (live_below location place ++ place ∷ []) (live_below location place)

-- how many points there are
unfoldable pub live_count : List ℕ → ℕ
live_count [] = 0
live_count (p ∷ ps) = cond (eqb p 65535) (live_count ps) (suc (live_count ps))

-- a point's place before and after
pub record Move : Type 0 where
  pub old : ℕ
  pub new : ℕ

-- 'places follow': the place after the moves; an empty place is moved by none
unfoldable pub moved : List Move → ℕ → ℕ
moved [] place = place
moved (m ∷ ms) place = cond (eqb m.old place) m.new (moved ms place)

-- elements from `start` up to `end`, with the places of the points among them
pub record Block : Type 0 where
  pub start : ℕ
  pub end : ℕ
  pub places : List ℕ

-- what has been written, in place of as many elements from 0 on; the write position; the moves so far
pub record Written (E : Type 0) : Type 0 where
  pub front : List E
  pub free : ℕ
  pub moves : List Move

-- elements, places and free start
pub record Layout (E : Type 0) : Type 0 where
  pub elements : List E
  pub location : List ℕ
  pub free : ℕ

module _ (dims base : ℕ) where
  -- 'A block grows while the next point starts at or before its end.'
  unfoldable pub grown_blocks : Block → List ℕ → List Block
  grown_blocks block [] = block ∷ []
  grown_blocks block (p ∷ ps) =
      cond (leb (p * base) block.end)
      (grown_blocks
      (record { start = block.start; end = max block.end (p * base + dims); places = block.places ++ p ∷ [] })
      ps)
      (block ∷ grown_blocks (record { start = p * base; end = p * base + dims; places = p ∷ [] }) ps)

  unfoldable pub blocks : List ℕ → List Block
  blocks [] = []
  blocks (p ∷ ps) = grown_blocks (record { start = p * base; end = p * base + dims; places = p ∷ [] }) ps

-- where the points of a block stand once its first element stands at `at`
unfoldable pub block_moves : (base at : ℕ) → Block → List Move
block_moves base at block = map (λ p. record { old = p; new = (at + (p * base - block.start)) / base }) block.places

abbrev pub nothing_written : {E : Type 0} → Written E
nothing_written = record { front = []; free = 0; moves = [] }

-- some zeros, and then `count` of the elements that stood from `from` on before compaction; points that moved so
unfoldable pub copied_down : {E : Type 0} → E → List E → (zeros from count : ℕ) → List Move → Written E → Written E
copied_down zero_element elements zeros from count moves w =
    record {
      front = w.front ++ replicate zeros zero_element ++ piece from count elements;
      free = w.free + zeros + count;
      moves = w.moves ++ moves;
    }

-- 'the free start is where writing ended. Floats from there on keep their values.'
unfoldable pub settled : {E : Type 0} → List E → List ℕ → Written E → Layout E
settled elements location w =
    record {
      elements = w.front ++ drop w.free elements;
      location = map (moved w.moves) location;
      free = w.free;
    }

module _ {E : Type 0} (zero_element : E) (dims base : ℕ) (rotation : Bool) (elements : List E) where
  -- 'With rotation, .. zeros come first .. The block is copied down, places follow'
  unfoldable pub block_down : Written E → Block → Written E
  block_down w block =
      let zeros : ℕ = zeros_before rotation dims w.free block.start in
      copied_down zero_element elements zeros block.start (block.end - block.start) (block_moves base (w.free + zeros) block) w

  unfoldable pub blocks_down : Written E → List Block → Written E
  blocks_down w [] = w
  blocks_down w (block ∷ rest) = blocks_down (block_down w block) rest

  -- what compaction writes for live places in order
  unfoldable pub written_by_blocks : List ℕ → Written E
  written_by_blocks places = blocks_down nothing_written (blocks dims base places)

  -- compaction; every live place is below free start / base
  unfoldable pub compacted : List ℕ → ℕ → Layout E
  compacted location free = settled elements location (written_by_blocks (live_below location (free / base)))
