-- The zeros that compaction puts before a block, so that each of its points keeps its turn.
use Rattle.std.specs.Prelude.{Bool, cond, ℕ, ◌+◌, ◌-◌, ◌%◌, ◌^◌}

-- a difference and a sum of 64 bits that wrap
unfoldable pub wrapping_sub : ℕ → ℕ → ℕ
wrapping_sub a b = (a + (2 ^ 64 - b)) % 2 ^ 64

unfoldable pub wrapping_add : ℕ → ℕ → ℕ
wrapping_add a b = (a + b) % 2 ^ 64

-- Document 01, 'Compact': 'With rotation, (dimensions − free + block start) mod dimensions zeros come first, a subtraction that
-- wraps on purpose in 64 bits; free is the write position.'
unfoldable pub alignment : (dims free start : ℕ) → ℕ
alignment dims free start = wrapping_add (wrapping_sub dims free) start % dims

unfoldable pub zeros_before : Bool → (dims free start : ℕ) → ℕ
zeros_before rotation dims free start = cond rotation (alignment dims free start) 0
