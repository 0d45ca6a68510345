-- A step of compaction on the elements where they stand: zeros are filled in at the write position, and elements are copied down from
-- further up in the same list. Its laws are in proofs/InPlaceLaws.
use Rattle.std.specs.Prelude.{ℕ, List, drop, replicate}
use Rattle.std.proofs.Math.Seq.{paste}

module _ {E : Type 0} where
  -- n elements from `from` on are copied to `at`
  abbrev pub copied_within : (at from n : ℕ) → List E → List E
  copied_within at from n now = paste now at (drop from now) n

  -- n elements from `at` on become zero
  abbrev pub filled : E → (at n : ℕ) → List E → List E
  filled zero_element at n now = paste now at (replicate n zero_element) n
