-- What the code of the scan of places holds: elements and places where they stand, the write position and the end of what was read. Its
-- laws are in proofs/ScannedLaws.
use Rattle.std.specs.Prelude.{List, ℕ, ◌+◌, ◌-◌, ◌/◌, set}
use Rattle.placement.specs.Compaction.{settled}
use Rattle.placement.specs.InPlace.{copied_within, filled}
use Rattle.placement.specs.Steps.{Progress}

-- what code holds
pub record ScanState (E : Type 0) : Type 0 where
  pub elements : List E
  pub location : List ℕ
  pub free : ℕ
  pub read : ℕ

-- what it holds after some steps
unfoldable pub shown : {E : Type 0} → List E → List ℕ → Progress E → ScanState E
shown elements location s =
    record {
      elements = (settled elements location s.written).elements;
      location = (settled elements location s.written).location;
      free = s.written.free;
      read = s.read;
    }

-- a point that ends at `end` is met: zeros, the elements from `from` on, and the place of index i
abbrev pub advanced : {E : Type 0} → E → (dims base : ℕ) → (zeros from end i : ℕ) → ScanState E → ScanState E
advanced zero_element dims base zeros from end i t =
    record {
      elements = copied_within (t.free + zeros) from (end - from) (filled zero_element t.free zeros t.elements);
      location = set t.location i ((t.free + zeros + (end - from) - dims) / base);
      free = t.free + zeros + (end - from);
      read = end;
    }
