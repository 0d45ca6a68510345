-- A table of n entries serves the scan: every live place has an entry, and once the points are entered the scan can start.
use Rattle.std.proofs.Common.{◌≡◌, ℕ, ◌/◌, ◌<◌, ◌≤◌, List, length, get_or, replicate, sym, ap, le-div_iff_mul-le, arith}
use native.Mathlib.Nat.{le_of_dvd}
use lib.ListN.{length-replicate}
use Rattle.placement.specs.Places.{Live, WellPlaced}
use Rattle.placement_rows.specs.Compactable.{Compactable}
use Rattle.placement_rows.specs.IndexTable.{Indexed}
use Rattle.placement_rows.specs.OnePass.{Tabled, Scannable}

module _ (dims base : ℕ) (location : List ℕ) (free words : ℕ) where
  pub clear_table : (n : ℕ) → n ≤ 65535 → free / base ≤ n → Compactable dims base location free words → Tabled dims base location (replicate n 65535) free words
  clear_table n small reaches c =
      record {
        compactable = c;
        clear = ap (λ (m : ℕ). replicate m 65535) (sym (length-replicate {A = ℕ} n 65535));
        reaches = omega (arith, length-replicate {A = ℕ} n 65535);
        small = omega (arith, length-replicate {A = ℕ} n 65535);
      }

  module _ (table : List ℕ) (t : Tabled dims base location table free words) where
    pub places_inside : (i : ℕ) → Live location i → get_or location i 65535 < length table
    places_inside i live =
        let well : WellPlaced dims base location free words = t.compactable.well in
        let below : get_or location i 65535 < free / base =
        (le-div_iff_mul-le well.shaped.some_base).1 (omega (arith, well.ends i live, le_of_dvd well.shaped.some well.shaped.whole)) in
        omega (arith, t.reaches)

    pub table_filled : (after : List ℕ) → length after ≡ length table → Indexed location after (length location) → Scannable dims base location after free words
    table_filled after same indexed =
        record { compactable = t.compactable; indexed = indexed; reaches = omega (arith, t.reaches); small = omega (arith, t.small) }
