-- What a well-formed store gives of its shape, its places and its free start: the hypotheses of the laws.
use Rattle.std.specs.Prelude.{List, ◌≡◌, ℕ, ◌+◌, ◌*◌, ◌/◌, ◌≤◌, ◌<◌, length, get_or}
use Rattle.std.specs.Int.{◌∣◌}
use Rattle.std.proofs.Math.Nat.{le_of_dvd}
use Rattle.std.proofs.Common.{le-div_iff_mul-le, arith}

-- base is a part of dimensions
pub record Shaped (dims base : ℕ) : Type 0 where
  pub some_base : 0 < base
  pub some : 0 < dims
  pub whole : base ∣ dims

-- index i has a point: its place is not 65,535
pub record Live (location : List ℕ) (i : ℕ) : Type 0 where
  pub listed : i < length location
  pub placed : ¬ (get_or location i 65535 ≡ 65535)

-- Document 01, 'Well-formed': 'place × base + dimensions is at most the free start', which is 'at most the store length'. Its bounds
-- give `small`: dimensions are at most 64 and the free start is at most 16,384.
pub record WellPlaced (dims base : ℕ) (location : List ℕ) (free length : ℕ) : Type 0 where
  pub shaped : Shaped dims base
  pub small : free + dims ≤ 65535
  pub inside : free ≤ length
  pub ends : (i : ℕ) → Live location i → get_or location i 65535 * base + dims ≤ free

-- so every place is below free start / base
pub place_below : (dims base : ℕ) (location : List ℕ) (free n : ℕ) → WellPlaced dims base location free n → (i : ℕ) → Live location i → get_or location i 65535 < free / base
place_below dims base location free n well i live =
    (le-div_iff_mul-le well.shaped.some_base).1 (omega (arith, well.ends i live, le_of_dvd well.shaped.some well.shaped.whole))

-- 'live places are distinct'
abbrev pub Distinct : List ℕ → Type 0
Distinct location = (i j : ℕ) → Live location i → Live location j → get_or location i 65535 ≡ get_or location j 65535 → i ≡ j
