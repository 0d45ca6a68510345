-- Lengths and entries of a filled set and of its tallies.
use Prim.Native.Nat.{ℕ, zero, suc, ◌+◌, ◌≤◌, ◌<◌}
use native.Mathlib.Omega.{arith}
use mathlib.Core.List.{List, [], ◌∷◌}
use Rattle.std.specs.Prelude.{◌≡◌, length, get_or}
use Rattle.std.proofs.Math.Path.{refl, ap}
use Rattle.probes_definitions.specs.Readings.{ProbeReading, measured, estimated, absent, estimates, filled, tallied, of_kinds}

module _ {E : Type 0} where
  pub filled_length : (set : List (ProbeReading E)) (last : List E) → length set ≤ length last → length (filled set last) ≡ length set
  unfolding filled
  filled_length [] last h = refl
  filled_length (r ∷ rs) [] h = absurd (omega arith)
  filled_length (r ∷ rs) (x ∷ last) h = ap suc (filled_length rs last (omega arith))

  pub tallied_length : (set : List (ProbeReading E)) (ts : List ℕ) → length (tallied set ts) ≡ length ts
  unfolding tallied
  tallied_length [] ts = refl
  tallied_length (r ∷ rs) [] = refl
  tallied_length (r ∷ rs) (t ∷ ts) = ap suc (tallied_length rs ts)

  pub estimates_most : (r : ProbeReading E) → estimates r ≤ 1
  estimates_most (measured x) = omega arith
  estimates_most (estimated x) = omega arith
  estimates_most absent = omega arith

  -- the tally of each probe gains its own reading's estimate
  pub tallied_at : (set : List (ProbeReading E)) (ts : List ℕ) (k : ℕ) → k < length ts → get_or (tallied set ts) k 0 ≡ get_or ts k 0 + estimates (get_or set k absent)
  unfolding tallied
  tallied_at [] ts k h = omega arith
  tallied_at (r ∷ rs) [] k h = absurd (omega arith)
  tallied_at (r ∷ rs) (t ∷ ts) zero h = refl
  tallied_at (r ∷ rs) (t ∷ ts) (suc k) h = tallied_at rs ts k (omega arith)

  pub kinds_length : (kinds : List ℕ) (xs : List E) → length kinds ≡ length xs → length (of_kinds kinds xs) ≡ length kinds
  unfolding of_kinds
  kinds_length [] xs h = refl
  kinds_length (k ∷ ks) [] h = absurd (omega arith)
  kinds_length (k ∷ ks) (x ∷ xs) h = ap suc (kinds_length ks xs (omega arith))
