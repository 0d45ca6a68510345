-- What a list of sets says of the probes, from the sets and their answers alone.
use Rattle.std.specs.Prelude.{ℕ, ◌+◌, Bool, cond, not, ◌&&◌, List, [], ◌∷◌, length, get_or, replicate, eqb}
use Rattle.store_definitions.specs.Answers.{Answer, kept, waiting, done, is, says, refused, refused_after}
use Rattle.guarantee.specs.Run.{Call, add}
use Rattle.guarantee.specs.History.{points_with}
use Rattle.probes_definitions.specs.Memory.{PointProbes}
use Rattle.probes_definitions.specs.Readings.{ProbeReading, absent, estimates, any_absent, filled}
use Rattle.probes_guarantee.specs.Run.{ProbeSet, probes_answer_to}

module _ {E : Type 0} where
  -- a probe's Estimated readings with one set more, if it was accepted: kept or waiting
  abbrev pub estimates_with : List (ProbeReading E) → Answer → ℕ → ℕ → ℕ
  estimates_with set (kept i l laid left) k n = n + estimates (get_or set k absent)
  estimates_with set waiting k n = n + estimates (get_or set k absent)
  estimates_with set done k n = n
  estimates_with set (is m) k n = n
  estimates_with set (says b) k n = n
  estimates_with set (refused m) k n = n
  estimates_with set (refused_after m j) k n = n

module _ {E : Type 0} (zero_element : E) where
  -- the last of some filled sets, that come with the last one first; all zero before the first
  abbrev pub last_of : List (List E) → List E
  last_of [] = replicate 8 zero_element
  last_of (x ∷ xs) = x

module _ {E : Type 0} (eq : E → E → Bool) (zero_element : E) (start : PointProbes E) where
  -- 'the number of its probe's Estimated readings in accepted sets'
  unfoldable pub estimated_readings : List (ProbeSet E) → ℕ → ℕ
  estimated_readings [] k = 0
  estimated_readings (s ∷ before) k = estimates_with s.readings (probes_answer_to eq zero_element start s before) k (estimated_readings before k)

  -- 'the filled sets' of the accepted sets, the last one first: an Absent repeats its probe's float of the accepted set before
  unfoldable pub filled_sets : List (ProbeSet E) → List (List E)
  filled_sets [] = []
  filled_sets (s ∷ before) =
      points_with (filled s.readings (last_of zero_element (filled_sets before))) (probes_answer_to eq zero_element start s before) (filled_sets before)

  -- a set as it is filled after these sets
  abbrev pub filled_set : ProbeSet E → List (ProbeSet E) → List E
  filled_set s before = filled s.readings (last_of zero_element (filled_sets before))

  -- an Absent before the first accepted set
  abbrev pub absent_first : ProbeSet E → List (ProbeSet E) → Bool
  absent_first s before = any_absent s.readings && eqb (length (filled_sets before)) 0

  -- the adds on the store inside, the last one first: each set of eight readings, filled, unless an Absent has nothing to repeat
  unfoldable pub store_calls : List (ProbeSet E) → List (Call E)
  store_calls [] = []
  store_calls (s ∷ before) =
      cond (eqb (length s.readings) 8 && not (absent_first s before)) (add (filled_set s before) s.code ∷ store_calls before) (store_calls before)
