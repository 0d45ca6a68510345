-- A run: any list of sets on a product, each on the product as the last one left it. Lists stand with the last set first.
use Rattle.std.specs.Prelude.{ℕ, Bool, List, [], ◌∷◌}
use Rattle.store_definitions.specs.Answers.{Answer}
use Rattle.probes_definitions.specs.Memory.{PointProbes}
use Rattle.probes_definitions.specs.Readings.{ProbeReading}
use Rattle.probes_guarantee.specs.Calls.{set_call}

-- readings, one a probe, and a label code
pub record ProbeSet (E : Type 0) : Type 0 where
  pub readings : List (ProbeReading E)
  pub code : ℕ

module _ {E : Type 0} (eq : E → E → Bool) (zero_element : E) where
  -- the product after the sets
  unfoldable pub probes_after : PointProbes E → List (ProbeSet E) → PointProbes E
  probes_after start [] = start
  probes_after start (s ∷ before) = (set_call eq zero_element (probes_after start before) s.readings s.code).after

  -- what a set after these sets answers
  abbrev pub probes_answer_to : PointProbes E → ProbeSet E → List (ProbeSet E) → Answer
  probes_answer_to start s before = (set_call eq zero_element (probes_after start before) s.readings s.code).answer
