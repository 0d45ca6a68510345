-- The calls that the product's guarantee speaks of, each bound once.
use Rattle.std.specs.Prelude.{ℕ, Bool, List}
use Rattle.store_definitions.specs.declared.Shape.{Shape}
use Rattle.store_definitions.specs.Memory.{Memory}
use Rattle.store_definitions.specs.Answers.{Output}
use Rattle.probes_definitions.specs.Memory.{PointProbes}
use Rattle.probes_definitions.specs.Answers.{ProbesOutcome}
use Rattle.probes_definitions.specs.Readings.{ProbeReading}
use Rattle.probes_definitions.specs.Opening.{probes_open_spec}
use Rattle.probes_definitions.specs.Setting.{set_spec}
use Rattle.probes_definitions.specs.Tallies.{tallies_spec}

module _ {E : Type 0} (zero_element : E) where
  abbrev pub probes_open_call : Shape → List ℕ → Memory E → ProbesOutcome E
  probes_open_call = probes_open_spec zero_element

module _ {E : Type 0} (eq : E → E → Bool) (zero_element : E) where
  abbrev pub set_call : PointProbes E → List (ProbeReading E) → ℕ → ProbesOutcome E
  set_call = set_spec eq zero_element

module _ {E : Type 0} where
  abbrev pub tallies_call : PointProbes E → List ℕ → Output ℕ
  tallies_call = tallies_spec
