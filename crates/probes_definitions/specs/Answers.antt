-- An answer with the product after the call.
use Rattle.store_definitions.specs.Answers.{Answer}
use Rattle.probes_definitions.specs.Memory.{PointProbes}

pub record ProbesOutcome (E : Type 0) : Type 0 where
  pub answer : Answer
  pub after : PointProbes E

abbrev pub probes_outcome : {E : Type 0} → Answer → PointProbes E → ProbesOutcome E
probes_outcome a p = record { answer = a; after = p }
