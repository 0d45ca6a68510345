-- Opening a product: its store, and no estimates yet.
use Rattle.std.specs.Prelude.{ℕ, not, replicate, List, Result, Ok, Err}
use Rattle.terms.specs.Refusals.{number}
use Rattle.terms.specs.declared.Refusal.{Refusal}
use Rattle.interval_store_manager.specs.Calls.{Decided, go, refuse}
use Rattle.store_definitions.specs.declared.Shape.{Shape}
use Rattle.store_definitions.specs.Memory.{Memory, PointStore}
use Rattle.store_definitions.specs.Decisions.{and_then, refuse_if}
use Rattle.store_definitions.specs.Answers.{done, refused}
use Rattle.store_definitions.specs.Opening.{open_decided, no_record, opened}
use Rattle.probes_definitions.specs.declared.Probes.{Probes}
use Rattle.probes_definitions.specs.Memory.{PointProbes, point_probes}
use Rattle.probes_definitions.specs.Answers.{ProbesOutcome, probes_outcome}
use Rattle.probes_definitions.specs.WellFormed.{eight_probes}

-- 'Another base, or no internal shingling, gets 2 on opening'; then the store's 2, 1 and 17
unfoldable pub probes_open_decided : {E : Type 0} → Shape → (text : List ℕ) → Memory E → Decided
probes_open_decided s text m =
    and_then (refuse_if (not (eight_probes s.dimensions s.shingle_size s.internal_shingling)) 2) (open_decided s text m)

abbrev pub fresh_probes : {E : Type 0} → PointStore E → PointProbes E
fresh_probes p = record { header = record { store = p.header; tallies = replicate 8 0 }; memory = p.memory }

-- the record of zeros, where there is no product
abbrev pub no_probes : Probes
no_probes = record { store = no_record; tallies = replicate 8 0 }

-- what an opening answers, with the product and the memory after it
abbrev pub probes_opened : {E : Type 0} → Result Probes Refusal → Memory E → ProbesOutcome E
probes_opened (Ok p) m = probes_outcome done (point_probes p m)
probes_opened (Err r) m = probes_outcome (refused (number r)) (point_probes no_probes m)

module _ {E : Type 0} (zero_element : E) where
  -- a refused opening gives the record of zeros, and the memory as it was
  abbrev pub probes_open_carried_out : Decided → Shape → (text : List ℕ) → Memory E → ProbesOutcome E
  probes_open_carried_out go s text m = probes_outcome done (fresh_probes (opened zero_element s text m))
  probes_open_carried_out (refuse n) s text m = probes_outcome (refused n) (point_probes no_probes m)

  unfoldable pub probes_open_spec : Shape → (text : List ℕ) → Memory E → ProbesOutcome E
  probes_open_spec s text m = probes_open_carried_out (probes_open_decided s text m) s text m
