-- The reading of a product: its tallies. Copy, count and the others are the store's, on the record inside.
use Rattle.std.specs.Prelude.{ℕ, cond, not, List, length, eqb}
use Rattle.interval_store_manager.specs.Calls.{Decided, go, refuse}
use Rattle.store_definitions.specs.Answers.{Output}
use Rattle.store_definitions.specs.Decisions.{and_then, refuse_if, writes}
use Rattle.probes_definitions.specs.Memory.{PointProbes}
use Rattle.probes_definitions.specs.WellFormed.{probes_well_formed}

module _ {E : Type 0} where
  -- 1
  unfoldable pub probes_form_decided : PointProbes E → Decided
  probes_form_decided p = cond (probes_well_formed p) go (refuse 1)

  -- 'An output slice is exactly as long as its answer', else 3
  unfoldable pub tallies_spec : PointProbes E → List ℕ → Output ℕ
  tallies_spec p out = writes (and_then (probes_form_decided p) (refuse_if (not (eqb (length out) 8)) 3)) out p.header.tallies
