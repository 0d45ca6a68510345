-- The calls that the list guarantee speaks of, each bound once. Run and guarantee use these names and nothing else of the calls.
use Rattle.std.specs.Prelude.{ℕ, Bool, List}
use Rattle.store_definitions.specs.declared.Shape.{Shape}
use Rattle.store_definitions.specs.Memory.{Memory, PointStore}
use Rattle.store_definitions.specs.Answers.{Answer, Outcome, Output}
use Rattle.store_definitions.specs.Opening.{open_spec}
use Rattle.store_definitions.specs.Counting.{Pairing, inc_spec, dec_spec, adjust_spec, count_spec, live_number_spec, free_start_spec}
use Rattle.store_definitions.specs.Rows.{compact_spec, copy_spec}
use Rattle.store_definitions.specs.Adding.{add_spec}

module _ {E : Type 0} (zero_element : E) where
  abbrev pub open_call : Shape → List ℕ → Memory E → Outcome E
  open_call = open_spec zero_element

  abbrev pub compact_call : PointStore E → Outcome E
  compact_call = compact_spec zero_element

module _ {E : Type 0} (eq : E → E → Bool) (zero_element : E) where
  abbrev pub add_call : PointStore E → List E → ℕ → Outcome E
  add_call = add_spec eq zero_element

module _ {E : Type 0} where
  abbrev pub inc_call : PointStore E → ℕ → ℕ → Outcome E
  inc_call = inc_spec

  abbrev pub dec_call : PointStore E → ℕ → ℕ → Outcome E
  dec_call = dec_spec

  abbrev pub adjust_call : PointStore E → List Pairing → Outcome E
  adjust_call = adjust_spec

  abbrev pub copy_call : PointStore E → ℕ → List E → Output E
  copy_call = copy_spec

  abbrev pub count_call : PointStore E → ℕ → Answer
  count_call = count_spec

  abbrev pub live_number_call : PointStore E → Answer
  live_number_call = live_number_spec

  abbrev pub free_start_call : PointStore E → Answer
  free_start_call = free_start_spec
