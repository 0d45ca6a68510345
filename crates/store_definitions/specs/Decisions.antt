-- Document 01, 'Refused calls': decisions that several calls share. 'Every other store call checks 1 first'.
use Rattle.std.specs.Prelude.{ℕ, Bool, cond, ◌&&◌, List, get_or, ltb}
use Rattle.interval_store_manager.specs.Calls.{Decided, go, refuse}
use Rattle.store_definitions.specs.Memory.{PointStore}
use Rattle.store_definitions.specs.Answers.{Answer, done, is, refused, Outcome, outcome, Output, output}
use Rattle.store_definitions.specs.Parts.{table_length}
use Rattle.store_definitions.specs.WellFormed.{well_formed}

-- 'the first that applies'
abbrev pub and_then : Decided → Decided → Decided
and_then go d = d
and_then (refuse n) d = refuse n

-- a refusal on its cause
abbrev pub refuse_if : Bool → ℕ → Decided
refuse_if b n = cond b (refuse n) go

-- a reading: the number, or the refusal
abbrev pub reads : Decided → ℕ → Answer
reads go n = is n
reads (refuse k) n = refused k

-- an output written, or left as it was
abbrev pub writes : {X : Type 0} → Decided → List X → List X → Output X
writes go out new = output done new
writes (refuse n) out new = output (refused n) out

-- what follows the check of a reading: its answer, or its answer with the output
abbrev pub then_answer : Decided → Answer → Answer
then_answer go a = a
then_answer (refuse n) a = refused n

abbrev pub then_output : {X : Type 0} → Decided → List X → Output X → Output X
then_output go out o = o
then_output (refuse n) out o = output (refused n) out

module _ {E : Type 0} where
  -- a decision carried out: a refused call changes nothing
  abbrev pub carried_out : Decided → PointStore E → Outcome E → Outcome E
  carried_out go p o = o
  carried_out (refuse n) p o = outcome (refused n) p

  -- 1
  unfoldable pub form_decided : PointStore E → Decided
  form_decided p = cond (well_formed p) go (refuse 1)

  -- an index with a count: 'index not below the table length, or with count 0' is refused
  unfoldable pub live : PointStore E → ℕ → Bool
  live p i = ltb i (table_length p.header) && ltb 0 (get_or p.memory.reference_count i 0)

  -- who may touch an index: 5 where it is not live. Document 02 adds owners behind this name
  unfoldable pub touch_decided : PointStore E → ℕ → Decided
  touch_decided p i = cond (live p i) go (refuse 5)
