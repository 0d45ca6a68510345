-- A run: any list of add, inc, dec, adjust and compact calls, with any arguments, on a store. Each call gets the store as the
-- last one left it. Lists of calls stand with the last call first, so that what follows a call's name is what was called before it.
use Rattle.std.specs.Prelude.{ℕ, Bool, List, [], ◌∷◌}
use Rattle.store_definitions.specs.Memory.{PointStore}
use Rattle.store_definitions.specs.Answers.{Answer, Outcome}
use Rattle.store_definitions.specs.Counting.{Pairing}
use Rattle.guarantee.specs.Calls.{add_call, inc_call, dec_call, adjust_call, compact_call}

pub data Call (E : Type 0) : Type 0 where
  -- a point and a label code
  add : List E → ℕ → Call E
  -- a point index and a label index
  inc : ℕ → ℕ → Call E
  dec : ℕ → ℕ → Call E
  adjust : List Pairing → Call E
  compact : Call E

module _ {E : Type 0} (eq : E → E → Bool) (zero_element : E) where
  abbrev pub called : Call E → PointStore E → Outcome E
  called (add point code) p = add_call eq zero_element p point code
  called (inc i l) p = inc_call p i l
  called (dec i l) p = dec_call p i l
  called (adjust pairs) p = adjust_call p pairs
  called compact p = compact_call zero_element p

  -- the store after the calls
  unfoldable pub after : PointStore E → List (Call E) → PointStore E
  after start [] = start
  after start (c ∷ before) = (called c (after start before)).after

  -- what a call after these calls answers
  abbrev pub answer_to : PointStore E → Call E → List (Call E) → Answer
  answer_to start c before = (called c (after start before)).answer
