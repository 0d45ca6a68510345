-- Document 01, 'The other readings': label, attribute and attribute_vec.
use Rattle.std.specs.Prelude.{ℕ, ◌%◌, List, Bool, Result, Ok, Err, cond, length, get_or, set, replicate, eqb, Float}
use Rattle.std.specs.Float.{binary32}
use Rattle.std.specs.Float.Ieee.{of_bits}
use Rattle.terms.specs.declared.Refusal.{Refusal}
use Rattle.terms.specs.Refusals.{number}
use Rattle.labels.specs.Decisions.{in_use}

-- an answer: the number read, that the slice was written, or a refusal by its number
pub data Answer : Type 0 where
  holds : ℕ → Answer
  written : Answer
  refused : ℕ → Answer

abbrev pub label_read_means : Result ℕ Refusal → Answer
label_read_means (Ok n) = holds n
label_read_means (Err r) = refused (number r)

abbrev pub vector_read_means : Result Unit Refusal → Answer
vector_read_means (Ok _) = written
vector_read_means (Err r) = refused (number r)

-- 'label (the code), attribute (its class) and attribute_vec need a label index in use, else 6'
unfoldable pub label_spec : Bool → ℕ → List ℕ → List ℕ → ℕ → Answer
label_spec store_labels capacity labels counts i =
    cond (in_use store_labels capacity counts i) (holds (get_or labels i 0)) (refused 6)

-- the class that the label's slot holds
unfoldable pub attribute_spec : Bool → ℕ → List ℕ → List ℕ → List ℕ → ℕ → Answer
attribute_spec store_labels capacity slots counts attributes i =
    cond (in_use store_labels capacity counts i) (holds (get_or attributes (get_or slots i 0) 0)) (refused 6)

-- 0.0 and 1.0
abbrev pub zero_float : Float
zero_float = of_bits binary32 0

abbrev pub one_float : Float
one_float = of_bits binary32 0x3f80_0000

-- 'ten floats, 1.0 at slot mod 10, else 0.0'
unfoldable pub one_hot : ℕ → List Float
one_hot slot = set (replicate 10 zero_float) (slot % 10) one_float

-- an answer with the output slice after the call
pub record VectorOutcome : Type 0 where
  pub answer : Answer
  pub out : List Float

abbrev pub vector_outcome : Answer → List Float → VectorOutcome
vector_outcome a out = record { answer = a; out = out }

-- 6, then 3: 'An output slice is exactly as long as its answer.'
unfoldable pub attribute_vec_spec : Bool → ℕ → List ℕ → List ℕ → ℕ → List Float → VectorOutcome
attribute_vec_spec store_labels capacity slots counts i out =
    cond (in_use store_labels capacity counts i)
    (cond (eqb (length out) 10) (vector_outcome written (one_hot (get_or slots i 0))) (vector_outcome (refused 3) out))
    (vector_outcome (refused 6) out)
