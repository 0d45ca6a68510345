-- What the store's definitions become for a C caller: a record of words, a return value, and lent numbers for the answer.
use Rattle.std.specs.Prelude.{ℕ, false, cond, ◌&&◌, List, [], ◌∷◌, leb, ltb, eqb, length, set}
use Rattle.terms.specs.Below.{one}
use Rattle.placement.specs.declared.Laid.{Laid}
use Rattle.placement.specs.declared.Laid.TheVariants as at_laid
use Rattle.placement.specs.Laying.{place_of}
use Rattle.store_definitions.specs.declared.Store.{Store}
use Rattle.store_definitions.specs.declared.Shape.{Shape}
use Rattle.store_definitions.specs.Answers.{Answer, kept, waiting, done, is, says, refused, refused_after, Outcome, Output}
use Rattle.store_definitions.specs.Bounds.{bounds_hold, start_allowed}
use Rattle.store_definitions.specs.Memory.{Memory}
use Rattle.store_definitions.specs.Opening.{open_spec}
use Rattle.point_store_c.specs.Records.{store_out, recorded}

-- the return value: 0, or the refusal's number
abbrev pub returned : Answer → ℕ
returned (kept i l w left) = 0
returned waiting = 0
returned done = 0
returned (is n) = 0
returned (says b) = 0
returned (refused n) = n
returned (refused_after n before) = n

-- 1 for a row joined to the one before it
abbrev pub joined_number : Laid → ℕ
joined_number (at_laid.Whole place) = 0
joined_number (at_laid.Joined place) = 1

-- the lent numbers after the call, before which they were xs. An add lends six: kept (1, or 0 for Waiting), and, written for
-- a kept add alone, index, label index, joined, place and how many indices remain free
abbrev pub answered : List ℕ → Answer → List ℕ
answered xs (kept i l w left) = 1 ∷ i ∷ l ∷ joined_number w ∷ place_of w ∷ left ∷ []
answered xs waiting = set xs 0 0
answered xs done = xs
answered xs (is n) = n ∷ []
answered xs (says b) = one b ∷ []
answered xs (refused n) = xs
answered xs (refused_after n before) = before ∷ []

-- what a C caller has after a call: the return value, its record, its lent numbers and its lent memory
pub record Exported : Type 0 where
  pub value : ℕ
  pub words : List ℕ
  pub numbers : List ℕ
  pub memory : Memory ℕ

abbrev pub exported : ℕ → List ℕ → List ℕ → Memory ℕ → Exported
exported value words numbers memory = record { value = value; words = words; numbers = numbers; memory = memory }

-- an outcome, for a caller whose record and lent numbers held these
unfoldable pub exported_call : List ℕ → List ℕ → Outcome ℕ → Exported
exported_call words xs o =
    exported (returned o.answer) (recorded words o.after.header) (answered xs o.answer) o.after.memory

-- what a C caller has after a reading of numbers, whose record and memory are as they were
pub record Read : Type 0 where
  pub value : ℕ
  pub numbers : List ℕ

abbrev pub read : ℕ → List ℕ → Read
read value numbers = record { value = value; numbers = numbers }

unfoldable pub exported_reading : List ℕ → Answer → Read
exported_reading xs a = read (returned a) (answered xs a)

-- what a C caller has after a reading into an output slice
pub record Written (X : Type 0) : Type 0 where
  pub value : ℕ
  pub out : List X

abbrev pub written : {X : Type 0} → ℕ → List X → Written X
written value out = record { value = value; out = out }

unfoldable pub exported_output : {X : Type 0} → Output X → Written X
exported_output o = written (returned o.answer) o.out

-- the shape that an opening's numbers ask for. A flag above 1 asks for none: a shape of zeros, which is outside the bounds
unfoldable pub shape_in : (dimensions shingle capacity start shingling rotation labels : ℕ) → Shape
shape_in d n c i shingling rotation labels =
    cond (ltb shingling 2 && (ltb rotation 2 && ltb labels 2))
    (record {
      dimensions = d;
      shingle_size = n;
      capacity = c;
      initial_capacity = i;
      internal_shingling = eqb shingling 1;
      internal_rotation = eqb rotation 1;
      store_labels = eqb labels 1;
    })
    (record {
      dimensions = 0;
      shingle_size = 0;
      capacity = 0;
      initial_capacity = 0;
      internal_shingling = false;
      internal_rotation = false;
      store_labels = false;
    })

-- the record after an opening: a refused one leaves it
abbrev pub opened_words : List ℕ → Answer → Store → List ℕ
opened_words words (kept i l w left) s = words
opened_words words waiting s = words
opened_words words done s = store_out words s
opened_words words (is n) s = words
opened_words words (says b) s = words
opened_words words (refused n) s = words
opened_words words (refused_after n before) s = words

abbrev pub opened_as : List ℕ → Outcome ℕ → Exported
opened_as words o =
    exported (returned o.answer) (opened_words words o.answer o.after.header) [] o.after.memory

-- a record too short: 'Opening checks 2, 1'
unfoldable pub short_record : Shape → ℕ
short_record h =
    cond (bounds_hold h.dimensions h.shingle_size h.capacity && start_allowed h.initial_capacity h.capacity) 1 2

-- an opening, for a caller whose record held these words
unfoldable pub exported_opening : List ℕ → Shape → (text : List ℕ) → Memory ℕ → Exported
exported_opening words h text m =
    cond (leb 39 (length words)) (opened_as words (open_spec 0 h text m)) (exported (short_record h) words [] m)
