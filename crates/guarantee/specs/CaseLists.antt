-- Lists of calls on fresh stores: document 01's worked windows A to D and G, and small ones for what those do not show. Elements are
-- float words; the memory lent to each opening holds rubbish.
use Rattle.std.specs.Prelude.{ℕ, ◌*◌, Bool, true, false, cond, List, [], ◌∷◌, ◌≡◌, refl, replicate}
use Rattle.float_bits.specs.Words.{plus_zero, minus_zero, words_equal}
use Rattle.terms.specs.Below.{every_below}
use Rattle.terms.specs.Rows.{all_equal}
use Rattle.decimal.specs.Field.{column, columns, field, digit, value_from}
use Rattle.decimal.specs.Lines.{fields, line, lines}
use Rattle.class_table.specs.Table.{some_below, largest_below, table_allowed}
use Rattle.class_table.specs.Reasons.{reason_classes}
use Rattle.class_table.specs.Text.{numbered, table_text, classes_of, table_read}
use Rattle.labels.specs.Decisions.{none}
use Rattle.store_definitions.specs.declared.Shape.{Shape}
use Rattle.store_definitions.specs.Memory.{Memory, PointStore}
use Rattle.store_definitions.specs.Answers.{Answer, done, outcome}
use Rattle.store_definitions.specs.Opening.{open_decided, opened, open_spec}
use Rattle.store_definitions.specs.Counting.{Pairing}
use Rattle.store_definitions.specs.Bounds.{bounds_hold, start_allowed, labels_lent, lent_enough}
use Rattle.guarantee.specs.Calls.{open_call}
use Rattle.guarantee.specs.Run.{Call, add, inc, dec, adjust, compact, after, answer_to}
use Rattle.guarantee.specs.History.{Given, History, history}

-- dimensions 4, shingle size 2, internal shingling, labels off, capacity 10, start 5
abbrev pub windows : Bool → Shape
windows rotation =
    record {
      dimensions = 4;
      shingle_size = 2;
      capacity = 10;
      initial_capacity = 5;
      internal_shingling = true;
      internal_rotation = rotation;
      store_labels = false;
    }

-- dimensions 2, shingle size 2, capacity 2, start 2: room for two rows of their own, or for three that overlap
abbrev pub small : (rotation labels : Bool) → Shape
small rotation labels =
    record {
      dimensions = 2;
      shingle_size = 2;
      capacity = 2;
      initial_capacity = 2;
      internal_shingling = false;
      internal_rotation = rotation;
      store_labels = labels;
    }

abbrev pub plain : Shape
plain = windows false

abbrev pub turning : Shape
turning = windows true

abbrev pub small_plain : Shape
small_plain = small false false

abbrev pub small_turning : Shape
small_turning = small true false

abbrev pub small_labelled : Shape
small_labelled = small false true

-- memory for a shape; with labels off none for them
abbrev pub rubbish : Shape → Memory ℕ
rubbish h =
    let labels : List ℕ = replicate (cond h.store_labels h.capacity 0) 77 in
    record {
      store = replicate (h.capacity * h.dimensions) 77;
      last_known_shingle = replicate h.dimensions 77;
      reference_count = replicate h.capacity 77;
      location = replicate h.capacity 77;
      index_starts = replicate h.capacity 77;
      index_ends = replicate h.capacity 77;
      labels = labels;
      label_attributes = labels;
      label_count = labels;
      label_starts = labels;
      label_ends = labels;
      attributes = labels;
      attribute_count = labels;
      attribute_starts = labels;
      attribute_ends = labels;
    }

-- document 01's classes
abbrev pub table : List ℕ
table = table_text reason_classes

unfoldable pub fresh : Shape → PointStore ℕ
fresh h = opened 0 h table (rubbish h)

abbrev pub Opens : Shape → Type 0
Opens h = open_call 0 h table (rubbish h) ≡ outcome done (fresh h)

pub record AllOpen : Type 0 where
  pub plain : Opens plain
  pub turning : Opens turning
  pub small_plain_lem : Opens small_plain
  pub small_turning_lem : Opens small_turning
  pub small_labelled_lem : Opens small_labelled

pub opening : AllOpen
unfolding fresh open_spec open_decided bounds_hold start_allowed labels_lent lent_enough table_read table_text numbered classes_of lines line fields field columns column value_from digit all_equal reason_classes table_allowed every_below some_below largest_below
opening = record { plain = refl; turning = refl; small_plain_lem = refl; small_turning_lem = refl; small_labelled_lem = refl }

abbrev pub past : Shape → List (Call ℕ) → History ℕ
past h calls = history words_equal 0 h (fresh h) calls

abbrev pub store : Shape → List (Call ℕ) → PointStore ℕ
store h calls = after words_equal 0 (fresh h) calls

abbrev pub answer : Shape → Call ℕ → List (Call ℕ) → Answer
answer h c before = answer_to words_equal 0 (fresh h) c before

abbrev pub gave : List (Call ℕ) → List ℕ → ℕ → Given ℕ
gave calls row place = record { calls = calls; row = row; place = place }

-- the lists, the last call first: A, B, C, the three adds that follow, D, and G, which rotates
abbrev pub list_a : List (Call ℕ)
list_a = add (1 ∷ 2 ∷ []) 0 ∷ []

abbrev pub list_b : List (Call ℕ)
list_b = add (3 ∷ 4 ∷ []) 0 ∷ list_a

abbrev pub list_c : List (Call ℕ)
list_c = add (5 ∷ 6 ∷ []) 0 ∷ list_b

abbrev pub list_four : List (Call ℕ)
list_four = add (7 ∷ 8 ∷ []) 0 ∷ list_c

abbrev pub list_five : List (Call ℕ)
list_five = add (9 ∷ 10 ∷ []) 0 ∷ list_four

abbrev pub list_full : List (Call ℕ)
list_full = add (11 ∷ 12 ∷ []) 0 ∷ list_five

abbrev pub list_d : List (Call ℕ)
list_d = compact ∷ dec 1 none ∷ dec 0 none ∷ list_five

abbrev pub list_g : List (Call ℕ)
list_g = compact ∷ dec 0 none ∷ list_five

abbrev pub pair : (insert delete : ℕ) → Pairing
pair insert delete = record { insert_index = insert; insert_label = none; delete_index = delete; delete_label = none }

-- after B: an inc, and an adjust of three pairs: one accepted, one skipped, one refused
abbrev pub list_adjust : List (Call ℕ)
list_adjust = adjust (pair 0 0 ∷ pair none 0 ∷ pair 0 7 ∷ []) ∷ inc 0 none ∷ list_b

-- after B: an adjust whose second pair is refused, and whose first inserts and deletes nothing
abbrev pub refused_adjust : Call ℕ
refused_adjust = adjust (pair 0 none ∷ pair 0 7 ∷ [])

abbrev pub list_insert : List (Call ℕ)
list_insert = refused_adjust ∷ list_b

-- two rows, the second joined, the first gone, and no room for one more until compaction
abbrev pub list_small : List (Call ℕ)
list_small = dec 0 none ∷ add (2 ∷ 3 ∷ []) 0 ∷ add (1 ∷ 2 ∷ []) 0 ∷ []

abbrev pub third : Call ℕ
third = add (9 ∷ 9 ∷ []) 0

-- labels on: two rows of one code, one count more of the first with its label, the second gone with its own
abbrev pub list_labelled : List (Call ℕ)
list_labelled = dec 1 1 ∷ inc 0 0 ∷ add (3 ∷ 4 ∷ []) 7 ∷ add (1 ∷ 2 ∷ []) 7 ∷ []

-- a row that ends with 0.0, and one that begins with −0.0
abbrev pub list_zeros : List (Call ℕ)
list_zeros = add (minus_zero ∷ 2 ∷ []) 0 ∷ add (1 ∷ plus_zero ∷ []) 0 ∷ []

-- a NaN's word, of another payload than the usual one, at the same places
abbrev pub a_nan : ℕ
a_nan = 0x7fc0_0001

abbrev pub other_nan : ℕ
other_nan = 0x7fc0_0002

abbrev pub list_nan : List (Call ℕ)
list_nan = add (a_nan ∷ 2 ∷ []) 0 ∷ add (1 ∷ a_nan ∷ []) 0 ∷ []
