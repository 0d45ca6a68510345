-- Document 01, 'Opening'.
use Rattle.std.specs.Prelude.{ℕ, ◌*◌, ◌-◌, Bool, false, cond, ◌&&◌, is_some, List, ◌++◌, drop, replicate, set, Result, Ok, Err}
use Rattle.terms.specs.declared.Refusal.{Refusal}
use Rattle.interval_store_manager.specs.Calls.{Decided, go, refuse, manager}
use Rattle.class_table.specs.Text.{table_read, table_of}
use Rattle.labels.specs.Opening.{labels_opened}
use Rattle.store_definitions.specs.declared.Store.{Store}
use Rattle.store_definitions.specs.declared.Shape.{Shape}
use Rattle.store_definitions.specs.Memory.{Memory, PointStore, point_store}
use Rattle.store_definitions.specs.Answers.{done, Outcome, outcome}
use Rattle.store_definitions.specs.Bounds.{bounds_hold, start_allowed, lent_enough}
use Rattle.store_definitions.specs.Parts.{label_half, with_labels}
use Rattle.store_definitions.specs.Decisions.{carried_out}

-- 2: the shape within the bounds
abbrev pub shape_allowed : Shape → Bool
shape_allowed h =
    bounds_hold h.dimensions h.shingle_size h.capacity && start_allowed h.initial_capacity h.capacity

-- 'Opening checks 2, 1.' Document 02, Point 6: 'Any other text gets 17 after the lent-slice check and opens nothing.'
abbrev pub open_judged : {E : Type 0} → Shape → (table : Bool) → Memory E → Decided
open_judged h table m =
    cond (shape_allowed h)
    (cond (lent_enough h.dimensions h.capacity h.store_labels m) (cond table go (refuse 17)) (refuse 1))
    (refuse 2)

unfoldable pub open_decided : {E : Type 0} → Shape → (text : List ℕ) → Memory E → Decided
open_decided h text m = open_judged h (is_some (table_read text)) m

-- 'Store length starts at starting capacity × dimensions ..; sequence, free start .. 0'; all indices are free
abbrev pub fresh_with : Shape → (classes : List ℕ) → Store
fresh_with h classes =
    record {
      dimensions = h.dimensions;
      shingle_size = h.shingle_size;
      capacity = h.capacity;
      internal_shingling = h.internal_shingling;
      internal_rotation = h.internal_rotation;
      store_labels = h.store_labels;
      store_length = h.initial_capacity * h.dimensions;
      start_free_region = 0;
      next_sequence_index = 0;
      index_manager = manager h.initial_capacity 1;
      label_manager = manager h.capacity 1;
      attribute_manager = manager h.capacity 1;
      classes = classes;
    }

-- the table of classes is the one that the text holds
abbrev pub fresh_record : Shape → List ℕ → Store
fresh_record h text = fresh_with h (table_of text)

-- the record of zeros, where there is no store: it is ill-formed
abbrev pub no_record : Store
no_record =
    record {
      dimensions = 0;
      shingle_size = 0;
      capacity = 0;
      internal_shingling = false;
      internal_rotation = false;
      store_labels = false;
      store_length = 0;
      start_free_region = 0;
      next_sequence_index = 0;
      index_manager = manager 0 0;
      label_manager = manager 0 0;
      attribute_manager = manager 0 0;
      classes = replicate 24 0;
    }

-- the record that an opening leaves
abbrev pub opened_store : Result Store Refusal → Store
opened_store (Ok s) = s
opened_store (Err _) = no_record

-- the first n entries made x; a longer slice keeps its rest
abbrev pub filled_first : {X : Type 0} → ℕ → X → List X → List X
filled_first n x xs = replicate n x ++ drop n xs

module _ {E : Type 0} (zero_element : E) where
  -- 'all 0.0; window all 0.0; .. counts, label codes, their slots and the slots' classes 0; places empty'
  unfoldable pub opened_memory : Shape → Memory E → Memory E
  opened_memory h m =
      record {
        store = filled_first (h.initial_capacity * h.dimensions) zero_element m.store;
        last_known_shingle = filled_first h.dimensions zero_element m.last_known_shingle;
        reference_count = filled_first h.initial_capacity 0 m.reference_count;
        location = filled_first h.initial_capacity 65535 m.location;
        index_starts = set m.index_starts 0 0;
        index_ends = set m.index_ends 0 (h.initial_capacity - 1);
        labels = m.labels;
        label_attributes = m.label_attributes;
        label_count = m.label_count;
        label_starts = m.label_starts;
        label_ends = m.label_ends;
        attributes = m.attributes;
        attribute_count = m.attribute_count;
        attribute_starts = m.attribute_starts;
        attribute_ends = m.attribute_ends;
      }

  unfoldable pub opened : Shape → List ℕ → Memory E → PointStore E
  opened h text m =
      let p : PointStore E = record { header = fresh_record h text; memory = opened_memory h m } in
      cond h.store_labels (with_labels (labels_opened h.capacity (label_half p)) p) p

module _ {E : Type 0} (zero_element : E) where
  -- a refused opening gives the record of zeros, and the memory as it was
  unfoldable pub open_spec : Shape → (text : List ℕ) → Memory E → Outcome E
  open_spec h text m = carried_out (open_decided h text m) (point_store no_record m) (outcome done (opened zero_element h text m))
