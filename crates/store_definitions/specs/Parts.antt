-- The parts of a store that calls read and change: its shape, its points' table, its rows, its window, its label half.
use Rattle.std.specs.Prelude.{ℕ, ◌-◌, ◌/◌, List}
use Rattle.labels.specs.Counted.{Counted, counted}
use Rattle.labels.specs.Labels.{Labels}
use Rattle.store_definitions.specs.declared.Store.{Store}
use Rattle.store_definitions.specs.Memory.{PointStore}

-- 'Base means dimensions / shingle size; extra means dimensions − base.'
abbrev pub base_of : Store → ℕ
base_of s = s.dimensions / s.shingle_size

abbrev pub extra_of : Store → ℕ
extra_of s = s.dimensions - base_of s

-- 'the point manager's capacity being the table length': one number, kept once
abbrev pub table_length : Store → ℕ
table_length s = s.index_manager.capacity

-- elements, places, free start and store length: what compaction and growth of the floats change
pub record Rows (E : Type 0) : Type 0 where
  pub elements : List E
  pub location : List ℕ
  pub free : ℕ
  pub store_length : ℕ

module _ {E : Type 0} where
  -- the counts of the points with the manager of their indices
  abbrev pub point_table : PointStore E → Counted
  point_table p =
      counted p.header.index_manager p.memory.reference_count p.memory.index_starts p.memory.index_ends

  -- the label half
  abbrev pub label_half : PointStore E → Labels
  label_half p =
      record {
        labels = p.memory.labels;
        label_attributes = p.memory.label_attributes;
        label_table = counted p.header.label_manager p.memory.label_count p.memory.label_starts p.memory.label_ends;
        attributes = p.memory.attributes;
        attribute_table = counted p.header.attribute_manager p.memory.attribute_count p.memory.attribute_starts p.memory.attribute_ends;
      }

  abbrev pub rows_of : PointStore E → Rows E
  rows_of p =
      record {
        elements = p.memory.store;
        location = p.memory.location;
        free = p.header.start_free_region;
        store_length = p.header.store_length;
      }

  abbrev pub with_rows : Rows E → PointStore E → PointStore E
  with_rows r p =
      let s = p.header in
      let m = p.memory in
      record {
        header = record {
          dimensions = s.dimensions;
          shingle_size = s.shingle_size;
          capacity = s.capacity;
          internal_shingling = s.internal_shingling;
          internal_rotation = s.internal_rotation;
          store_labels = s.store_labels;
          store_length = r.store_length;
          start_free_region = r.free;
          next_sequence_index = s.next_sequence_index;
          index_manager = s.index_manager;
          label_manager = s.label_manager;
          attribute_manager = s.attribute_manager;
          classes = s.classes;
        };
        memory = record {
          store = r.elements;
          last_known_shingle = m.last_known_shingle;
          reference_count = m.reference_count;
          location = r.location;
          index_starts = m.index_starts;
          index_ends = m.index_ends;
          labels = m.labels;
          label_attributes = m.label_attributes;
          label_count = m.label_count;
          label_starts = m.label_starts;
          label_ends = m.label_ends;
          attributes = m.attributes;
          attribute_count = m.attribute_count;
          attribute_starts = m.attribute_starts;
          attribute_ends = m.attribute_ends;
        };
      }

  -- another table of points, with the places
  abbrev pub with_points : Counted → List ℕ → PointStore E → PointStore E
  with_points t location p =
      let s = p.header in
      let m = p.memory in
      record {
        header = record {
          dimensions = s.dimensions;
          shingle_size = s.shingle_size;
          capacity = s.capacity;
          internal_shingling = s.internal_shingling;
          internal_rotation = s.internal_rotation;
          store_labels = s.store_labels;
          store_length = s.store_length;
          start_free_region = s.start_free_region;
          next_sequence_index = s.next_sequence_index;
          index_manager = t.manager;
          label_manager = s.label_manager;
          attribute_manager = s.attribute_manager;
          classes = s.classes;
        };
        memory = record {
          store = m.store;
          last_known_shingle = m.last_known_shingle;
          reference_count = t.counts;
          location = location;
          index_starts = t.starts;
          index_ends = t.ends;
          labels = m.labels;
          label_attributes = m.label_attributes;
          label_count = m.label_count;
          label_starts = m.label_starts;
          label_ends = m.label_ends;
          attributes = m.attributes;
          attribute_count = m.attribute_count;
          attribute_starts = m.attribute_starts;
          attribute_ends = m.attribute_ends;
        };
      }

  -- another label half
  abbrev pub with_labels : Labels → PointStore E → PointStore E
  with_labels l p =
      let s = p.header in
      let m = p.memory in
      record {
        header = record {
          dimensions = s.dimensions;
          shingle_size = s.shingle_size;
          capacity = s.capacity;
          internal_shingling = s.internal_shingling;
          internal_rotation = s.internal_rotation;
          store_labels = s.store_labels;
          store_length = s.store_length;
          start_free_region = s.start_free_region;
          next_sequence_index = s.next_sequence_index;
          index_manager = s.index_manager;
          label_manager = l.label_table.manager;
          attribute_manager = l.attribute_table.manager;
          classes = s.classes;
        };
        memory = record {
          store = m.store;
          last_known_shingle = m.last_known_shingle;
          reference_count = m.reference_count;
          location = m.location;
          index_starts = m.index_starts;
          index_ends = m.index_ends;
          labels = l.labels;
          label_attributes = l.label_attributes;
          label_count = l.label_table.counts;
          label_starts = l.label_table.starts;
          label_ends = l.label_table.ends;
          attributes = l.attributes;
          attribute_count = l.attribute_table.counts;
          attribute_starts = l.attribute_table.starts;
          attribute_ends = l.attribute_table.ends;
        };
      }

  -- another window and sequence
  abbrev pub with_window : List E → ℕ → PointStore E → PointStore E
  with_window window sequence p =
      let s = p.header in
      let m = p.memory in
      record {
        header = record {
          dimensions = s.dimensions;
          shingle_size = s.shingle_size;
          capacity = s.capacity;
          internal_shingling = s.internal_shingling;
          internal_rotation = s.internal_rotation;
          store_labels = s.store_labels;
          store_length = s.store_length;
          start_free_region = s.start_free_region;
          next_sequence_index = sequence;
          index_manager = s.index_manager;
          label_manager = s.label_manager;
          attribute_manager = s.attribute_manager;
          classes = s.classes;
        };
        memory = record {
          store = m.store;
          last_known_shingle = window;
          reference_count = m.reference_count;
          location = m.location;
          index_starts = m.index_starts;
          index_ends = m.index_ends;
          labels = m.labels;
          label_attributes = m.label_attributes;
          label_count = m.label_count;
          label_starts = m.label_starts;
          label_ends = m.label_ends;
          attributes = m.attributes;
          attribute_count = m.attribute_count;
          attribute_starts = m.attribute_starts;
          attribute_ends = m.attribute_ends;
        };
      }
