-- Document 01, 'Lists': 'A store is record and lent memory'. The memory is one list for each lent slice, under the Rust's
-- names; the element of the rows is a parameter.
use Rattle.std.specs.Prelude.{ℕ, List, []}
use Rattle.store_definitions.specs.declared.Store.{Store}

pub record Memory (E : Type 0) : Type 0 where
  pub store : List E
  pub last_known_shingle : List E
  pub reference_count : List ℕ
  pub location : List ℕ
  pub index_starts : List ℕ
  pub index_ends : List ℕ
  pub labels : List ℕ
  pub label_attributes : List ℕ
  pub label_count : List ℕ
  pub label_starts : List ℕ
  pub label_ends : List ℕ
  pub attributes : List ℕ
  pub attribute_count : List ℕ
  pub attribute_starts : List ℕ
  pub attribute_ends : List ℕ

-- record and lent memory
pub record PointStore (E : Type 0) : Type 0 where
  pub header : Store
  pub memory : Memory E

abbrev pub point_store : {E : Type 0} → Store → Memory E → PointStore E
point_store s m = record { header = s; memory = m }

-- the memory of which a reading of rows sees these: elements, counts and places
abbrev pub rows_alone : {E : Type 0} → (elements : List E) → (counts location : List ℕ) → Memory E
rows_alone elements counts location =
    record {
      store = elements;
      last_known_shingle = [];
      reference_count = counts;
      location = location;
      index_starts = [];
      index_ends = [];
      labels = [];
      label_attributes = [];
      label_count = [];
      label_starts = [];
      label_ends = [];
      attributes = [];
      attribute_count = [];
      attribute_starts = [];
      attribute_ends = [];
    }
