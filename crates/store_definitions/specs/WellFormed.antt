-- Document 01, 'Well-formed', clause by clause in its order, a name for each. Three hold by type alone: the sequence (`u32`) and the
-- counts of points (`u16`) fit, and the point manager's capacity is the table length (one number).
use Rattle.std.specs.Prelude.{ℕ, ◌+◌, ◌*◌, ◌%◌, Bool, not, ◌&&◌, ◌||◌, List, get_or, leb, eqb}
use Rattle.std.specs.Bool.{beq}
use Rattle.terms.specs.Below.{every_below}
use Rattle.class_table.specs.Table.{table_allowed}
use Rattle.labels.specs.Counted.{managed, free_uncounted, counts_fit}
use Rattle.labels.specs.Labels.{labels_ok}
use Rattle.store_definitions.specs.declared.Store.{Store}
use Rattle.store_definitions.specs.Memory.{PointStore}
use Rattle.store_definitions.specs.Parts.{base_of, table_length, point_table, label_half}
use Rattle.store_definitions.specs.Bounds.{bounds_hold, rotation_allowed, lent_enough}

-- 'table length is 1 to capacity'
unfoldable pub table_length_well : Store → Bool
table_length_well s = leb 1 (table_length s) && leb (table_length s) s.capacity

-- 'store length at most capacity × dimensions'
unfoldable pub store_length_well : Store → Bool
store_length_well s = leb s.store_length (s.capacity * s.dimensions)

-- 'the free start is a multiple of base, 0 or at least dimensions, and at most the store length'
unfoldable pub free_start_well : Store → Bool
free_start_well s =
    let free = s.start_free_region in
    eqb (free % base_of s) 0 && ((eqb free 0 || leb s.dimensions free) && leb free s.store_length)

-- an index's count is 0 '.. exactly when its place is 65,535 (empty)'
unfoldable pub empty_uncounted : ℕ → List ℕ → List ℕ → Bool
empty_uncounted n counts location =
    every_below n (λ i. beq (eqb (get_or counts i 0) 0) (eqb (get_or location i 65535) 65535))

-- 'live places are distinct': no live place below index i is that of i
unfoldable pub places_distinct : ℕ → List ℕ → Bool
places_distinct n location =
    every_below n
    (λ i. every_below i (λ j. not (eqb (get_or location i 65535) (get_or location j 65535)) || eqb (get_or location i 65535) 65535))

-- 'and place × base + dimensions is at most the free start'
unfoldable pub places_end : ℕ → Store → List ℕ → Bool
places_end n s location =
    every_below n
    (λ i.
    eqb (get_or location i 65535) 65535
    || leb (get_or location i 65535 * base_of s + s.dimensions) s.start_free_region)

-- 'The sequence is at most 4,294,967,295.'
unfoldable pub sequence_well : Store → Bool
sequence_well s = leb s.next_sequence_index 4294967295

module _ {E : Type 0} where
  -- `free_uncounted`: 'an index is in exactly one free interval exactly when its count is 0'; that no two intervals share one is the
  -- manager's own clause. `managed`: 'Each manager is well-formed, the point manager's capacity being the table length'.
  -- `counts_fit`: 'Counts of points .. are at most 65,535'. `labels_ok`: the other two managers, the labels and the slots.
  -- `table_allowed`, of document 02, Point 6: 'a store whose table breaks these rules is ill-formed', with labels off too.
  unfoldable pub well_formed : PointStore E → Bool
  well_formed p =
      let s = p.header in
      let n = table_length s in
      let counts = p.memory.reference_count in
      let location = p.memory.location in
      bounds_hold s.dimensions s.shingle_size s.capacity
      && (rotation_allowed s.internal_rotation
      && (lent_enough s.dimensions s.capacity s.store_labels p.memory
      && (table_length_well s
      && (store_length_well s
      && (free_start_well s
      && (free_uncounted n (point_table p)
      && (empty_uncounted n counts location
      && (places_distinct n location
      && (places_end n s location
      && (managed n (point_table p)
      && (sequence_well s
      && (table_allowed s.classes
      && (counts_fit n counts && labels_ok s.store_labels s.classes s.capacity (label_half p))))))))))))))
