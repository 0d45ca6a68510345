-- Document 01, 'Add'.
use Rattle.std.specs.Prelude.{ℕ, ◌+◌, ◌-◌, Bool, cond, not, ◌&&◌, List, ◌++◌, length, take, drop, replicate, set, ltb, eqb}
use Rattle.interval_store_manager.specs.Calls.{Decided, go, refuse, changed}
use Rattle.placement.specs.declared.Laid.{Laid}
use Rattle.placement.specs.Growth.{grown}
use Rattle.placement.specs.Laying.{written_count, laid_as, laid_elements, laid_free, place_of}
use Rattle.placement.specs.Overlap.{overlaps}
use Rattle.placement.specs.Row.{row_to_lay, moved_window}
use Rattle.labels.specs.Counted.{counted, free_indices, next_index, index_taken}
use Rattle.labels.specs.Decisions.{none, code_decided, room_decided}
use Rattle.labels.specs.Labels.{label_taken}
use Rattle.store_definitions.specs.declared.Store.{Store}
use Rattle.store_definitions.specs.Memory.{PointStore}
use Rattle.store_definitions.specs.Answers.{kept, waiting, refused, Outcome, outcome}
use Rattle.store_definitions.specs.Parts.{base_of, extra_of, table_length, point_table, label_half, Rows, rows_of, with_rows, with_points, with_labels, with_window}
use Rattle.store_definitions.specs.Decisions.{and_then, refuse_if, form_decided}
use Rattle.store_definitions.specs.Rows.{room_made}

-- 'Length is base with internal shingling, else dimensions.'
unfoldable pub point_length : Store → ℕ
point_length s = cond s.internal_shingling (base_of s) s.dimensions

-- 'while the sequence, so raised, is below shingle size the result is Waiting'
unfoldable pub waits : Store → Bool
waits s = s.internal_shingling && ltb (s.next_sequence_index + 1) s.shingle_size

-- 'no index free and the table cannot grow'
unfoldable pub table_full : Store → Bool
table_full s = eqb s.index_manager.last_in_use 0 && eqb (grown (table_length s) 1 s.capacity) (table_length s)

-- the entries from `from` up to `to` made x
unfoldable pub entries_filled : ℕ → ℕ → ℕ → List ℕ → List ℕ
entries_filled from to x xs = take from xs ++ replicate (to - from) x ++ drop to xs

-- what is decided of an add before room is made for its row
pub data AddDecided : Type 0 where
  keep : AddDecided
  wait : AddDecided
  refuse_add : ℕ → AddDecided

abbrev pub then_add : Decided → AddDecided → AddDecided
then_add go a = a
then_add (refuse n) a = refuse_add n

module _ {E : Type 0} where
  -- 'add 3, 12, 4 and, if kept, 8, 9': 10 is decided once room was made
  unfoldable pub add_decided : PointStore E → List E → ℕ → AddDecided
  add_decided p point code =
      let s = p.header in
      then_add
      (and_then (form_decided p)
      (and_then (refuse_if (not (eqb (length point) (point_length s))) 3)
      (and_then (refuse_if (eqb s.next_sequence_index 4294967295) 12) (code_decided s.store_labels code))))
      (cond (waits s) wait
      (then_add (and_then (room_decided s.store_labels s.label_manager) (refuse_if (table_full s) 9)) keep))

  -- 'With internal shingling the window drops its first base entries and gains the point'; 'Accepted adds raise the sequence by one.'
  unfoldable pub window_after : PointStore E → List E → List E
  window_after p point =
      let s = p.header in
      let window = p.memory.last_known_shingle in
      cond s.internal_shingling
      (moved_window (base_of s) (take s.dimensions window) point ++ drop s.dimensions window)
      window

  unfoldable pub sequenced : PointStore E → List E → PointStore E
  sequenced p point = with_window (window_after p point) (p.header.next_sequence_index + 1) p

  -- 'The row to be laid is the window or else the caller's own point.'
  unfoldable pub row_of : PointStore E → List E → List E
  row_of p point =
      row_to_lay p.header.internal_shingling (take p.header.dimensions (window_after p point)) point

  -- a label, with labels on: 'the label index (none with labels off)'
  unfoldable pub label_given : PointStore E → ℕ
  label_given p = cond p.header.store_labels (next_index (label_half p).label_table) none

  unfoldable pub labelled : PointStore E → ℕ → PointStore E
  labelled p code =
      cond p.header.store_labels
      (with_labels (label_taken p.header.classes p.header.capacity (label_half p) code).after p)
      p

  -- 'If the index manager is empty, table length n becomes n + n / 5 (whole division), at most capacity', and 'the table gains at
  -- least one index'. Growth fills new entries with count 0 and an empty place
  unfoldable pub table_grown : PointStore E → PointStore E
  table_grown p =
      let s = p.header in
      let m = p.memory in
      let n = table_length s in
      let longer = grown n 1 s.capacity in
      let o = changed s.index_manager m.index_starts m.index_ends longer in
      cond (eqb s.index_manager.last_in_use 0)
      (with_points
      (counted o.manager (entries_filled n longer 0 m.reference_count) o.starts o.ends)
      (entries_filled n longer 65535 m.location)
      p)
      p

  -- the next index with count 1, at a place
  unfoldable pub placed : PointStore E → ℕ → PointStore E
  placed p place = with_points (index_taken (point_table p)) (set p.memory.location (next_index (point_table p)) place) p

module _ {E : Type 0} (eq : E → E → Bool) where
  -- overlap with the rows as they are
  unfoldable pub joins : Store → Rows E → List E → Bool
  joins s r row = overlaps eq s.shingle_size (extra_of s) r.free r.elements row

  -- 'the floats to be written (base on overlap, else dimensions) would pass the store length'
  unfoldable pub overflows : Store → Rows E → List E → Bool
  overflows s r row = ltb r.store_length (r.free + written_count s.dimensions (base_of s) (joins s r row))

  -- the row laid: 'The free start follows the last write.'
  unfoldable pub laid_rows : Store → Rows E → List E → Rows E
  laid_rows s r row =
      let j = joins s r row in
      record {
        elements = laid_elements s.dimensions (base_of s) j r.free r.elements row;
        location = r.location;
        free = laid_free s.dimensions (base_of s) j r.free;
        store_length = r.store_length;
      }

  unfoldable pub laid_how : Store → Rows E → List E → Laid
  laid_how s r row = laid_as s.dimensions (base_of s) (joins s r row) r.free

  -- a kept add whose row fits rows r, in document 01's order but for the index, which gets its place once the row is laid: slot and
  -- label index; sequence and window; the row; the table, grown where no index is free; the index
  unfoldable pub kept_after : Rows E → List E → PointStore E → List E → ℕ → PointStore E
  kept_after r row p point code =
      let s = p.header in
      let taken = labelled p code in
      let moved = sequenced taken point in
      let laid = with_rows (laid_rows s r row) moved in
      let ready = table_grown laid in
      placed ready (place_of (laid_how s r row))

module _ {E : Type 0} where
  -- the index given: the next one, after growth of the table
  unfoldable pub index_given : PointStore E → ℕ
  index_given p = next_index (point_table (table_grown p))

  -- document 02: 'how many remain free', after growth and with the new point counted as live
  unfoldable pub free_left : PointStore E → ℕ
  free_left p = free_indices (index_taken (point_table (table_grown p)))

module _ {E : Type 0} (eq : E → E → Bool) (zero_element : E) where
  -- room is made for the row. '10 leaves floats, places, free start and store length as compaction and growth made them'
  unfoldable pub keeps : PointStore E → List E → ℕ → Outcome E
  keeps p point code =
      let s = p.header in
      let row = row_of p point in
      let r = room_made zero_element s (rows_of p) in
      cond (overflows eq s r row) (outcome (refused 10) (with_rows r p))
      (outcome (kept (index_given p) (label_given p) (laid_how eq s r row) (free_left p)) (kept_after eq r row p point code))

  abbrev pub add_carried_out : AddDecided → PointStore E → List E → ℕ → Outcome E
  add_carried_out keep p point code = keeps p point code
  add_carried_out wait p point code = outcome waiting (sequenced p point)
  add_carried_out (refuse_add n) p point code = outcome (refused n) p

  unfoldable pub add_spec : PointStore E → List E → ℕ → Outcome E
  add_spec p point code = add_carried_out (add_decided p point code) p point code
