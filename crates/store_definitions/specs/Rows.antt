-- Document 01, 'Compact', 'Copy', and the room that an add makes for its row.
use Rattle.std.specs.Prelude.{ℕ, ◌+◌, ◌*◌, ◌-◌, Bool, cond, not, List, ◌++◌, length, get_or, take, drop, replicate, ltb, eqb}
use Rattle.interval_store_manager.specs.Calls.{Decided}
use Rattle.placement.specs.Compaction.{compacted}
use Rattle.placement.specs.Copying.{copied}
use Rattle.placement.specs.Growth.{grown}
use Rattle.store_definitions.specs.declared.Store.{Store}
use Rattle.store_definitions.specs.Memory.{PointStore}
use Rattle.store_definitions.specs.Answers.{done, Outcome, outcome, Output}
use Rattle.store_definitions.specs.Parts.{base_of, table_length, Rows, rows_of, with_rows}
use Rattle.store_definitions.specs.Decisions.{and_then, refuse_if, form_decided, touch_decided, carried_out, writes, then_output}

module _ {E : Type 0} (zero_element : E) where
  -- compaction of the points of the table; entries past the table length keep what they held
  unfoldable pub compacted_rows : Store → Rows E → Rows E
  compacted_rows s r =
      let n = table_length s in
      let l = compacted zero_element s.dimensions (base_of s) s.internal_rotation r.elements (take n r.location) r.free in
      record { elements = l.elements; location = l.location ++ drop n r.location; free = l.free; store_length = r.store_length }

  -- 'the store length grows by a fifth likewise, up to capacity × dimensions', and gains 'at least one point's floats'; growth fills
  -- with 0.0
  unfoldable pub grown_rows : Store → Rows E → Rows E
  grown_rows s r =
      let longer = grown r.store_length s.dimensions (s.capacity * s.dimensions) in
      record {
        elements = take r.store_length r.elements ++ replicate (longer - r.store_length) zero_element ++ drop longer r.elements;
        location = r.location;
        free = r.free;
        store_length = longer;
      }

  -- 'If free start + dimensions exceeds store length'
  unfoldable pub short : Store → Rows E → Bool
  short s r = ltb r.store_length (r.free + s.dimensions)

  -- '.. compact; if it still does, the store length grows'
  unfoldable pub room_made : Store → Rows E → Rows E
  room_made s r =
      let c = compacted_rows s r in
      cond (short s r) (cond (short s c) (grown_rows s c) c) r

  unfoldable pub compact_spec : PointStore E → Outcome E
  compact_spec p = carried_out (form_decided p) p (outcome done (with_rows (compacted_rows p.header (rows_of p)) p))

module _ {E : Type 0} where
  -- what copy gives of an index
  unfoldable pub copy_of : PointStore E → ℕ → List E
  copy_of p i =
      let s = p.header in
      copied s.internal_rotation s.dimensions (base_of s) (get_or p.memory.location i 65535) p.memory.store

  -- 'copy and equality 5, 3': of an index and the length of a slice
  unfoldable pub copy_decided : PointStore E → ℕ → ℕ → Decided
  copy_decided p i n = and_then (touch_decided p i) (refuse_if (not (eqb n p.header.dimensions)) 3)

  -- copy of a store that is checked
  unfoldable pub copy_written : PointStore E → ℕ → List E → Output E
  copy_written p i out = writes (copy_decided p i (length out)) out (copy_of p i)

  unfoldable pub copy_spec : PointStore E → ℕ → List E → Output E
  copy_spec p i out = then_output (form_decided p) out (copy_written p i out)
