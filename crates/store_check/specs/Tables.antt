-- The lent tables as the contracts see them. Of the rows' elements only the lengths are known: they stand as lists of units.
use Rattle.std.specs.Prelude.{ℕ, List, replicate}
use denote.Triple.Both.{Both}
use Rattle.labels.specs.declared.to_raise.LabelRaising.{LabelRaising}
use Rattle.labels.specs.declared.to_lower.LabelLowering.{LabelLowering}
use Rattle.store_definitions.specs.declared.raising.PointRaising.{PointRaising}
use Rattle.store_definitions.specs.declared.points.PointTables.{PointTables}
use Rattle.store_definitions.specs.declared.tables.Tables.{Tables}
use Rattle.labels.specs.Lent.{LabelLists, lists_raising, lists_lowering}
use Rattle.store_definitions.specs.Lent.{PointLists, memory, points_lent, points_raising}
use Rattle.store_definitions.specs.Memory.{Memory}

abbrev pub Ref : Type 0
Ref = List ℕ

abbrev pub Slice : Type 0
Slice = Both Ref Ref

abbrev pub tables : (floats window : ℕ) → Ref → Ref → Ref → Ref → Ref → Ref → Ref → Ref → Ref → Ref → Ref → Ref → Ref → Memory (Unit {0})
tables floats window counts location starts ends labels slots label_counts label_starts label_ends classes slot_counts slot_starts slot_ends =
    record {
      store = replicate floats tt;
      last_known_shingle = replicate window tt;
      reference_count = counts;
      location = location;
      index_starts = starts;
      index_ends = ends;
      labels = labels;
      label_attributes = slots;
      label_count = label_counts;
      label_starts = label_starts;
      label_ends = label_ends;
      attributes = classes;
      attribute_count = slot_counts;
      attribute_starts = slot_starts;
      attribute_ends = slot_ends;
    }

-- as a call that reads gets them
abbrev pub tables_lent : (floats window : ℕ) → Tables → Memory (Unit {0})
tables_lent floats window t =
    tables floats window t.reference_count.now t.location.now t.index_starts.now t.index_ends.now t.label_tables.labels.now
    t.label_tables.label_attributes.now t.label_tables.label_count.now t.label_tables.label_starts.now t.label_tables.label_ends.now
    t.label_tables.attributes.now t.label_tables.attribute_count.now t.label_tables.attribute_starts.now t.label_tables.attribute_ends.now

-- by the lists of the points and of the labels
abbrev pub tables_of : (floats window : ℕ) → PointLists → LabelLists → Memory (Unit {0})
tables_of floats window p l = memory (replicate floats tt) (replicate window tt) p l

-- as a call that raises or lowers counts gets them
abbrev pub tables_raising : (floats window : ℕ) → PointRaising → LabelRaising → Memory (Unit {0})
tables_raising floats window p l = tables_of floats window (points_raising p) (lists_raising l)

abbrev pub tables_lowering : (floats window : ℕ) → PointTables → LabelLowering → Memory (Unit {0})
tables_lowering floats window p l = tables_of floats window (points_lent p) (lists_lowering l)

-- as a call began
abbrev pub tables_at_entry : (floats window : ℕ) → Slice → Slice → Slice → Slice → Slice → Slice → Slice → Slice → Slice → Slice → Slice → Slice → Slice → Memory (Unit {0})
tables_at_entry floats window a b c d e f g h i j k l m =
    tables floats window a.entry b.entry c.entry d.entry e.entry f.entry g.entry h.entry i.entry j.entry k.entry l.entry m.entry
