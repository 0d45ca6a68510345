-- The fifteen lent slices of a store as a contract sees them: where a call is asked for, when it began, and when it ended. The
-- elements are 32-bit float words.
use Rattle.std.specs.Prelude.{ℕ, List, ◌≡◌}
use Rattle.std.proofs.Common.{◌∙◌, ap}
use denote.Triple.Both.{Both}
use Rattle.interval_store_manager.specs.declared.IntervalStoreManager.{IntervalStoreManager}
use Rattle.labels.specs.Counted.{Counted, counted}
use Rattle.labels.specs.declared.tables.LabelTables.{LabelTables}
use Rattle.labels.specs.declared.to_take.LabelTaking.{LabelTaking}
use Rattle.labels.specs.declared.to_raise.LabelRaising.{LabelRaising}
use Rattle.labels.specs.declared.to_lower.LabelLowering.{LabelLowering}
use Rattle.labels.specs.declared.to_write.LabelWriting.{LabelWriting}
use Rattle.labels.specs.Lent.{LabelLists, lists_lent, lists_taking, lists_raising, lists_lowering, lists_writing}
use Rattle.store_definitions.specs.declared.tables.Tables.{Tables}
use Rattle.store_definitions.specs.declared.raising.PointRaising.{PointRaising}
use Rattle.store_definitions.specs.declared.points.PointTables.{PointTables}
use Rattle.store_definitions.specs.Memory.{Memory}

abbrev pub Ref : Type 0
Ref = List ℕ

abbrev pub Slice : Type 0
Slice = Both Ref Ref

abbrev pub held : {E : Type 0} → List E → List E → Ref → Ref → Ref → Ref → Ref → Ref → Ref → Ref → Ref → Ref → Ref → Ref → Ref → Memory E
held store window counts location starts ends labels slots label_counts label_starts label_ends classes slot_counts slot_starts slot_ends =
    record {
      store = store;
      last_known_shingle = window;
      reference_count = counts;
      location = location;
      index_starts = starts;
      index_ends = ends;
      labels = labels;
      label_attributes = slots;
      label_count = label_counts;
      label_starts = label_starts;
      label_ends = label_ends;
      attributes = classes;
      attribute_count = slot_counts;
      attribute_starts = slot_starts;
      attribute_ends = slot_ends;
    }

abbrev pub entered : Slice → Slice → Slice → Slice → Slice → Slice → Slice → Slice → Slice → Slice → Slice → Slice → Slice → Slice → Slice → Memory ℕ
entered a b c d e f g h i j k l m n o =
    held a.entry b.entry c.entry d.entry e.entry f.entry g.entry h.entry i.entry j.entry k.entry l.entry m.entry n.entry o.entry

abbrev pub left : Slice → Slice → Slice → Slice → Slice → Slice → Slice → Slice → Slice → Slice → Slice → Slice → Slice → Slice → Slice → Memory ℕ
left a b c d e f g h i j k l m n o =
    held a.exit b.exit c.exit d.exit e.exit f.exit g.exit h.exit i.exit j.exit k.exit l.exit m.exit n.exit o.exit

-- the four lists of the points
pub record PointLists : Type 0 where
  pub reference_count : List ℕ
  pub location : List ℕ
  pub index_starts : List ℕ
  pub index_ends : List ℕ

-- with the nine of the labels
abbrev pub memory : {E : Type 0} → List E → List E → PointLists → LabelLists → Memory E
memory store window p l =
    held store window p.reference_count p.location p.index_starts p.index_ends l.labels l.label_attributes l.label_count l.label_starts
    l.label_ends l.attributes l.attribute_count l.attribute_starts l.attribute_ends

-- the counts of the points, with the manager of their indices
abbrev pub point_counts : IntervalStoreManager → PointLists → Counted
point_counts m p = counted m p.reference_count p.index_starts p.index_ends

-- as a call that reads gets them
abbrev pub points_read : Tables → PointLists
points_read t =
    record {
      reference_count = t.reference_count.now;
      location = t.location.now;
      index_starts = t.index_starts.now;
      index_ends = t.index_ends.now;
    }

-- as a call that raises a count
abbrev pub points_raising : PointRaising → PointLists
points_raising t =
    record {
      reference_count = t.reference_count.now;
      location = t.location.now;
      index_starts = t.index_starts.now;
      index_ends = t.index_ends.now;
    }

-- and as any other that writes
abbrev pub points_lent : PointTables → PointLists
points_lent t =
    record {
      reference_count = t.reference_count.now;
      location = t.location.now;
      index_starts = t.index_starts.now;
      index_ends = t.index_ends.now;
    }

-- the memory as a call that reads gets it
abbrev pub lent : Ref → Ref → Tables → Memory ℕ
lent store window t = memory store window (points_read t) (lists_lent t.label_tables)

-- where it raises counts
abbrev pub lent_raising : {E : Type 0} → List E → List E → PointRaising → LabelRaising → Memory E
lent_raising store window p l = memory store window (points_raising p) (lists_raising l)

-- where it lowers counts
abbrev pub lent_lowering : {E : Type 0} → List E → List E → PointTables → LabelLowering → Memory E
lent_lowering store window p l = memory store window (points_lent p) (lists_lowering l)

-- where it takes an index and a label
abbrev pub lent_taking : {E : Type 0} → List E → List E → PointTables → LabelTaking → Memory E
lent_taking store window p l = memory store window (points_lent p) (lists_taking l)

-- where it may write all
abbrev pub lent_writing : {E : Type 0} → List E → List E → PointTables → LabelWriting → Memory E
lent_writing store window p l = memory store window (points_lent p) (lists_writing l)

-- of a slice lent for writing which it is, of one lent for reading what it holds
pub record SamePoints (p q : PointTables) : Type 0 where
  pub reference_count : q.reference_count.ghost_name ≡ p.reference_count.ghost_name
  pub location : q.location.ghost_name ≡ p.location.ghost_name
  pub index_starts : q.index_starts.ghost_name ≡ p.index_starts.ghost_name
  pub index_ends : q.index_ends.ghost_name ≡ p.index_ends.ghost_name

pub record SameRaised (p q : PointRaising) : Type 0 where
  pub reference_count : q.reference_count.ghost_name ≡ p.reference_count.ghost_name
  pub location : q.location.now ≡ p.location.now
  pub index_starts : q.index_starts.now ≡ p.index_starts.now
  pub index_ends : q.index_ends.now ≡ p.index_ends.now

-- the tables that a form hands to a reader are its own
pub read_as : (t : Tables) (p : PointLists) (l : LabelTables) (x : LabelLists) → ((store window : List ℕ) → lent store window t ≡ memory store window p (lists_lent l)) → lists_lent l ≡ x → (store window : List ℕ) → lent store window t ≡ memory store window p x
read_as t p l x f e store window = f store window ∙ ap (λ (y : LabelLists). memory store window p y) e
