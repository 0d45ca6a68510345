-- The lent tables as a call leaves them, and what the decisions of an inc and a dec look at.
use Rattle.std.specs.Prelude.{ℕ, ◌<◌, Bool, true, cond, List, [], ◌≡◌, length, get_or, set, eqb}
use Rattle.labels.specs.Forms.{LabelRaisable}
use Rattle.store_definitions.specs.Memory.{Memory, PointStore, point_store}
use Rattle.store_check.specs.Tables.{Slice, tables}

-- as a call ended
abbrev pub tables_at_exit : (floats window : ℕ) → Slice → Slice → Slice → Slice → Slice → Slice → Slice → Slice → Slice → Slice → Slice → Slice → Slice → Memory (Unit {0})
tables_at_exit floats window a b c d e f g h i j k l m =
    tables floats window a.exit b.exit c.exit d.exit e.exit f.exit g.exit h.exit i.exit j.exit k.exit l.exit m.exit

-- the counts of the points and of the labels, and nothing else: no decision of an inc or a dec looks further
abbrev pub counts_alone : List ℕ → List ℕ → Memory (Unit {0})
counts_alone points labels =
    record {
      store = [];
      last_known_shingle = [];
      reference_count = points;
      location = [];
      index_starts = [];
      index_ends = [];
      labels = [];
      label_attributes = [];
      label_count = labels;
      label_starts = [];
      label_ends = [];
      attributes = [];
      attribute_count = [];
      attribute_starts = [];
      attribute_ends = [];
    }

-- the places, with that of index i emptied at its last count
unfoldable pub emptied : List ℕ → List ℕ → ℕ → List ℕ
emptied counts location i = cond (eqb (get_or counts i 0) 1) (set location i 65535) location

-- a point, and with labels on a label and its slot, may be counted once more
pub record Raisable (store_labels : Bool) (counts slots label_counts slot_counts : List ℕ) (i l : ℕ) : Type 0 where
  pub point_lent : i < length counts
  pub point_room : get_or counts i 0 < 65535
  pub labels : store_labels ≡ true → LabelRaisable slots label_counts slot_counts l

-- with other counts
abbrev pub with_counts : {E : Type 0} → (points labels slots : List ℕ) → PointStore E → PointStore E
with_counts points labels slots p =
    let m = p.memory in
    point_store p.header
    (record {
      store = m.store;
      last_known_shingle = m.last_known_shingle;
      reference_count = points;
      location = m.location;
      index_starts = m.index_starts;
      index_ends = m.index_ends;
      labels = m.labels;
      label_attributes = m.label_attributes;
      label_count = labels;
      label_starts = m.label_starts;
      label_ends = m.label_ends;
      attributes = m.attributes;
      attribute_count = slots;
      attribute_starts = m.attribute_starts;
      attribute_ends = m.attribute_ends;
    })
