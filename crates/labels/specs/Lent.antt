-- The nine lists of the label half in each form of the lent slices; and that a form holds the same slices after a call: the caller
-- then knows what became of each slice that it lent.
use Rattle.std.specs.Prelude.{ℕ, List, ◌≡◌}
use Rattle.labels.specs.declared.LabelManagers.{LabelManagers}
use Rattle.labels.specs.declared.tables.LabelTables.{LabelTables}
use Rattle.labels.specs.declared.to_take.LabelTaking.{LabelTaking}
use Rattle.labels.specs.declared.to_raise.LabelRaising.{LabelRaising}
use Rattle.labels.specs.declared.to_lower.LabelLowering.{LabelLowering}
use Rattle.labels.specs.declared.to_write.LabelWriting.{LabelWriting}
use Rattle.labels.specs.Labels.{Labels}
use Rattle.labels.specs.Forms.{held}

pub record LabelLists : Type 0 where
  pub labels : List ℕ
  pub label_attributes : List ℕ
  pub label_count : List ℕ
  pub label_starts : List ℕ
  pub label_ends : List ℕ
  pub attributes : List ℕ
  pub attribute_count : List ℕ
  pub attribute_starts : List ℕ
  pub attribute_ends : List ℕ

abbrev pub label_lists : List ℕ → List ℕ → List ℕ → List ℕ → List ℕ → List ℕ → List ℕ → List ℕ → List ℕ → LabelLists
label_lists labels slots label_counts label_starts label_ends classes slot_counts slot_starts slot_ends =
    record {
      labels = labels;
      label_attributes = slots;
      label_count = label_counts;
      label_starts = label_starts;
      label_ends = label_ends;
      attributes = classes;
      attribute_count = slot_counts;
      attribute_starts = slot_starts;
      attribute_ends = slot_ends;
    }

-- with the managers
abbrev pub labels_of : LabelManagers → LabelLists → Labels
labels_of m x =
    held m x.labels x.label_attributes x.label_count x.label_starts x.label_ends x.attributes x.attribute_count x.attribute_starts
    x.attribute_ends

-- as the check sees it
abbrev pub lists_lent : LabelTables → LabelLists
lists_lent t =
    record {
      labels = t.labels.now;
      label_attributes = t.label_attributes.now;
      label_count = t.label_count.now;
      label_starts = t.label_starts.now;
      label_ends = t.label_ends.now;
      attributes = t.attributes.now;
      attribute_count = t.attribute_count.now;
      attribute_starts = t.attribute_starts.now;
      attribute_ends = t.attribute_ends.now;
    }

abbrev pub labels_lent : LabelManagers → LabelTables → Labels
labels_lent m t = labels_of m (lists_lent t)

-- where a label is taken
abbrev pub lists_taking : LabelTaking → LabelLists
lists_taking t =
    record {
      labels = t.labels.now;
      label_attributes = t.label_attributes.now;
      label_count = t.label_count.now;
      label_starts = t.label_starts.now;
      label_ends = t.label_ends.now;
      attributes = t.attributes.now;
      attribute_count = t.attribute_count.now;
      attribute_starts = t.attribute_starts.now;
      attribute_ends = t.attribute_ends.now;
    }

abbrev pub labels_taking : LabelManagers → LabelTaking → Labels
labels_taking m t = labels_of m (lists_taking t)

-- where a label is counted once more
abbrev pub lists_raising : LabelRaising → LabelLists
lists_raising t =
    record {
      labels = t.labels.now;
      label_attributes = t.label_attributes.now;
      label_count = t.label_count.now;
      label_starts = t.label_starts.now;
      label_ends = t.label_ends.now;
      attributes = t.attributes.now;
      attribute_count = t.attribute_count.now;
      attribute_starts = t.attribute_starts.now;
      attribute_ends = t.attribute_ends.now;
    }

abbrev pub labels_raising : LabelManagers → LabelRaising → Labels
labels_raising m t = labels_of m (lists_raising t)

-- and once less
abbrev pub lists_lowering : LabelLowering → LabelLists
lists_lowering t =
    record {
      labels = t.labels.now;
      label_attributes = t.label_attributes.now;
      label_count = t.label_count.now;
      label_starts = t.label_starts.now;
      label_ends = t.label_ends.now;
      attributes = t.attributes.now;
      attribute_count = t.attribute_count.now;
      attribute_starts = t.attribute_starts.now;
      attribute_ends = t.attribute_ends.now;
    }

abbrev pub labels_lowering : LabelManagers → LabelLowering → Labels
labels_lowering m t = labels_of m (lists_lowering t)

-- where all may be written
abbrev pub lists_writing : LabelWriting → LabelLists
lists_writing t =
    record {
      labels = t.labels.now;
      label_attributes = t.label_attributes.now;
      label_count = t.label_count.now;
      label_starts = t.label_starts.now;
      label_ends = t.label_ends.now;
      attributes = t.attributes.now;
      attribute_count = t.attribute_count.now;
      attribute_starts = t.attribute_starts.now;
      attribute_ends = t.attribute_ends.now;
    }

abbrev pub labels_writing : LabelManagers → LabelWriting → Labels
labels_writing m t = labels_of m (lists_writing t)

-- of a slice lent for reading what it holds, of one lent for writing which it is
pub record SameTaking (a b : LabelTaking) : Type 0 where
  pub labels : b.labels.ghost_name ≡ a.labels.ghost_name
  pub label_attributes : b.label_attributes.ghost_name ≡ a.label_attributes.ghost_name
  pub label_count : b.label_count.ghost_name ≡ a.label_count.ghost_name
  pub label_starts : b.label_starts.ghost_name ≡ a.label_starts.ghost_name
  pub label_ends : b.label_ends.now ≡ a.label_ends.now
  pub attributes : b.attributes.ghost_name ≡ a.attributes.ghost_name
  pub attribute_count : b.attribute_count.ghost_name ≡ a.attribute_count.ghost_name
  pub attribute_starts : b.attribute_starts.ghost_name ≡ a.attribute_starts.ghost_name
  pub attribute_ends : b.attribute_ends.now ≡ a.attribute_ends.now

pub record SameRaising (a b : LabelRaising) : Type 0 where
  pub labels : b.labels.now ≡ a.labels.now
  pub label_attributes : b.label_attributes.now ≡ a.label_attributes.now
  pub label_count : b.label_count.ghost_name ≡ a.label_count.ghost_name
  pub label_starts : b.label_starts.now ≡ a.label_starts.now
  pub label_ends : b.label_ends.now ≡ a.label_ends.now
  pub attributes : b.attributes.now ≡ a.attributes.now
  pub attribute_count : b.attribute_count.ghost_name ≡ a.attribute_count.ghost_name
  pub attribute_starts : b.attribute_starts.now ≡ a.attribute_starts.now
  pub attribute_ends : b.attribute_ends.now ≡ a.attribute_ends.now

pub record SameLowering (a b : LabelLowering) : Type 0 where
  pub labels : b.labels.now ≡ a.labels.now
  pub label_attributes : b.label_attributes.now ≡ a.label_attributes.now
  pub label_count : b.label_count.ghost_name ≡ a.label_count.ghost_name
  pub label_starts : b.label_starts.ghost_name ≡ a.label_starts.ghost_name
  pub label_ends : b.label_ends.ghost_name ≡ a.label_ends.ghost_name
  pub attributes : b.attributes.now ≡ a.attributes.now
  pub attribute_count : b.attribute_count.ghost_name ≡ a.attribute_count.ghost_name
  pub attribute_starts : b.attribute_starts.ghost_name ≡ a.attribute_starts.ghost_name
  pub attribute_ends : b.attribute_ends.ghost_name ≡ a.attribute_ends.ghost_name

pub record SameWriting (a b : LabelWriting) : Type 0 where
  pub labels : b.labels.ghost_name ≡ a.labels.ghost_name
  pub label_attributes : b.label_attributes.ghost_name ≡ a.label_attributes.ghost_name
  pub label_count : b.label_count.ghost_name ≡ a.label_count.ghost_name
  pub label_starts : b.label_starts.ghost_name ≡ a.label_starts.ghost_name
  pub label_ends : b.label_ends.ghost_name ≡ a.label_ends.ghost_name
  pub attributes : b.attributes.ghost_name ≡ a.attributes.ghost_name
  pub attribute_count : b.attribute_count.ghost_name ≡ a.attribute_count.ghost_name
  pub attribute_starts : b.attribute_starts.ghost_name ≡ a.attribute_starts.ghost_name
  pub attribute_ends : b.attribute_ends.ghost_name ≡ a.attribute_ends.ghost_name
