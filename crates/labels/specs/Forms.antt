-- The label half as the contracts see it: the managers and the nine lists as one record, and what take, inc and dec and the
-- functions under them ask of it.
use Rattle.std.specs.Prelude.{ℕ, ◌+◌, ◌≤◌, ◌<◌, List, true, false, ◌≡◌, length, get_or, set}
use Rattle.std.proofs.Common.{arith, refl}
use Rattle.terms.specs.declared.LabelIndex.{LabelIndex}
use Rattle.interval_store_manager.specs.declared.IntervalStoreManager.{IntervalStoreManager}
use Rattle.interval_store_manager.specs.Intervals.{is_free}
use Rattle.interval_store_manager.specs.WellFormed.{well_formed}
use Rattle.labels.specs.declared.LabelManagers.{LabelManagers}
use Rattle.labels.specs.declared.LabelsFree.{LabelsFree}
use Rattle.labels.specs.Counted.{Counted, counted, count_at, free_indices, raised}
use Rattle.labels.specs.CountedLaws.{WellCounted}
use Rattle.labels.specs.Labels.{Labels, slot_at, label_count_at, label_raised, SlotTaken, LabelTaken, labels_well}
use Rattle.labels.specs.Sound.{sound}
use Rattle.labels.specs.SlotLaws.{slot_count_most}

abbrev pub label_half : LabelManagers → List ℕ → List ℕ → List ℕ → List ℕ → List ℕ → List ℕ → List ℕ → List ℕ → List ℕ → Labels
label_half m labels slots counts starts ends classes slot_counts slot_starts slot_ends =
    record {
      labels = labels;
      label_attributes = slots;
      label_table = counted m.label_manager counts starts ends;
      attributes = classes;
      attribute_table = counted m.attribute_manager slot_counts slot_starts slot_ends;
    }

abbrev pub held : LabelManagers → List ℕ → List ℕ → List ℕ → List ℕ → List ℕ → List ℕ → List ℕ → List ℕ → List ℕ → Labels
held m a b c d e f g h i = label_half m a b c d e f g h i

abbrev pub slot_outcome : ℕ → List ℕ → Counted → SlotTaken
slot_outcome slot attributes table = record { slot = slot; attributes = attributes; table = table }

abbrev pub label_outcome : LabelIndex → Labels → LabelTaken
label_outcome label after = record { label = label.0; after = after }

-- so many are free in the two tables
pub record FreeOf (free : LabelsFree) (l : Labels) : Type 0 where
  pub labels : free.labels ≡ free_indices l.label_table
  pub slots : free.slots ≡ free_indices l.attribute_table

-- a slot may be taken: one is free, and a count has room for one more; so many are free
pub record SlotReady (capacity : ℕ) (attributes : List ℕ) (t : Counted) (free : ℕ) : Type 0 where
  pub well : WellCounted capacity t
  pub lent : capacity ≤ length attributes
  pub some_free : 0 < t.manager.last_in_use
  pub most : (s : ℕ) → s < capacity → count_at t s ≤ 67107840
  pub figure : free ≡ free_indices t

-- an index is in use
pub record InUse (capacity : ℕ) (t : Counted) (i : ℕ) : Type 0 where
  pub well : WellCounted capacity t
  pub below : i < capacity
  pub live : 0 < count_at t i

-- an index may be released
pub record Releasable (m : IntervalStoreManager) (starts ends : List ℕ) (i : ℕ) : Type 0 where
  pub well : well_formed m starts ends ≡ true
  pub below : i < m.capacity
  pub not_free : is_free m.last_in_use starts ends i ≡ false

-- a label may be taken for the code; so many are free
pub record LabelReady (classes : List ℕ) (capacity : ℕ) (l : Labels) (code : ℕ) (free : LabelsFree) : Type 0 where
  pub well : labels_well classes capacity l ≡ true
  pub code_most : code ≤ 23
  pub some_free : 0 < l.label_table.manager.last_in_use
  pub figures : FreeOf free l

-- a label of a well-formed label half is live
pub record LiveLabel (classes : List ℕ) (capacity : ℕ) (l : Labels) (i : ℕ) : Type 0 where
  pub well : labels_well classes capacity l ≡ true
  pub below : i < capacity
  pub live : 0 < label_count_at l i

-- one entry counted once more
abbrev pub one_more : List ℕ → ℕ → List ℕ
one_more counts i = set counts i (get_or counts i 0 + 1)

-- a label and its slot may be counted once more
pub record LabelRaisable (slots label_counts slot_counts : List ℕ) (i : ℕ) : Type 0 where
  pub slot_read : i < length slots
  pub label_lent : i < length label_counts
  pub label_room : get_or label_counts i 0 < 65535
  pub slot_lent : get_or slots i 0 < length slot_counts
  pub slot_room : get_or slot_counts (get_or slots i 0) 0 < 4294967295

pub raisable : (classes : List ℕ) (c : ℕ) (l : Labels) (i : ℕ) → LiveLabel classes c l i → label_count_at l i < 65535 → LabelRaisable l.label_attributes l.label_table.counts l.attribute_table.counts i
raisable classes c l i r h =
    let w = sound classes c l r.well in
    let below = (w.stands i r.below r.live).slot_below in
    record {
      slot_read = omega (arith, w.slots_lent, r.below);
      label_lent = omega (arith, w.label_table_lem.lent, r.below);
      label_room = h;
      slot_lent = omega (arith, w.slot_table.lent, below);
      slot_room = omega (arith, slot_count_most classes c l w (slot_at l i) below);
    }

-- counted so, they are the label half after an inc
pub label_raised_is : (l : Labels) (i : ℕ) (counts slots : List ℕ) → counts ≡ one_more l.label_table.counts i → slots ≡ one_more l.attribute_table.counts (slot_at l i)
    → record {
      labels = l.labels;
      label_attributes = l.label_attributes;
      label_table = counted l.label_table.manager counts l.label_table.starts l.label_table.ends;
      attributes = l.attributes;
      attribute_table = counted l.attribute_table.manager slots l.attribute_table.starts l.attribute_table.ends;
    } ≡ label_raised l i
unfolding label_raised raised
label_raised_is l i counts slots a b = rw (a, b) refl
