-- What a label half that is ready gives the functions that take a label of it.
use Rattle.std.specs.Prelude.{ℕ, ◌≤◌, ◌<◌, List, true, ◌≡◌, length}
use Rattle.std.proofs.Common.{arith, ap}
use Rattle.interval_store_manager.specs.declared.IntervalStoreManager.{IntervalStoreManager}
use Rattle.interval_store_manager.specs.Answers.{outcome, given}
use Rattle.interval_store_manager.specs.Calls.{taken}
use Rattle.interval_store_manager.specs.WellFormed.{well_formed}
use Rattle.labels.specs.declared.LabelsFree.{LabelsFree}
use Rattle.labels.specs.Counted.{Counted, free_indices}
use Rattle.labels.specs.CountedLaws.{capacity_most, next_within, index_given_lem}
use Rattle.labels.specs.Labels.{Labels, SlotTaken, slot_taken}
use Rattle.labels.specs.Sound.{Sound, sound}
use Rattle.labels.specs.SlotLaws.{slot_free, slot_count_most}
use Rattle.labels.specs.TakeSlotLaws.{slot_took}
use Rattle.labels.specs.Forms.{slot_outcome, SlotReady, LabelReady}

-- the slot that the manager gives is below the capacity
pub slot_given : {c : ℕ} {attributes : List ℕ} {t : Counted} {free : ℕ} → SlotReady c attributes t free → (i n : ℕ) (r : IntervalStoreManager) (ss es : List ℕ) → outcome (given i n) r ss es ≡ taken t.manager t.starts t.ends → i < c
slot_given {c} {attributes} {t} {free} q i n r ss es e =
    omega (arith, index_given_lem t i n r ss es e, next_within c t q.well q.some_free)

module _ {classes : List ℕ} {c : ℕ} {l : Labels} {code : ℕ} {free : LabelsFree} (r : LabelReady classes c l code free) where
  w : Sound classes c l
  w = sound classes c l r.well

  pub slot_ready : SlotReady c l.attributes l.attribute_table free.slots
  slot_ready =
      record {
        well = w.slot_table;
        lent = w.classes_lent;
        some_free = slot_free classes c l w r.some_free;
        most = slot_count_most classes c l w;
        figure = r.figures.slots;
      }

  -- the slot fits 16 bits
  pub slot_fits : (class slot : ℕ) (attributes : List ℕ) (t : Counted) → slot_outcome slot attributes t ≡ slot_taken c l.attributes l.attribute_table class → slot ≤ 65535
  slot_fits class slot attributes t e =
      let took = slot_took c l.attributes l.attribute_table class w.slot_table w.classes_lent w.distinct (slot_free classes c l w r.some_free) in
      omega (arith, ap (λ (o : SlotTaken). o.slot) e, took.below, capacity_most c l.label_table w.label_table_lem)

  pub index_ready : (well_formed l.label_table.manager l.label_table.starts l.label_table.ends ≡ true) × ((0 < l.label_table.manager.last_in_use) × (free.labels ≡ free_indices l.label_table))
  index_ready = (w.label_table_lem.managed, (r.some_free, r.figures.labels))

  -- the index that the manager gives is within the tables
  module _ (i n : ℕ) (m : IntervalStoreManager) (ss es : List ℕ) (e : outcome (given i n) m ss es ≡ taken l.label_table.manager l.label_table.starts l.label_table.ends) where
    below : i < c
    below = omega (arith, index_given_lem l.label_table i n m ss es e, next_within c l.label_table w.label_table_lem r.some_free)

    pub index_fits : i < 1024
    index_fits = omega (arith, below, capacity_most c l.label_table w.label_table_lem)

    pub code_lent : i < length l.labels
    code_lent = omega (arith, below, w.codes_lent)

    pub slot_lent : i < length l.label_attributes
    slot_lent = omega (arith, below, w.slots_lent)

    pub count_lent : i < length l.label_table.counts
    count_lent = omega (arith, below, w.label_table_lem.lent)
