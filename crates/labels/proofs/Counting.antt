-- What a live label gives the functions that count it.
use Rattle.std.specs.Prelude.{ℕ, ◌<◌, List, length}
use Rattle.std.proofs.Common.{arith}
use Rattle.labels.specs.Counted.{Counted, count_at}
use Rattle.labels.specs.CountedLaws.{WellCounted, used_not_free}
use Rattle.labels.specs.Labels.{Labels, slot_at, slot_count_at}
use Rattle.labels.specs.Sound.{Sound, sound}
use Rattle.labels.specs.SlotLaws.{slot_counts}
use Rattle.labels.specs.Forms.{Releasable, LiveLabel}

releasable : (c : ℕ) (t : Counted) → WellCounted c t → (i : ℕ) → i < c → 0 < count_at t i → Releasable t.manager t.starts t.ends i
releasable c t w i l u = record { well = w.managed; below = rw w.whole l; not_free = used_not_free c t w i l u }

module _ {classes : List ℕ} {c : ℕ} {l : Labels} {i : ℕ} (r : LiveLabel classes c l i) where
  w : Sound classes c l
  w = sound classes c l r.well

  below : slot_at l i < c
  below = (w.stands i r.below r.live).slot_below

  pub index_lent : i < length l.label_attributes
  index_lent = omega (arith, w.slots_lent, r.below)

  pub slot_lent : slot_at l i < length l.attribute_table.counts
  slot_lent = omega (arith, w.slot_table.lent, below)

  pub slot_live : 0 < slot_count_at l (slot_at l i)
  slot_live = omega (arith, slot_counts classes c l w i r.below r.live, r.live)

  pub index_releasable : Releasable l.label_table.manager l.label_table.starts l.label_table.ends i
  index_releasable = releasable c l.label_table w.label_table_lem i r.below r.live

  pub slot_releasable : Releasable l.attribute_table.manager l.attribute_table.starts l.attribute_table.ends (slot_at l i)
  slot_releasable = releasable c l.attribute_table w.slot_table (slot_at l i) below slot_live
