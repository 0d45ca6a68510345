-- The dec of the oldest point, on the tables alone: it does the same whatever the elements are.
use Rattle.std.specs.Prelude.{ℕ, ◌≤◌, true, ◌≡◌}
use Rattle.std.proofs.Math.Path.{refl}
use Rattle.std.proofs.Common.{ap, ◌∙◌}
use Rattle.interval_store_manager.specs.Calls.{go}
use Rattle.store_definitions.specs.declared.Store.{Store}
use Rattle.store_definitions.specs.Memory.{Memory, PointStore, point_store}
use Rattle.store_definitions.specs.Counting.{dec_test, decremented}
use Rattle.store_definitions.specs.Decisions.{live, touch_decided}
use Rattle.store_definitions.specs.WellFormed.{well_formed}
use Rattle.store_check.specs.CheckLaws.{elementless, well_formed_lengths}
use Rattle.store_counts.specs.Elements.{refilled, dec_refilled}
use Rattle.store_definitions.specs.declared.Kept.{Kept}
use Rattle.hold_definitions.specs.Memory.{PointHold, store_of}
use Rattle.hold.specs.Keeping.{oldest_in, oldest_label_in, PointReady}

module _ {E : Type 0} (s : Store) (m : Memory E) where
  abbrev bare : PointStore (Unit {0})
  bare = point_store s (elementless m)

  test_same : (i l : ℕ) → dec_test bare i l ≡ dec_test (point_store s m) i l
  unfolding dec_test touch_decided live
  test_same i l = refl

  pub dec_filled : (after : PointStore (Unit {0})) (i l k : ℕ) → after ≡ decremented bare i l → l ≡ k → refilled m.store m.last_known_shingle after ≡ decremented (point_store s m) i k
  dec_filled after i l k e same =
      ap (λ (x : PointStore (Unit {0})). refilled m.store m.last_known_shingle x) e
      ∙ dec_refilled m.store m.last_known_shingle bare i l
      ∙ ap (λ (x : ℕ). decremented (point_store s m) i x) same

pub dec_ready : {E : Type 0} (k : Kept) (h : PointHold E) → PointReady k h → h.header.width ≤ h.header.held → (l : ℕ) → l ≡ oldest_label_in h
    → (well_formed (point_store h.header.store (elementless h.memory.store)) ≡ true) × (dec_test (point_store h.header.store (elementless h.memory.store)) (oldest_in h) l ≡ go)
dec_ready k h r full l same = (
  well_formed_lengths h.header.store h.memory.store ∙ r.well,
  test_same h.header.store h.memory.store (oldest_in h) l ∙ ap (λ (x : ℕ). dec_test (store_of h) (oldest_in h) x) same ∙ r.decided full,
)
