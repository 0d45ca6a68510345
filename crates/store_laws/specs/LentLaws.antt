-- The lengths of the lent lists as named facts.
use Rattle.std.specs.Prelude.{ℕ, ◌*◌, ◌≤◌, Bool, true, ◌≡◌, length}
use borrow.Author.Tests.{le-leb, leb-true}
use Rattle.terms.specs.Below.{both, and_make}
use Rattle.store_definitions.specs.Memory.{Memory}
use Rattle.store_definitions.specs.Bounds.{labels_lent, lent_enough}
use Rattle.store_laws.specs.Cases.{asked, asked_make}

-- the lists besides the rows' and the labels'
pub record PointsLent {E : Type 0} (dims capacity : ℕ) (m : Memory E) : Type 0 where
  pub window_lent : dims ≤ length m.last_known_shingle
  pub counts_lent : capacity ≤ length m.reference_count
  pub starts_lent : capacity ≤ length m.index_starts
  pub ends_lent : capacity ≤ length m.index_ends

pub record LabelsLent {E : Type 0} (capacity : ℕ) (m : Memory E) : Type 0 where
  pub codes_lent : capacity ≤ length m.labels
  pub slots_lent : capacity ≤ length m.label_attributes
  pub label_counts_lent : capacity ≤ length m.label_count
  pub label_starts_lent : capacity ≤ length m.label_starts
  pub label_ends_lent : capacity ≤ length m.label_ends
  pub classes_lent : capacity ≤ length m.attributes
  pub slot_counts_lent : capacity ≤ length m.attribute_count
  pub slot_starts_lent : capacity ≤ length m.attribute_starts
  pub slot_ends_lent : capacity ≤ length m.attribute_ends

pub record Lent {E : Type 0} (dims capacity : ℕ) (on : Bool) (m : Memory E) : Type 0 where
  pub floats_lent : capacity * dims ≤ length m.store
  pub places_lent : capacity ≤ length m.location
  pub points_lent : PointsLent dims capacity m
  pub labels_lent_lem : on ≡ true → LabelsLent capacity m

module _ {E : Type 0} (c : ℕ) (m : Memory E) where
  labels_are_lent : labels_lent c m ≡ true → LabelsLent c m
  unfolding labels_lent
  labels_are_lent e =
      let p1 = both _ _ e in
      let p2 = both _ _ p1.1 in
      let p3 = both _ _ p2.1 in
      let p4 = both _ _ p3.1 in
      let p5 = both _ _ p4.1 in
      let p6 = both _ _ p5.1 in
      let p7 = both _ _ p6.1 in
      let p8 = both _ _ p7.1 in
      record {
        codes_lent = leb-true c (length m.labels) p1.0;
        slots_lent = leb-true c (length m.label_attributes) p2.0;
        label_counts_lent = leb-true c (length m.label_count) p3.0;
        label_starts_lent = leb-true c (length m.label_starts) p4.0;
        label_ends_lent = leb-true c (length m.label_ends) p5.0;
        classes_lent = leb-true c (length m.attributes) p6.0;
        slot_counts_lent = leb-true c (length m.attribute_count) p7.0;
        slot_starts_lent = leb-true c (length m.attribute_starts) p8.0;
        slot_ends_lent = leb-true c (length m.attribute_ends) p8.1;
      }

  pub labels_are_lent_make : LabelsLent c m → labels_lent c m ≡ true
  unfolding labels_lent
  labels_are_lent_make l =
      and_make _ _ (le-leb c (length m.labels) l.codes_lent)
      (and_make _ _ (le-leb c (length m.label_attributes) l.slots_lent)
      (and_make _ _ (le-leb c (length m.label_count) l.label_counts_lent)
      (and_make _ _ (le-leb c (length m.label_starts) l.label_starts_lent)
      (and_make _ _ (le-leb c (length m.label_ends) l.label_ends_lent)
      (and_make _ _ (le-leb c (length m.attributes) l.classes_lent)
      (and_make _ _ (le-leb c (length m.attribute_count) l.slot_counts_lent)
      (and_make _ _ (le-leb c (length m.attribute_starts) l.slot_starts_lent)
      (le-leb c (length m.attribute_ends) l.slot_ends_lent))))))))

  module _ (dims : ℕ) (on : Bool) where
    pub lent : lent_enough dims c on m ≡ true → Lent dims c on m
    unfolding lent_enough
    lent e =
        let p1 = both _ _ e in
        let p2 = both _ _ p1.1 in
        let p3 = both _ _ p2.1 in
        let p4 = both _ _ p3.1 in
        let p5 = both _ _ p4.1 in
        let p6 = both _ _ p5.1 in
        record {
          floats_lent = leb-true (c * dims) (length m.store) p1.0;
          places_lent = leb-true c (length m.location) p4.0;
          points_lent = record {
            window_lent = leb-true dims (length m.last_known_shingle) p2.0;
            counts_lent = leb-true c (length m.reference_count) p3.0;
            starts_lent = leb-true c (length m.index_starts) p5.0;
            ends_lent = leb-true c (length m.index_ends) p6.0;
          };
          labels_lent_lem = λ h. labels_are_lent (asked on (labels_lent c m) p6.1 h);
        }

    pub lent_make : Lent dims c on m → lent_enough dims c on m ≡ true
    unfolding lent_enough
    lent_make l =
        let q = l.points_lent in
        and_make _ _ (le-leb (c * dims) (length m.store) l.floats_lent)
        (and_make _ _ (le-leb dims (length m.last_known_shingle) q.window_lent)
        (and_make _ _ (le-leb c (length m.reference_count) q.counts_lent)
        (and_make _ _ (le-leb c (length m.location) l.places_lent)
        (and_make _ _ (le-leb c (length m.index_starts) q.starts_lent)
        (and_make _ _ (le-leb c (length m.index_ends) q.ends_lent) (asked_make on (labels_lent c m) (λ h. labels_are_lent_make (l.labels_lent_lem h))))))))
