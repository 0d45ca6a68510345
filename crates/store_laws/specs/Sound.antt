-- A store's well-formedness as a record of named facts. Its rows stand apart: compaction and growth change them alone.
use Rattle.std.specs.Prelude.{ℕ, ◌+◌, ◌*◌, ◌%◌, ◌≤◌, ◌<◌, Bool, true, ◌||◌, List, ◌⊎◌, ◌≡◌, get_or, take, leb, eqb}
use Rattle.std.specs.Int.{◌∣◌}
use Rattle.std.proofs.Common.{le_trans, arith, inl, inr, sym, ◌∙◌, get_or-take}
use Rattle.std.proofs.Math.Nat.{dvd_of_mod-eq-zero, mod-eq-zero_of_dvd}
use Rattle.std.proofs.Math.Decide.{ℕ_discrete}
use Rattle.std.specs.Bool.{beq}
use Rattle.std.proofs.Math.Bool.{or-true}
use Rattle.std.proofs.Math.ListN.{length}
use borrow.Author.Tests.{eq-eqb, ne_eqb, eqb-true, eqb-false, le-leb, leb-true}
use Rattle.terms.specs.Below.{both, and_make, every_at, every_make}
use Rattle.interval_store_manager.specs.Sound.{sound as manager_sound}
use Rattle.placement.specs.Places.{Live, WellPlaced, Distinct}
use Rattle.class_table.specs.Table.{table_allowed}
use Rattle.class_table.specs.TextLaws.{allowed}
use Rattle.labels.specs.Classes.{AtMostNine}
use Rattle.labels.specs.Counted.{Counted, count_at}
use Rattle.labels.specs.CountedLaws.{WellCounted, well_counted, managed_make, free_make, counts_fit_lem, counts_fit_make, beq_same, same_beq}
use Rattle.labels.specs.Labels.{labels_well}
use Rattle.labels.specs.Sound.{Sound as LabelsSound, sound as labels_sound, sound_make as labels_sound_make}
use Rattle.store_definitions.specs.declared.Store.{Store}
use Rattle.store_definitions.specs.Memory.{Memory, PointStore}
use Rattle.store_definitions.specs.Parts.{base_of, table_length, Rows, rows_of, point_table, label_half}
use Rattle.store_definitions.specs.Bounds.{rotation_allowed, labels_lent}
use Rattle.store_definitions.specs.WellFormed.{table_length_well, store_length_well, free_start_well, empty_uncounted, sequence_well, well_formed}
use Rattle.store_laws.specs.Cases.{asked, asked_make}
use Rattle.store_laws.specs.BoundsLaws.{InBounds, in_bounds, in_bounds_make, shaped}
use Rattle.store_laws.specs.LentLaws.{PointsLent, LabelsLent, labels_are_lent_make, lent, lent_make}
use Rattle.store_laws.specs.PlacesLaws.{live_make, distinct, distinct_make, ends, ends_make}

-- rows of a shape, of which the first n places are in use
pub record RowsSound {E : Type 0} (dims base capacity n : ℕ) (r : Rows E) : Type 0 where
  pub floats_lent : capacity * dims ≤ length r.elements
  pub places_lent : capacity ≤ length r.location
  pub store_within : r.store_length ≤ capacity * dims
  pub free_whole : base ∣ r.free
  pub free_started : (r.free ≡ 0) ⊎ (dims ≤ r.free)
  pub free_inside : r.free ≤ r.store_length
  pub well_placed : WellPlaced dims base (take n r.location) r.free (length r.elements)
  pub distinct_places : Distinct (take n r.location)

-- no class of an allowed table is above 9
pub class_most : (classes : List ℕ) → table_allowed classes ≡ true → AtMostNine classes
class_most classes e code l = (allowed classes e).most code (omega arith)

started : (free dims : ℕ) → (eqb free 0 || leb dims free) ≡ true → (free ≡ 0) ⊎ (dims ≤ free)
started free dims e =
    elim (ℕ_discrete free 0) [ yes q ↦ inl q | no d ↦ inr (leb-true dims free (rw (ne_eqb free 0 d) at e)) ]

started_make : (free dims : ℕ) → (free ≡ 0) ⊎ (dims ≤ free) → (eqb free 0 || leb dims free) ≡ true
started_make free dims (inl q) = rw (eq-eqb free 0 q)
started_make free dims (inr l) = rw (le-leb dims free l) (or-true (eqb free 0))

-- the free start is far below the empty place, and in the lent floats
free_small : (dims shingle capacity free stored lent : ℕ) → InBounds dims shingle capacity → free ≤ stored → stored ≤ capacity * dims → capacity * dims ≤ lent → (free + dims ≤ 65535) × (free ≤ lent)
free_small dims shingle capacity free stored lent b h g l = (omega (arith, b.dims_most, b.floats_most), omega arith)

-- a table's stack has an entry for each index
stacks_lent : (c : ℕ) (t : Counted) → WellCounted c t → (c ≤ length t.starts) × (c ≤ length t.ends)
stacks_lent c t w =
    let s = manager_sound t.manager t.starts t.ends w.managed in
    (omega (arith, w.whole, s.starts_lent), omega (arith, w.whole, s.ends_lent))

module _ {E : Type 0} where
  pub record Sound (p : PointStore E) : Type 0 where
    pub bounds : InBounds p.header.dimensions p.header.shingle_size p.header.capacity
    pub rotation : rotation_allowed p.header.internal_rotation ≡ true
    pub lent : PointsLent p.header.dimensions p.header.capacity p.memory
    pub table_within : table_length p.header ≤ p.header.capacity
    pub rows : RowsSound p.header.dimensions (base_of p.header) p.header.capacity (table_length p.header) (rows_of p)
    pub points : WellCounted (table_length p.header) (point_table p)
    -- count 0 exactly at an empty place
    pub empty_is : (i : ℕ) → i < table_length p.header → eqb (count_at (point_table p) i) 0 ≡ eqb (get_or p.memory.location i 65535) 65535
    pub sequence_most : p.header.next_sequence_index ≤ 4294967295
    pub classes_allowed : table_allowed p.header.classes ≡ true
    pub counts_most : (i : ℕ) → i < table_length p.header → count_at (point_table p) i ≤ 65535
    pub labels : p.header.store_labels ≡ true → LabelsSound p.header.classes p.header.capacity (label_half p)

  -- what is lent for the labels follows from the label half
  labels_lent_of : (c : ℕ) (p : PointStore E) → LabelsSound p.header.classes c (label_half p) → LabelsLent c p.memory
  labels_lent_of c p l =
      let a = stacks_lent c (label_half p).label_table l.label_table_lem in
      let b = stacks_lent c (label_half p).attribute_table l.slot_table in
      record {
        codes_lent = l.codes_lent;
        slots_lent = l.slots_lent;
        label_counts_lent = l.label_table_lem.lent;
        label_starts_lent = a.0;
        label_ends_lent = a.1;
        classes_lent = l.classes_lent;
        slot_counts_lent = l.slot_table.lent;
        slot_starts_lent = b.0;
        slot_ends_lent = b.1;
      }

  pub labels_lent_make : (c : ℕ) (p : PointStore E) → LabelsSound p.header.classes c (label_half p) → labels_lent c p.memory ≡ true
  labels_lent_make c p l = labels_are_lent_make c p.memory (labels_lent_of c p l)

  module _ (p : PointStore E) where
    abbrev s : Store
    s = p.header

    abbrev m : Memory E
    m = p.memory

    abbrev n : ℕ
    n = table_length s

    empty_at : ℕ → Bool
    empty_at i = beq (eqb (get_or m.reference_count i 0) 0) (eqb (get_or m.location i 65535) 65535)

    pub sound : well_formed p ≡ true → Sound p
    unfolding well_formed table_length_well store_length_well free_start_well empty_uncounted sequence_well empty_at
    sound e =
        let p1 = both _ _ e in
        let p2 = both _ _ p1.1 in
        let p3 = both _ _ p2.1 in
        let p4 = both _ _ p3.1 in
        let p5 = both _ _ p4.1 in
        let p6 = both _ _ p5.1 in
        let p7 = both _ _ p6.1 in
        let p8 = both _ _ p7.1 in
        let p9 = both _ _ p8.1 in
        let p10 = both _ _ p9.1 in
        let p11 = both _ _ p10.1 in
        let p12 = both _ _ p11.1 in
        let p13 = both _ _ p12.1 in
        let p14 = both _ _ p13.1 in
        let l = lent s.capacity m s.dimensions s.store_labels p3.0 in
        let f1 = both _ _ p6.0 in
        let f2 = both _ _ f1.1 in
        let b = in_bounds s.dimensions s.shingle_size s.capacity p1.0 in
        let floats : s.capacity * s.dimensions ≤ length m.store = l.floats_lent in
        let places : s.capacity ≤ length m.location = l.places_lent in
        let table : n ≤ s.capacity = leb-true n s.capacity (both (leb 1 n) (leb n s.capacity) p4.0).1 in
        let within : s.store_length ≤ s.capacity * s.dimensions = leb-true s.store_length (s.capacity * s.dimensions) p5.0 in
        let inside : s.start_free_region ≤ s.store_length = leb-true s.start_free_region s.store_length f2.1 in
        let small = free_small s.dimensions s.shingle_size s.capacity s.start_free_region s.store_length (length m.store) b inside within floats in
        record {
          bounds = b;
          rotation = p2.0;
          lent = l.points_lent;
          table_within = table;
          rows = record {
            floats_lent = floats;
            places_lent = places;
            store_within = within;
            free_whole = dvd_of_mod-eq-zero (base_of s) (eqb-true (s.start_free_region % base_of s) 0 f1.0);
            free_started = started s.start_free_region s.dimensions f2.0;
            free_inside = inside;
            well_placed = record {
              shaped = shaped s.dimensions s.shingle_size s.capacity b;
              small = small.0;
              inside = small.1;
              ends = ends n m.location (le_trans table places) s p10.0;
            };
            distinct_places = distinct n m.location (le_trans table places) p9.0;
          };
          points = well_counted n (point_table p) p11.0 (le_trans table l.points_lent.counts_lent) p7.0;
          empty_is = λ i h.
              beq_same (eqb (get_or m.reference_count i 0) 0) (eqb (get_or m.location i 65535) 65535)
              (every_at n empty_at p8.0 i h);
          sequence_most = leb-true s.next_sequence_index 4294967295 p12.0;
          classes_allowed = p13.0;
          counts_most = counts_fit_lem n m.reference_count p14.0;
          labels = λ on. labels_sound s.classes s.capacity (label_half p) (asked s.store_labels (labels_well s.classes s.capacity (label_half p)) p14.1 on);
        }

    pub sound_make : Sound p → well_formed p ≡ true
    unfolding well_formed table_length_well store_length_well free_start_well empty_uncounted sequence_well empty_at
    sound_make w =
        let r = w.rows in
        let free = s.start_free_region in
        and_make _ _ (in_bounds_make s.dimensions s.shingle_size s.capacity w.bounds)
        (and_make _ _ w.rotation
        (and_make _ _
        (lent_make s.capacity m s.dimensions s.store_labels
        (record { floats_lent = r.floats_lent; places_lent = r.places_lent; points_lent = w.lent; labels_lent_lem = λ on. labels_lent_of s.capacity p (w.labels on) }))
        (and_make _ _
        (and_make _ _ (le-leb 1 n (manager_sound s.index_manager m.index_starts m.index_ends w.points.managed).least)
        (le-leb n s.capacity w.table_within))
        (and_make _ _ (le-leb s.store_length (s.capacity * s.dimensions) r.store_within)
        (and_make _ _
        (and_make _ _ (eq-eqb (free % base_of s) 0 (mod-eq-zero_of_dvd (base_of s) r.free_whole))
        (and_make _ _ (started_make free s.dimensions r.free_started) (le-leb free s.store_length r.free_inside)))
        (and_make _ _ (free_make n (point_table p) w.points)
        (and_make _ _
        (every_make n empty_at
        (λ i h. same_beq (eqb (get_or m.reference_count i 0) 0) (eqb (get_or m.location i 65535) 65535) (w.empty_is i h)))
        (and_make _ _ (distinct_make n m.location (omega (arith, r.places_lent, w.table_within)) r.distinct_places)
        (and_make _ _ (ends_make n m.location (omega (arith, r.places_lent, w.table_within)) s r.well_placed.ends)
        (and_make _ _ (managed_make n (point_table p) w.points)
        (and_make _ _ (le-leb s.next_sequence_index 4294967295 w.sequence_most)
        (and_make _ _ w.classes_allowed
        (and_make _ _ (counts_fit_make n m.reference_count w.counts_most)
        (asked_make s.store_labels (labels_well s.classes s.capacity (label_half p)) (λ on. labels_sound_make s.classes s.capacity (label_half p) (w.labels on))))))))))))))))

    -- an index with a count has a point, which ends at most at the free start; so its place is not the empty one
    module _ (w : Sound p) (i : ℕ) (h : i < n) (u : 0 < get_or m.reference_count i 0) where
      pub counted_live : Live (take n m.location) i
      counted_live =
          live_make n m.location (omega (arith, w.rows.places_lent, w.table_within)) i h
          (eqb-false (get_or m.location i 65535) 65535
          (sym (w.empty_is i h) ∙ ne_eqb (get_or m.reference_count i 0) 0 (λ z. omega arith)))

      pub place_ends : get_or m.location i 65535 * base_of s + s.dimensions ≤ s.start_free_region
      place_ends = rw (get_or-take n m.location i 65535 h) at (w.rows.well_placed.ends i counted_live)
