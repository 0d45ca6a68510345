-- Well-formedness of a store depends on its elements' lengths alone, and the check's clauses, in its order, are it.
use Rattle.std.specs.Prelude.{ℕ, ◌*◌, ◌%◌, ◌<◌, List, Bool, true, false, cond, ◌&&◌, ◌||◌, ◌≡◌, refl, length, get_or, replicate, leb, eqb}
use Rattle.std.proofs.Common.{arith, sym, ◌∙◌, ap, ap₂, le-leb, leb-true}
use Rattle.std.proofs.lemmas.List.{length-replicate}
use Rattle.terms.specs.Below.{both, and_make}
use Rattle.interval_store_manager.specs.Sound.{sound as manager_sound}
use Rattle.interval_store_manager.specs.WellFormed as manager
use Rattle.class_table.specs.Table.{table_allowed}
use Rattle.labels.specs.Counted.{managed, free_uncounted, counts_fit}
use Rattle.labels.specs.CountedLaws.{counts_fit_make}
use Rattle.labels.specs.Labels.{labels_ok}
use Rattle.labels.specs.Sound.{sound}
use Rattle.store_laws.specs.BoundsLaws.{in_bounds}
use Rattle.store_laws.specs.Sound.{labels_lent_make}
use Rattle.store_definitions.specs.declared.Store.{Store}
use Rattle.store_definitions.specs.Memory.{Memory, PointStore, point_store}
use Rattle.store_definitions.specs.Parts.{base_of, table_length, point_table, label_half}
use Rattle.store_definitions.specs.Bounds.{bounds_hold, rotation_allowed, labels_lent, lent_enough}
use Rattle.store_definitions.specs.WellFormed.{table_length_well, store_length_well, free_start_well, empty_uncounted, places_distinct, places_end, sequence_well, well_formed}
use Rattle.store_check.specs.PointsTest.{points_test, PointsReady}

-- the memory with its elements known by their number alone
abbrev pub elementless : {E : Type 0} → Memory E → Memory (Unit {0})
elementless m =
    record {
      store = replicate (length m.store) tt;
      last_known_shingle = replicate (length m.last_known_shingle) tt;
      reference_count = m.reference_count;
      location = m.location;
      index_starts = m.index_starts;
      index_ends = m.index_ends;
      labels = m.labels;
      label_attributes = m.label_attributes;
      label_count = m.label_count;
      label_starts = m.label_starts;
      label_ends = m.label_ends;
      attributes = m.attributes;
      attribute_count = m.attribute_count;
      attribute_starts = m.attribute_starts;
      attribute_ends = m.attribute_ends;
    }

pub well_formed_lengths : {E : Type 0} (s : Store) (m : Memory E) → well_formed (point_store s (elementless m)) ≡ well_formed (point_store s m)
unfolding well_formed lent_enough labels_lent
well_formed_lengths s m = rw (length-replicate {A = Unit {0}} (length m.store) tt, length-replicate {A = Unit {0}} (length m.last_known_shingle) tt)

-- the record's own clauses and how long the lent slices are, in the order in which the check asks them
unfoldable pub record_test : Store → (floats window counts places starts ends : ℕ) → Bool
record_test s floats window counts places starts ends =
    let c = s.capacity in
    bounds_hold s.dimensions s.shingle_size c
    && (rotation_allowed s.internal_rotation
    && (leb (c * s.dimensions) floats
    && (leb s.dimensions window
    && (leb c counts
    && (leb c places
    && (leb c starts
    && (leb c ends
    && (leb (table_length s) c && (leb s.store_length (c * s.dimensions) && (sequence_well s && (table_allowed s.classes && free_start_well s)))))))))))

-- the same without the table of classes
unfoldable pub numbers_test : Store → (floats window counts places starts ends : ℕ) → Bool
numbers_test s floats window counts places starts ends =
    let c = s.capacity in
    bounds_hold s.dimensions s.shingle_size c
    && (rotation_allowed s.internal_rotation
    && (leb (c * s.dimensions) floats
    && (leb s.dimensions window
    && (leb c counts
    && (leb c places
    && (leb c starts
    && (leb c ends
    && (leb (table_length s) c && (leb s.store_length (c * s.dimensions) && (sequence_well s && free_start_well s))))))))))

pub record_parts : (s : Store) (floats window counts places starts ends : ℕ) → record_test s floats window counts places starts ends ≡ (table_allowed s.classes && numbers_test s floats window counts places starts ends)
unfolding record_test numbers_test
record_parts s floats window counts places starts ends =
    let t = table_allowed s.classes in
    let c = s.capacity in
    moved t (bounds_hold s.dimensions s.shingle_size c) _ _
    (moved t (rotation_allowed s.internal_rotation) _ _
    (moved t (leb (c * s.dimensions) floats) _ _
    (moved t (leb s.dimensions window) _ _
    (moved t (leb c counts) _ _
    (moved t (leb c places) _ _
    (moved t (leb c starts) _ _
    (moved t (leb c ends) _ _
    (moved t (leb (table_length s) c) _ _
    (moved t (leb s.store_length (c * s.dimensions)) _ _ (moved t (sequence_well s) (t && free_start_well s) (free_start_well s) refl))))))))))
  where
    moved : (t a x y : Bool) → x ≡ (t && y) → (a && x) ≡ (t && (a && y))
    moved true a x y e = ap (λ (b : Bool). a && b) e
    moved false true x y e = e
    moved false false x y e = refl

labels_lent_lem : {E : Type 0} (b : Bool) (p : PointStore E) → labels_ok b p.header.classes p.header.capacity (label_half p) ≡ true → cond b (labels_lent p.header.capacity p.memory) true ≡ true
labels_lent_lem true p e = labels_lent_make p.header.capacity p (sound p.header.classes p.header.capacity (label_half p) e)
labels_lent_lem false p e = refl

-- two tests that imply each other
same_test : (a b : Bool) → (a ≡ true → b ≡ true) → (b ≡ true → a ≡ true) → a ≡ b
same_test true b f g = sym (f refl)
same_test false true f g = g refl
same_test false false f g = refl

-- what the check asks of a store whose counts fit by type
module _ {E : Type 0} (q : PointStore E) (fit : counts_fit (table_length q.header) q.memory.reference_count ≡ true) where
  abbrev s : Store
  s = q.header

  abbrev m : Memory E
  m = q.memory

  abbrev n : ℕ
  n = table_length s

  abbrev asked : Bool
  asked =
      record_test s (length m.store) (length m.last_known_shingle) (length m.reference_count) (length m.location) (length m.index_starts) (length m.index_ends)
      && (points_test s m.reference_count m.location m.index_starts m.index_ends
      && labels_ok s.store_labels s.classes s.capacity (label_half q))

  passes : well_formed q ≡ true → asked ≡ true
  unfolding well_formed lent_enough table_length_well store_length_well record_test points_test
  passes e =
      let p1 = both (bounds_hold s.dimensions s.shingle_size s.capacity) _ e in
      let p2 = both (rotation_allowed s.internal_rotation) _ p1.1 in
      let p3 = both (lent_enough s.dimensions s.capacity s.store_labels m) _ p2.1 in
      let p4 = both (table_length_well s) _ p3.1 in
      let p5 = both (store_length_well s) _ p4.1 in
      let p6 = both (free_start_well s) _ p5.1 in
      let p7 = both (free_uncounted n (point_table q)) _ p6.1 in
      let p8 = both (empty_uncounted n m.reference_count m.location) _ p7.1 in
      let p9 = both (places_distinct n m.location) _ p8.1 in
      let p10 = both (places_end n s m.location) _ p9.1 in
      let p11 = both (managed n (point_table q)) _ p10.1 in
      let p12 = both (sequence_well s) _ p11.1 in
      let p13 = both (table_allowed s.classes) _ p12.1 in
      let p14 = both (counts_fit n m.reference_count) _ p13.1 in
      let l1 = both (leb (s.capacity * s.dimensions) (length m.store)) _ p3.0 in
      let l2 = both (leb s.dimensions (length m.last_known_shingle)) _ l1.1 in
      let l3 = both (leb s.capacity (length m.reference_count)) _ l2.1 in
      let l4 = both (leb s.capacity (length m.location)) _ l3.1 in
      let l5 = both (leb s.capacity (length m.index_starts)) _ l4.1 in
      let l6 = both (leb s.capacity (length m.index_ends)) _ l5.1 in
      and_make _ _
      (and_make _ _ p1.0
      (and_make _ _ p2.0
      (and_make _ _ l1.0
      (and_make _ _ l2.0
      (and_make _ _ l3.0
      (and_make _ _ l4.0
      (and_make _ _ l5.0
      (and_make _ _ l6.0
      (and_make _ _ (both (leb 1 n) (leb n s.capacity) p4.0).1 (and_make _ _ p5.0 (and_make _ _ p12.0 (and_make _ _ p13.0 p6.0))))))))))))
      (and_make _ _
      (and_make _ _ p11.0 (and_make _ _ p7.0 (and_make _ _ p8.0 (and_make _ _ p9.0 p10.0))))
      p14.1)

  passed : asked ≡ true → well_formed q ≡ true
  unfolding well_formed lent_enough table_length_well store_length_well record_test points_test managed
  passed e =
      let first = both (record_test s (length m.store) (length m.last_known_shingle) (length m.reference_count) (length m.location) (length m.index_starts) (length m.index_ends)) _ e in
      let second = both (points_test s m.reference_count m.location m.index_starts m.index_ends) (labels_ok s.store_labels s.classes s.capacity (label_half q)) first.1 in
      let a1 = both (bounds_hold s.dimensions s.shingle_size s.capacity) _ first.0 in
      let a2 = both (rotation_allowed s.internal_rotation) _ a1.1 in
      let a3 = both (leb (s.capacity * s.dimensions) (length m.store)) _ a2.1 in
      let a4 = both (leb s.dimensions (length m.last_known_shingle)) _ a3.1 in
      let a5 = both (leb s.capacity (length m.reference_count)) _ a4.1 in
      let a6 = both (leb s.capacity (length m.location)) _ a5.1 in
      let a7 = both (leb s.capacity (length m.index_starts)) _ a6.1 in
      let a8 = both (leb s.capacity (length m.index_ends)) _ a7.1 in
      let a9 = both (leb n s.capacity) _ a8.1 in
      let a10 = both (leb s.store_length (s.capacity * s.dimensions)) _ a9.1 in
      let a11 = both (sequence_well s) _ a10.1 in
      let a12 = both (table_allowed s.classes) (free_start_well s) a11.1 in
      let b1 = both (managed n (point_table q)) _ second.0 in
      let b2 = both (free_uncounted n (point_table q)) _ b1.1 in
      let b3 = both (empty_uncounted n m.reference_count m.location) _ b2.1 in
      let b4 = both (places_distinct n m.location) _ b3.1 in
      let kept = manager_sound s.index_manager m.index_starts m.index_ends (both (manager.well_formed s.index_manager m.index_starts m.index_ends) _ b1.0).0 in
      and_make _ _ a1.0
      (and_make _ _ a2.0
      (and_make _ _
      (and_make _ _ a3.0
      (and_make _ _ a4.0
      (and_make _ _ a5.0
      (and_make _ _ a6.0
      (and_make _ _ a7.0 (and_make _ _ a8.0 (labels_lent_lem s.store_labels q second.1)))))))
      (and_make _ _ (and_make _ _ (le-leb 1 n kept.least) a9.0)
      (and_make _ _ a10.0
      (and_make _ _ a12.1
      (and_make _ _ b2.0
      (and_make _ _ b3.0
      (and_make _ _ b4.0 (and_make _ _ b4.1 (and_make _ _ b1.0 (and_make _ _ a11.0 (and_make _ _ a12.0 (and_make _ _ fit second.1)))))))))))))

  pub check_is : well_formed q ≡ asked
  check_is = same_test (well_formed q) asked passes passed

-- what the record's clauses leave for the pass over the points
pub record_ready : (s : Store) (floats window starts ends : ℕ) (counts location : List ℕ) → record_test s floats window (length counts) (length location) starts ends ≡ true → PointsReady s counts location
unfolding record_test free_start_well
record_ready s floats window starts ends counts location e =
    let c = s.capacity in
    let free = s.start_free_region in
    let a₁ = both _ _ e in
    let a₂ = both (rotation_allowed s.internal_rotation) _ a₁.1 in
    let a₃ = both (leb (c * s.dimensions) floats) _ a₂.1 in
    let a₄ = both (leb s.dimensions window) _ a₃.1 in
    let a₅ = both (leb c (length counts)) _ a₄.1 in
    let a₆ = both (leb c (length location)) _ a₅.1 in
    let a₇ = both (leb c starts) _ a₆.1 in
    let a₈ = both (leb c ends) _ a₇.1 in
    let a₉ = both (leb (table_length s) c) _ a₈.1 in
    let last = both (leb s.store_length (c * s.dimensions)) _ a₉.1 in
    let inside = (both (eqb free 0 || leb s.dimensions free) (leb free s.store_length) (both (eqb (free % base_of s) 0) _ (both (table_allowed s.classes) (free_start_well s) (both (sequence_well s) _ last.1).1).1).1).1 in
    record {
      bounds = a₁.0;
      free_most = omega (arith, (in_bounds s.dimensions s.shingle_size c a₁.0).floats_most, leb-true s.store_length (c * s.dimensions) last.0, leb-true free s.store_length inside);
      table_within = leb-true (table_length s) c a₉.0;
      counts_lent = leb-true c (length counts) a₅.0;
      places_lent = leb-true c (length location) a₆.0;
    }

-- the check's three ways out
module _ {E : Type 0} (q : PointStore E) (floats window : ℕ) (f : length q.memory.store ≡ floats) (w : length q.memory.last_known_shingle ≡ window) (fit : (i : ℕ) → get_or q.memory.reference_count i 0 < 65536) where
  abbrev held : Memory E
  held = q.memory

  abbrev first : Bool
  first = record_test q.header floats window (length held.reference_count) (length held.location) (length held.index_starts) (length held.index_ends)

  abbrev second : Bool
  second = points_test q.header held.reference_count held.location held.index_starts held.index_ends

  abbrev third : Bool
  third = labels_ok q.header.store_labels q.header.classes q.header.capacity (label_half q)

  parts : well_formed q ≡ (first && (second && third))
  parts =
      check_is q (counts_fit_make (table_length q.header) held.reference_count (λ i l. omega (arith, fit i)))
      ∙ ap₂
      (λ (a b : ℕ). record_test q.header a b (length held.reference_count) (length held.location) (length held.index_starts) (length held.index_ends) && (second && third))
      f w

  pub record_fails : first ≡ false → false ≡ well_formed q
  record_fails e = sym (parts ∙ rw e)

  pub points_fail : first ≡ true → second ≡ false → false ≡ well_formed q
  points_fail e g = sym (parts ∙ rw (e, g))

  pub labels_decide : first ≡ true → second ≡ true → third ≡ well_formed q
  labels_decide e g = sym (parts ∙ rw (e, g))
