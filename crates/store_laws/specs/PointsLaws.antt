-- A store stays sound with another table of points, other places, another label half or another window.
use Rattle.std.specs.Prelude.{ℕ, ◌≤◌, ◌<◌, List, ◌≡◌, length, get_or, take, eqb}
use Rattle.std.proofs.Common.{arith, sym, ◌∙◌, subst, get_or-take}
use Rattle.placement.specs.Places.{Live}
use Rattle.labels.specs.Counted.{Counted, count_at}
use Rattle.labels.specs.CountedLaws.{WellCounted}
use Rattle.labels.specs.Labels.{Labels}
use Rattle.labels.specs.Sound.{Sound as LabelsSound}
use Rattle.store_definitions.specs.Memory.{PointStore}
use Rattle.store_definitions.specs.Parts.{base_of, Rows, rows_of, point_table, with_points, with_labels, with_window}
use Rattle.store_laws.specs.PlacesLaws.{live_below_lem, live_placed, live_make}
use Rattle.store_laws.specs.Sound.{RowsSound, Sound}
use Rattle.store_laws.specs.Lengths.{SameLengths}

-- rows with other places
abbrev pub with_places : {E : Type 0} → List ℕ → Rows E → Rows E
with_places location r = record { elements = r.elements; location = location; free = r.free; store_length = r.store_length }

-- no point of the first m of b is new: each is among the first n of a, at the same place
abbrev pub NoneNew : ℕ → List ℕ → ℕ → List ℕ → Type 0
NoneNew n a m b = (i : ℕ) → i < m → (get_or b i 65535 ≡ 65535 → ⊥) → (i < n) × (get_or b i 65535 ≡ get_or a i 65535)

module _ {E : Type 0} (dims base capacity n : ℕ) (r : Rows E) (w : RowsSound dims base capacity n r) (h : n ≤ capacity) where
  -- rows that lose points, or gain empty places
  pub rows_fewer : (m : ℕ) (b : List ℕ) → m ≤ capacity → length b ≡ length r.location → NoneNew n r.location m b → RowsSound dims base capacity m (with_places b r)
  rows_fewer m b g e f =
      let a : List ℕ = r.location in
      let la : n ≤ length a = omega (arith, w.places_lent) in
      let lb : m ≤ length b = omega (arith, w.places_lent) in
      let old : (i : ℕ) → Live (take m b) i → (i < n) × (get_or b i 65535 ≡ get_or a i 65535) = λ i l.
      f i (live_below_lem m b lb i l) (live_placed m b lb i l) in
      let was : (i : ℕ) → Live (take m b) i → Live (take n a) i = λ i l.
      live_make n a la i (old i l).0 (λ z. live_placed m b lb i l ((old i l).1 ∙ z)) in
      let same : (i : ℕ) → Live (take m b) i → get_or (take m b) i 65535 ≡ get_or (take n a) i 65535 = λ i l.
      get_or-take m b i 65535 (live_below_lem m b lb i l) ∙ (old i l).1 ∙ sym (get_or-take n a i 65535 (old i l).0) in
      record {
        floats_lent = w.floats_lent;
        places_lent = omega (arith, w.places_lent);
        store_within = w.store_within;
        free_whole = w.free_whole;
        free_started = w.free_started;
        free_inside = w.free_inside;
        well_placed = record {
          shaped = w.well_placed.shaped;
          small = w.well_placed.small;
          inside = w.well_placed.inside;
          ends = λ i l. rw (same i l) (w.well_placed.ends i (was i l));
        };
        distinct_places = λ i j l k q. w.distinct_places i j (was i l) (was j k) (sym (same i l) ∙ q ∙ same j k);
      }

module _ {E : Type 0} (p : PointStore E) (w : Sound p) where
  -- another table of points, with its places
  pub with_points_lem : (n : ℕ) (t : Counted) (location : List ℕ) → n ≤ p.header.capacity → WellCounted n t → SameLengths (point_table p) t → RowsSound p.header.dimensions (base_of p.header) p.header.capacity n (with_places location (rows_of p)) → ((i : ℕ) → i < n → eqb (count_at t i) 0 ≡ eqb (get_or location i 65535) 65535) → ((i : ℕ) → i < n → count_at t i ≤ 65535) → Sound (with_points t location p)
  with_points_lem n t location h c l r e f =
      record {
        bounds = w.bounds;
        rotation = w.rotation;
        lent = record {
          window_lent = w.lent.window_lent;
          counts_lent = rw l.counts_same w.lent.counts_lent;
          starts_lent = rw l.starts_same w.lent.starts_lent;
          ends_lent = rw l.ends_same w.lent.ends_lent;
        };
        table_within = rw c.whole h;
        rows = rw c.whole r;
        points = subst (λ k. WellCounted k t) (sym c.whole) c;
        empty_is = rw c.whole e;
        sequence_most = w.sequence_most;
        classes_allowed = w.classes_allowed;
        counts_most = rw c.whole f;
        labels = w.labels;
      }

  pub with_labels_lem : (l : Labels) → LabelsSound p.header.classes p.header.capacity l → Sound (with_labels l p)
  with_labels_lem l s =
      record {
        bounds = w.bounds;
        rotation = w.rotation;
        lent = record { window_lent = w.lent.window_lent; counts_lent = w.lent.counts_lent; starts_lent = w.lent.starts_lent; ends_lent = w.lent.ends_lent };
        table_within = w.table_within;
        rows = w.rows;
        points = w.points;
        empty_is = w.empty_is;
        sequence_most = w.sequence_most;
        classes_allowed = w.classes_allowed;
        counts_most = w.counts_most;
        labels = λ on. s;
      }

  pub with_window_lem : (window : List E) (sequence : ℕ) → p.header.dimensions ≤ length window → sequence ≤ 4294967295 → Sound (with_window window sequence p)
  with_window_lem window sequence h k =
      record {
        bounds = w.bounds;
        rotation = w.rotation;
        lent = record { window_lent = h; counts_lent = w.lent.counts_lent; starts_lent = w.lent.starts_lent; ends_lent = w.lent.ends_lent };
        table_within = w.table_within;
        rows = w.rows;
        points = w.points;
        empty_is = w.empty_is;
        sequence_most = k;
        classes_allowed = w.classes_allowed;
        counts_most = w.counts_most;
        labels = w.labels;
      }
