-- A row laid in rows that have room for it leaves sound rows, before and after an index has its place.
use Rattle.std.specs.Prelude.{ℕ, ◌+◌, ◌*◌, ◌≤◌, ◌<◌, Bool, false, List, ◌≡◌, length}
use Rattle.std.proofs.Common.{arith, length-set}
use Rattle.std.proofs.Math.Logic.{inr}
use Rattle.std.proofs.Math.Path.{refl}
use Rattle.std.proofs.Math.ListN.{take, set}
use Rattle.std.proofs.Math.Seq.{take-set-lt}
use borrow.Author.Tests.{ltb-false}
use Rattle.placement.specs.Laying.{written_count, laid_as, laid_elements, laid_free, place_of}
use Rattle.placement.proofs.LayingLaws.{LayingKeeps, laying_keeps, well_laid, distinct_laid}
use Rattle.store_definitions.specs.declared.Store.{Store}
use Rattle.store_definitions.specs.Parts.{base_of, Rows}
use Rattle.store_definitions.specs.Adding.{joins, overflows, laid_rows, laid_how}
use Rattle.store_laws.specs.BoundsLaws.{InBounds}
use Rattle.store_laws.specs.Sound.{RowsSound}
use Rattle.store_laws.specs.RowsLaws.{RowsOf}
use Rattle.store_laws.specs.PointsLaws.{with_places}

module _ {E : Type 0} (eq : E → E → Bool) (s : Store) (r : Rows E) (row : List E) (b : InBounds s.dimensions s.shingle_size s.capacity) (w : RowsOf s r) (sized : length row ≡ s.dimensions) (room : overflows eq s r row ≡ false) where
  abbrev dims : ℕ
  dims = s.dimensions

  abbrev base : ℕ
  base = base_of s

  abbrev j : Bool
  j = joins eq s r row

  abbrev after : List E
  after = laid_elements dims base j r.free r.elements row

  abbrev place : ℕ
  place = place_of (laid_as dims base j r.free)

  written : laid_free dims base j r.free ≤ r.store_length
  unfolding overflows laid_free
  written = ltb-false r.store_length (r.free + written_count dims base j) room

  pub laying : LayingKeeps eq dims base j r.free r.elements row after
  unfolding joins laid_free
  laying =
      laying_keeps eq dims base s.shingle_size r.free r.elements row w.well_placed.shaped w.free_whole sized j refl
      (omega (arith, written, w.store_within, w.floats_lent))

  small : laid_free dims base j r.free + dims ≤ 65535
  small = omega (arith, written, w.store_within, b.floats_most, b.dims_most)

  inside : laid_free dims base j r.free ≤ length r.elements
  inside = omega (arith, written, w.store_within, w.floats_lent)

  -- the free start has moved on, and no point has the row yet
  pub laid_sound : RowsOf s (laid_rows eq s r row)
  unfolding laid_rows
  laid_sound =
      record {
        floats_lent = rw laying.length_kept w.floats_lent;
        places_lent = w.places_lent;
        store_within = w.store_within;
        free_whole = laying.free_whole;
        free_started = inr (omega (arith, laying.ends));
        free_inside = written;
        well_placed = record {
          shaped = w.well_placed.shaped;
          small = small;
          inside = rw laying.length_kept inside;
          ends = λ i l. omega (arith, w.well_placed.ends i l, laying.rises);
        };
        distinct_places = w.distinct_places;
      }

  -- the new place is none of the empty ones
  pub laid_place : place_of (laid_how eq s r row) ≡ 65535 → ⊥
  unfolding laid_how
  laid_place e =
      let ends : 65535 * base + dims ≡ laid_free dims base j r.free = rw e at laying.ends in
      omega (arith, small, w.well_placed.shaped.some_base)

  -- index i has the row, among the first m of other places of the same rows
  pub laid_placed : (m : ℕ) (location : List ℕ) (i : ℕ) → RowsSound dims base s.capacity m (with_places location r) → i < m → RowsSound dims base s.capacity m (with_places (set location i (place_of (laid_how eq s r row))) (laid_rows eq s r row))
  unfolding laid_rows laid_how
  laid_placed m location i v l =
      let at : take m (set location i place) ≡ set (take m location) i place = take-set-lt m location i place l in
      record {
        floats_lent = rw laying.length_kept w.floats_lent;
        places_lent = rw (length-set location i place) v.places_lent;
        store_within = w.store_within;
        free_whole = laying.free_whole;
        free_started = inr (omega (arith, laying.ends));
        free_inside = written;
        well_placed = rw at (well_laid eq dims base j r.free r.elements row after laying (take m location) i v.well_placed small inside);
        distinct_places = rw at (distinct_laid eq dims base j r.free r.elements row after laying (take m location) i v.well_placed v.distinct_places);
      }
