-- The room that an add makes, branch by branch; what growth fills; the row before and after the window moves.
use Prim.Native.Nat.{ℕ, ◌+◌, ◌*◌, ◌-◌, ◌/◌, ◌≤◌, ◌<◌}
use native.Mathlib.Nat.{le_of_eq, le_of_dvd, div-le_self}
use native.Mathlib.Omega.{arith}
use mathlib.Core.Bool.{Bool, true, false, cond}
use mathlib.Core.List.{List, ◌++◌}
use mathlib.Core.Path.{◌≡◌, refl, sym, ◌∙◌, ap, ap₂, subst}
use lib.ListN.{length, take, drop, replicate, length-replicate, length-append, length-drop}
use lib.Seq.{take_all, take_at, length-take-le}
use borrow.Author.Tests.{lt-ltb, le-ltb}
use Rattle.float_bits.specs.Words.{words_equal}
use Rattle.placement.specs.Compaction.{Layout}
use Rattle.placement.specs.Growth.{grown, grown_within_lem}
use Rattle.placement.specs.InPlace.{filled}
use Rattle.placement.specs.Laying.{written_count}
use Rattle.placement.specs.Overlap.{overlaps}
use Rattle.placement.specs.Row.{row_to_lay, moved_window}
use Rattle.placement_rows.specs.Compactable.{Compactable, layout, compacted_table}
use Rattle.placement_rows.specs.Layable.{Layable}
use Rattle.store_definitions.specs.declared.Store.{Store}
use Rattle.store_definitions.specs.Parts.{base_of, table_length, Rows}
use Rattle.store_definitions.specs.Adding.{point_length, joins, overflows}
use Rattle.store_definitions.specs.Rows.{compacted_rows, grown_rows, short, room_made}
use Rattle.store_laws.specs.BoundsLaws.{InBounds, base_divides}
use Rattle.store_laws.specs.RowsLaws.{RowsOf, compacted_sound, room_sound}
use Rattle.store_add.specs.Pieces.{rows_at, rows_in, with_extent, joined_if_fits, window_moved, row_from}
use Rattle.terms.specs.declared.Refusal.TheVariants.{FloatSpaceFull}
use Rattle.std.specs.Prelude.{Ok, Err}
use Rattle.store_add.specs.Requires.{Roomy, Rowed}

-- entries filled one by one are entries replaced at once
pub fill_is : {E : Type 0} (x : E) (from to : ℕ) (xs : List E) → from ≤ to → filled x from (to - from) xs ≡ take from xs ++ replicate (to - from) x ++ drop to xs
fill_is {E} x from to xs h =
    let n : ℕ = to - from in
    ap (λ (l : List E). take from xs ++ l ++ drop (from + n) xs) (take_all n (replicate n x) (le_of_eq (length-replicate n x)))
    ∙ ap (λ (k : ℕ). take from xs ++ replicate n x ++ drop k xs) (let e : from + n ≡ to = omega arith in e)

-- base is at most dimensions
pub base_most : (dims shingle capacity : ℕ) → InBounds dims shingle capacity → dims / shingle ≤ dims
base_most dims shingle capacity b = le_of_dvd b.dims_least (base_divides dims shingle capacity b)

module _ (s : Store) (elements location : List ℕ) where
  abbrev before : Rows ℕ
  before = rows_in s elements location

  abbrev compact : Rows ℕ
  compact = compacted_rows 0 s before

  pub room_is : s.start_free_region + s.dimensions ≤ s.store_length → before ≡ room_made 0 s before
  unfolding room_made short
  room_is h = rw (le-ltb s.store_length (s.start_free_region + s.dimensions) h)

  -- what compaction leaves, as rows
  pub compact_is : (e l : List ℕ) (free : ℕ) → layout e l free ≡ compacted_table s.dimensions (base_of s) s.internal_rotation (table_length s) elements location s.start_free_region → rows_at free s.store_length e l ≡ compact
  unfolding compacted_table compacted_rows
  compact_is e l free h = ap (λ (t : Layout ℕ). rows_at t.free s.store_length t.elements t.location) h

  module _ (full : s.store_length < s.start_free_region + s.dimensions) (e l : List ℕ) (free : ℕ) (h : rows_at free s.store_length e l ≡ compact) where
    pub room_compacted : free + s.dimensions ≤ s.store_length → rows_at free s.store_length e l ≡ room_made 0 s before
    unfolding room_made short
    room_compacted g =
        h
        ∙ rw (lt-ltb s.store_length (s.start_free_region + s.dimensions) full, sym h, le-ltb s.store_length (free + s.dimensions) g)

    pub room_grown : s.store_length < free + s.dimensions → (e' : List ℕ) (longer : ℕ) → longer ≡ grown s.store_length s.dimensions (s.capacity * s.dimensions) → s.store_length ≤ longer → e' ≡ filled 0 s.store_length (longer - s.store_length) e → rows_at free longer e' l ≡ room_made 0 s before
    unfolding room_made short grown_rows
    room_grown g e' longer q m f =
        rw (lt-ltb s.store_length (s.start_free_region + s.dimensions) full, sym h, lt-ltb s.store_length (free + s.dimensions) g, sym q, f)
        (ap (λ (x : List ℕ). rows_at free longer x l) (fill_is 0 s.store_length longer e m))

  -- what compaction asks
  pub compactable : Roomy s elements location → Compactable s.dimensions (base_of s) (take (table_length s) location) s.start_free_region (length elements)
  compactable w =
      let r = w.rows in
      record {
        well = r.well_placed;
        distinct = r.distinct_places;
        few = omega (arith, length-take-le (table_length s) location (omega (arith, w.table_within, r.places_lent)), w.table_within, w.bounds.capacity_most);
        near = omega (arith, div-le_self s.start_free_region (base_of s), r.free_inside, r.store_within, w.bounds.floats_most);
      }

-- the row that is laid is as long as dimensions
module _ (s : Store) (window point : List ℕ) (w : Rowed s window point) where
  abbrev dims : ℕ
  dims = s.dimensions

  abbrev base : ℕ
  base = base_of s

  base_le : base ≤ dims
  base_le = base_most dims s.shingle_size s.capacity w.bounds

  whole : base + (dims - base) ≡ dims
  whole = omega (arith, base_le)

  abbrev moved : List ℕ
  moved = moved_window base (take dims window) point

  pub sized_on : s.internal_shingling ≡ true → length point ≡ base
  unfolding point_length
  sized_on on = w.sized ∙ rw on

  pub sized_off : s.internal_shingling ≡ false → length point ≡ dims
  unfolding point_length
  sized_off off = w.sized ∙ rw off

  moved_length : s.internal_shingling ≡ true → length moved ≡ dims
  unfolding moved_window
  moved_length on =
      rw (length-append (drop base (take dims window)) point, length-drop base (take dims window), length-take-le dims window w.window_lent)
      (omega (arith, sized_on on, base_le))

  -- before the window moves
  pub row_lent : base + (dims - base) ≤ length (row_to_lay s.internal_shingling window point)
  unfolding row_to_lay
  row_lent = split s.internal_shingling refl
    where
      split : (b : Bool) → s.internal_shingling ≡ b → base + (dims - base) ≤ length (cond b window point)
      split true e = omega (arith, whole, w.window_lent)
      split false e = omega (arith, whole, sized_off e)

  pub row_before : row_to_lay s.internal_shingling (moved_window base (take (base + (dims - base)) window) point) point ≡ row_from s window point
  unfolding row_to_lay row_from window_moved
  row_before = split s.internal_shingling refl
    where
      split : (b : Bool) → s.internal_shingling ≡ b → cond b (moved_window base (take (base + (dims - base)) window) point) point ≡ cond b (take dims (cond b (moved ++ drop dims window) window)) point
      split true e =
          ap (λ (n : ℕ). moved_window base (take n window) point) whole
          ∙ sym (take_at moved (drop dims window) dims (moved_length e))
      split false e = refl

  -- after it
  pub row_after : (window' : List ℕ) → window' ≡ window_moved s window point → take dims (row_to_lay s.internal_shingling window' point) ≡ row_from s window point
  unfolding row_to_lay row_from
  row_after window' h = rw h (split s.internal_shingling refl)
    where
      split : (b : Bool) → s.internal_shingling ≡ b → take dims (cond b (window_moved s window point) point) ≡ cond b (take dims (window_moved s window point)) point
      split true e = refl
      split false e = take_all dims point (le_of_eq (sized_off e))

  window_length : dims ≤ length (window_moved s window point)
  unfolding window_moved
  window_length = split s.internal_shingling refl
    where
      split : (b : Bool) → s.internal_shingling ≡ b → dims ≤ length (cond b (moved ++ drop dims window) window)
      split true e = rw (length-append moved (drop dims window)) (omega (arith, moved_length e))
      split false e = w.window_lent

  pub row_sized : (window' : List ℕ) → window' ≡ window_moved s window point → dims ≤ length (row_to_lay s.internal_shingling window' point)
  unfolding row_to_lay
  row_sized window' h = rw h (split s.internal_shingling refl)
    where
      split : (b : Bool) → s.internal_shingling ≡ b → dims ≤ length (cond b (window_moved s window point) point)
      split true e = window_length
      split false e = le_of_eq (sym (sized_off e))

  pub row_length : length (row_from s window point) ≡ dims
  unfolding row_from row_to_lay
  row_length = split s.internal_shingling refl
    where
      split : (b : Bool) → s.internal_shingling ≡ b → length (cond b (take dims (window_moved s window point)) point) ≡ dims
      split true e = length-take-le dims (window_moved s window point) window_length
      split false e = sized_off e

  -- the test for overlap, made before the window moves
  pub joins_are : (r : Rows ℕ) (j : Bool) → j ≡ overlaps words_equal s.shingle_size (dims - base) r.free r.elements (row_to_lay s.internal_shingling (moved_window base (take (base + (dims - base)) window) point) point) → j ≡ joins words_equal s r (row_from s window point)
  unfolding joins
  joins_are r j h = h ∙ ap (overlaps words_equal s.shingle_size (dims - base) r.free r.elements) row_before

  -- and by the record that the room left
  pub joins_after : (s' : Store) (e l : List ℕ) → s' ≡ with_extent s'.start_free_region s'.store_length s → (j : Bool) → j ≡ overlaps words_equal s'.shingle_size (dims - base) s'.start_free_region e (row_to_lay s'.internal_shingling (moved_window base (take (base + (dims - base)) window) point) point) → j ≡ joins words_equal s (rows_in s' e l) (row_from s window point)
  joins_after s' e l f j h =
      joins_are (rows_in s' e l) j
      (h
      ∙ ap₂
      (λ (n : ℕ) (b : Bool). overlaps words_equal n (dims - base) s'.start_free_region e (row_to_lay b (moved_window base (take (base + (dims - base)) window) point) point))
      (ap (λ (x : Store). x.shingle_size) f)
      (ap (λ (x : Store). x.internal_shingling) f))

-- whether the row fits
module _ (s : Store) (r : Rows ℕ) (row : List ℕ) (j : Bool) (n : ℕ) (e : j ≡ joins words_equal s r row) (f : n ≡ written_count s.dimensions (base_of s) j) where
  pub fits_then : r.free + n ≤ r.store_length → Ok j ≡ joined_if_fits words_equal s r row
  unfolding joined_if_fits overflows
  fits_then h = rw (sym e, sym f, le-ltb r.store_length (r.free + n) h)

  pub fits_not : r.store_length < r.free + n → Err FloatSpaceFull ≡ joined_if_fits words_equal s r row
  unfolding joined_if_fits overflows
  fits_not h = rw (sym e, sym f, lt-ltb r.store_length (r.free + n) h)

pub written_most : (dims base : ℕ) (j : Bool) → base ≤ dims → written_count dims base j ≤ dims
unfolding written_count
written_most dims base true h = h
written_most dims base false h = omega arith

pub grown_fits : (n least limit new : ℕ) → n ≤ limit → new ≡ grown n least limit → (n ≤ new) × (new ≤ limit)
grown_fits n least limit new h e = rw e (grown_within_lem n least limit h)

module _ (s : Store) (elements location : List ℕ) (w : Roomy s elements location) (e l : List ℕ) (free store_length : ℕ) where
  pub compact_sound : rows_at free store_length e l ≡ compacted_rows 0 s (rows_in s elements location) → RowsOf s (rows_at free store_length e l)
  compact_sound h = subst (RowsOf s) (sym h) (compacted_sound 0 s w.table_within (rows_in s elements location) w.rows)

  pub room_rows : rows_at free store_length e l ≡ room_made 0 s (rows_in s elements location) → RowsOf s (rows_at free store_length e l)
  room_rows h = subst (RowsOf s) (sym h) (room_sound 0 s w.table_within (rows_in s elements location) w.rows)

-- the window moved by the point's length
pub moved_on : (s : Store) (window point : List ℕ) → Rowed s window point → s.internal_shingling ≡ true → (window' : List ℕ) → window' ≡ moved_window (length point) (take s.dimensions window) point ++ drop s.dimensions window → window' ≡ window_moved s window point
unfolding window_moved
moved_on s window point w on window' h =
    rw on (h ∙ ap (λ (n : ℕ). moved_window n (take s.dimensions window) point ++ drop s.dimensions window) (sized_on s window point w on))

-- a row of the right length can be laid where one of dimensions can
pub lay_asks : (dims base : ℕ) (j : Bool) (free n row : ℕ) → Layable dims base j free dims n → row ≡ dims → Layable dims base j free row n
lay_asks dims base j free n row l e =
    record { whole = e; some_base = l.some_base; wide = l.wide; shared = l.shared; room = l.room }
