-- Compaction of a store that is known to be well-formed.
use Rattle.std.specs.Prelude.{ℕ, ◌≤◌, List, [], true, ◌≡◌, length, take}
use Rattle.std.proofs.Common.{div-le_self, arith, ap, length-take-le}
use Rattle.placement.specs.Compaction.{Layout}
use Rattle.placement_rows.specs.Compactable.{Compactable, compacted_table}
use Rattle.store_definitions.specs.declared.Store.{Store}
use Rattle.store_definitions.specs.Memory.{Memory, PointStore, point_store, rows_alone}
use Rattle.store_definitions.specs.Lent.{held}
use Rattle.store_definitions.specs.Answers.{done, outcome}
use Rattle.store_definitions.specs.Parts.{base_of, table_length, Rows, rows_of, with_rows}
use Rattle.store_definitions.specs.Decisions.{form_decided}
use Rattle.store_definitions.specs.Rows.{compacted_rows, compact_spec}
use Rattle.store_definitions.specs.WellFormed.{well_formed}
use Rattle.store_laws.specs.BoundsLaws.{InBounds}
use Rattle.store_laws.specs.RowsLaws.{RowsOf}
use Rattle.store_laws.specs.Sound.{sound}

abbrev pub rows : List ℕ → List ℕ → (free store_length : ℕ) → Rows ℕ
rows elements location free store_length = record { elements = elements; location = location; free = free; store_length = store_length }

-- what compaction relies on
pub record RowsReady (s : Store) (elements location : List ℕ) : Type 0 where
  pub bounds : InBounds s.dimensions s.shingle_size s.capacity
  pub table_within : table_length s ≤ s.capacity
  pub sound_rows : RowsOf s (rows elements location s.start_free_region s.store_length)

pub rows_ready : (p : PointStore ℕ) → well_formed p ≡ true → RowsReady p.header p.memory.store p.memory.location
rows_ready p e =
    let w = sound p e in
    record { bounds = w.bounds; table_within = w.table_within; sound_rows = w.rows }

pub compactable : (s : Store) (elements location : List ℕ) → RowsReady s elements location → (table_length s ≤ length location) × Compactable s.dimensions (base_of s) (take (table_length s) location) s.start_free_region (length elements)
compactable s elements location r =
    let w = r.sound_rows in
    let lent : table_length s ≤ length location = omega (arith, r.table_within, w.places_lent) in (
      lent,
      record {
        well = w.well_placed;
        distinct = w.distinct_places;
        few = omega (arith, length-take-le (table_length s) location lent, r.table_within, r.bounds.capacity_most);
        near = omega (arith, div-le_self s.start_free_region (base_of s), w.free_inside, w.store_within, r.bounds.floats_most);
      },
    )

-- the rows of a store with nothing else of its memory
abbrev pub rows_held : Store → (elements location : List ℕ) → PointStore ℕ
rows_held s elements location = point_store s (rows_alone elements [] location)

-- a memory with other rows
abbrev pub with_elements : (elements location : List ℕ) → Memory ℕ → Memory ℕ
with_elements elements location m =
    held elements m.last_known_shingle m.reference_count location m.index_starts m.index_ends m.labels m.label_attributes m.label_count m.label_starts m.label_ends m.attributes m.attribute_count m.attribute_starts m.attribute_ends

-- compaction changes them and the free start
abbrev pub compacted_held : PointStore ℕ → PointStore ℕ
compacted_held p = with_rows (compacted_rows 0 p.header (rows_of p)) p

pub compacted_rows_lem : (s : Store) (elements location : List ℕ) (after : Layout ℕ) → after ≡ compacted_table s.dimensions (base_of s) s.internal_rotation (table_length s) elements location s.start_free_region → rows after.elements after.location after.free s.store_length ≡ compacted_rows 0 s (rows elements location s.start_free_region s.store_length)
unfolding compacted_table compacted_rows
compacted_rows_lem s elements location after e = ap (λ (l : Layout ℕ). rows l.elements l.location l.free s.store_length) e

pub held_compacted : (s : Store) (elements location : List ℕ) (after : Layout ℕ) → after ≡ compacted_table s.dimensions (base_of s) s.internal_rotation (table_length s) elements location s.start_free_region → with_rows (rows after.elements after.location after.free s.store_length) (rows_held s elements location) ≡ compacted_held (rows_held s elements location)
held_compacted s elements location after e =
    ap (λ (r : Rows ℕ). with_rows r (rows_held s elements location)) (compacted_rows_lem s elements location after e)

-- a well-formed store is compacted: with its rows, and with its elements and places
pub rows_compacted : (p : PointStore ℕ) (after : Rows ℕ) → well_formed p ≡ true → after ≡ compacted_rows 0 p.header (rows_of p) → outcome done (with_rows after p) ≡ compact_spec 0 p
unfolding compact_spec form_decided
rows_compacted p after w e = rw (w, e)

pub compact_done : (p : PointStore ℕ) (s : Store) (elements location : List ℕ) → well_formed p ≡ true → rows_held s elements location ≡ compacted_held (rows_held p.header p.memory.store p.memory.location) → outcome done (point_store s (with_elements elements location p.memory)) ≡ compact_spec 0 p
unfolding compact_spec form_decided
compact_done p s elements location w e =
    rw w (ap (λ (q : PointStore ℕ). outcome done (point_store q.header (with_elements q.memory.store q.memory.location p.memory))) e)
