-- Document 02, Point 3, of a whole store: 'after each step floats, places so far and write position are what compaction would leave were
-- no later point live', for every well-formed store, rotating or not, and every number of steps. `scanned` is what the loop of the code
-- holds (`scan_places` in placement_rows has it as its invariant).
use Prim.Native.Nat.{ℕ, ◌/◌, ◌<◌}
use Rattle.std.proofs.Common.{arith, sym, ◌∙◌, get_or-take}
use Rattle.std.specs.Prelude.{true, ◌≡◌, get_or}
use mathlib.Core.List.{List, ◌++◌}
use Rattle.std.proofs.Math.ListN.{length, take, drop, length-map, get_or-append}
use Rattle.std.proofs.Math.Seq.{length-take-le, take_at}
use Rattle.placement.specs.Compaction.{Layout, settled, compacted}
use Rattle.placement.proofs.EachStep.{reached, each_step}
use Rattle.placement.proofs.NoLater.{no_later, AsCompacted}
use Rattle.placement.specs.Scanned.{ScanState}
use Rattle.placement.proofs.ScannedLaws.{scanned}
use Rattle.store_definitions.specs.declared.Store.{Store}
use Rattle.store_definitions.specs.Memory.{PointStore}
use Rattle.store_definitions.specs.Parts.{base_of, table_length, Rows}
use Rattle.store_definitions.specs.Rows.{compacted_rows}
use Rattle.store_definitions.specs.WellFormed.{well_formed}
use Rattle.store_laws.specs.Sound.{Sound, sound}

-- the rows of a store, were every point at place q or later dead
unfoldable pub later_dead : {E : Type 0} → ℕ → PointStore E → Rows E
later_dead q p =
    let n = table_length p.header in
    record {
      elements = p.memory.store;
      location = no_later q (take n p.memory.location) ++ drop n p.memory.location;
      free = p.header.start_free_region;
      store_length = p.header.store_length;
    }

-- compaction keeps how many places there are
places_kept : {E : Type 0} (zero_element : E) (s : Store) (elements : List E) (location : List ℕ) → length (compacted zero_element s.dimensions (base_of s) s.internal_rotation elements location s.start_free_region).location ≡ length location
unfolding compacted settled
places_kept zero_element s elements location = length-map location _

module _ {E : Type 0} (zero_element : E) (p : PointStore E) where
  abbrev s : Store
  s = p.header

  abbrev listed : List ℕ
  listed = take (table_length s) p.memory.location

  -- the place that k steps reach, and what stands there then
  abbrev pub place : ℕ → ℕ
  place k = reached listed (s.start_free_region / base_of s) k

  abbrev pub stepped : ℕ → ScanState E
  stepped k = scanned zero_element s.dimensions (base_of s) s.internal_rotation p.memory.store listed (place k)

  abbrev pub were_no_later : ℕ → Rows E
  were_no_later k = compacted_rows zero_element s (later_dead (place k) p)

  -- what k steps leave is what compaction would, were no later point live
  pub record Leaves (k : ℕ) : Type 0 where
    pub floats : (stepped k).elements ≡ (were_no_later k).elements
    pub places_so_far : (i : ℕ) → i < table_length s → get_or p.memory.location i 65535 < place k
        → get_or (stepped k).location i 65535 ≡ get_or (were_no_later k).location i 65535
    pub write_position : (stepped k).free ≡ (were_no_later k).free

  pub each_step_leaves : well_formed p ≡ true → (k : ℕ) → Leaves k
  unfolding compacted_rows later_dead no_later
  each_step_leaves f k =
      let w : Sound p = sound p f in
      let n : ℕ = table_length s in
      let location : List ℕ = p.memory.location in
      let long : length listed ≡ n = length-take-le n location (omega (arith, w.rows.places_lent, w.table_within)) in
      let dead : List ℕ = no_later (place k) listed in
      let counted : length dead ≡ n = length-map listed _ ∙ long in
      let front : take n (dead ++ drop n location) ≡ dead = take_at dead (drop n location) n counted in
      let l : Layout E = compacted zero_element s.dimensions (base_of s) s.internal_rotation p.memory.store dead s.start_free_region in
      let a : AsCompacted (place k) listed _ l = each_step zero_element s.dimensions (base_of s) s.internal_rotation p.memory.store listed s.start_free_region w.rows.well_placed k in
      record {
        floats = rw front a.elements;
        places_so_far = λ i h before.
            a.places i (omega (arith, long)) (rw (get_or-take n location i 65535 h) before)
            ∙ (rw front (sym (get_or-append l.location _ 65535 i (omega (arith, places_kept zero_element s p.memory.store dead, counted)))));
        write_position = rw front a.free;
      }
