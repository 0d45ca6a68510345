-- What the parts of an add ask of their callers.
use Rattle.std.specs.Prelude.{ℕ, ◌-◌, ◌≤◌, ◌<◌, true, List, ◌≡◌, length}
use Rattle.labels.specs.declared.LabelsFree.{LabelsFree}
use Rattle.labels.specs.Counted.{Counted, free_indices}
use Rattle.labels.specs.CountedLaws.{WellCounted}
use Rattle.labels.specs.Forms.{FreeOf}
use Rattle.labels.specs.Labels.{Labels, labels_well}
use Rattle.store_definitions.specs.declared.Store.{Store}
use Rattle.store_definitions.specs.Parts.{table_length}
use Rattle.store_definitions.specs.Adding.{point_length}
use Rattle.store_laws.specs.BoundsLaws.{InBounds}
use Rattle.store_laws.specs.RowsLaws.{RowsOf}
use Rattle.store_add.specs.Pieces.{rows_in, grown_table}

-- rows in which room can be made
pub record Roomy (s : Store) (elements location : List ℕ) : Type 0 where
  pub bounds : InBounds s.dimensions s.shingle_size s.capacity
  pub table_within : table_length s ≤ s.capacity
  pub rows : RowsOf s (rows_in s elements location)

-- a window and a point of the shape
pub record Rowed (s : Store) (window point : List ℕ) : Type 0 where
  pub bounds : InBounds s.dimensions s.shingle_size s.capacity
  pub window_lent : s.dimensions ≤ length window
  pub sized : length point ≡ point_length s

-- a label can be taken, with labels on; so many are free
pub record Labelled (s : Store) (l : Labels) (code : ℕ) (free : LabelsFree) : Type 0 where
  pub well : labels_well s.classes s.capacity l ≡ true
  pub coded : code ≤ 23
  pub some : 0 < s.label_manager.last_in_use
  pub figures : FreeOf free l

-- a table that can grow in what is lent
pub record Growable (capacity : ℕ) (t : Counted) (location : List ℕ) : Type 0 where
  pub well : WellCounted t.manager.capacity t
  pub within : t.manager.capacity ≤ capacity
  pub capacity_most : capacity ≤ 1024
  pub counts_lent : capacity ≤ length t.counts
  pub starts_lent : capacity ≤ length t.starts
  pub ends_lent : capacity ≤ length t.ends
  pub places_lent : capacity ≤ length location

-- a table of which an index can be taken, and in which so many are free
pub record Takeable (t : Counted) (location : List ℕ) (free : ℕ) : Type 0 where
  pub well : WellCounted t.manager.capacity t
  pub some : 0 < t.manager.last_in_use
  pub places_lent : t.manager.capacity ≤ length location
  pub figure : free ≡ free_indices t

-- once it has grown, if it had to; so many are live
pub record IndexReady (capacity : ℕ) (t : Counted) (location : List ℕ) (place live : ℕ) : Type 0 where
  pub growable : Growable capacity t location
  pub well : WellCounted (grown_table capacity t).manager.capacity (grown_table capacity t)
  pub some : 0 < (grown_table capacity t).manager.last_in_use
  pub within : (grown_table capacity t).manager.capacity ≤ capacity
  pub small : place ≤ 65535
  pub live_within : live ≤ (grown_table capacity t).manager.capacity
  pub figure : free_indices (grown_table capacity t) ≡ (grown_table capacity t).manager.capacity - live
