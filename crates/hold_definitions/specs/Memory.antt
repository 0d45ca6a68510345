-- A hold is record and lent memory: that of its store, and two tables more. The element of the rows is a parameter.
use Rattle.std.specs.Prelude.{ℕ, List, take}
use Rattle.store_definitions.specs.Memory.{Memory, PointStore, point_store}
use Rattle.hold_definitions.specs.declared.Hold.{Hold}

pub record HoldMemory (E : Type 0) : Type 0 where
  pub store : Memory E
  -- point indices, oldest first
  pub held_indices : List ℕ
  -- their label indices
  pub held_labels : List ℕ

pub record PointHold (E : Type 0) : Type 0 where
  pub header : Hold
  pub memory : HoldMemory E

module _ {E : Type 0} where
  abbrev pub point_hold : Hold → HoldMemory E → PointHold E
  point_hold r m = record { header = r; memory = m }

  -- the store inside
  abbrev pub store_of : PointHold E → PointStore E
  store_of h = point_store h.header.store h.memory.store

  -- the list: the held indices, and their labels. Entries past them are free
  abbrev pub indices_of : PointHold E → List ℕ
  indices_of h = take h.header.held h.memory.held_indices

  abbrev pub labels_of : PointHold E → List ℕ
  labels_of h = take h.header.held h.memory.held_labels
