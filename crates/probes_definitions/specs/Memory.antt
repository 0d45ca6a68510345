-- A product is record and lent memory, and the memory is its store's. The element of the rows is a parameter.
use Rattle.std.specs.Prelude.{◌-◌, List, take, drop}
use Rattle.store_definitions.specs.Memory.{Memory, PointStore, point_store}
use Rattle.probes_definitions.specs.declared.Probes.{Probes}

pub record PointProbes (E : Type 0) : Type 0 where
  pub header : Probes
  pub memory : Memory E

module _ {E : Type 0} where
  abbrev pub point_probes : Probes → Memory E → PointProbes E
  point_probes r m = record { header = r; memory = m }

  -- the store inside
  abbrev pub store_of : PointProbes E → PointStore E
  store_of p = point_store p.header.store p.memory

  -- 'The last floats are the window's last eight'. A lent window may be longer than dimensions
  unfoldable pub last_floats : PointStore E → List E
  last_floats p = drop (p.header.dimensions - 8) (take p.header.dimensions p.memory.last_known_shingle)
