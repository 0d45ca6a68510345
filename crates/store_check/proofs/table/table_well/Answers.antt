-- A table is no longer than the store's capacity.
use native.Mathlib.Omega.{arith}
use Rattle.store_laws.specs.BoundsLaws.{in_bounds}
use Rattle.store_check.proofs.table.table_well.Goals as goal

pub well_in-requires-2 : goal.well_in-requires-2
well_in-requires-2 c =
    let s = c.args.s in
    let r = c.requires in
    (omega arith, (r, omega (arith, r.table_within, (in_bounds s.dimensions s.shingle_size s.capacity r.bounds).capacity_most)))
