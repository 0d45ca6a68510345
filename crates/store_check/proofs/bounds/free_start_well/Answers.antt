-- The bounds give a base of at least 1; the tests are those of the definition.
use mathlib.Core.Path.{refl}
use Rattle.store_definitions.specs.WellFormed.{free_start_well}
use Rattle.store_laws.specs.BoundsLaws.{in_bounds, base_some}
use Rattle.store_check.proofs.bounds.free_start_well.Goals as goal

pub base-requires : goal.base-requires
base-requires c = (in_bounds c.args.s.dimensions c.args.s.shingle_size c.args.s.capacity c.requires).shingle_least

pub nonzero_rem-result : goal.nonzero_rem-result
nonzero_rem-result c = rw c.base.ensures (base_some c.args.s.dimensions c.args.s.shingle_size c.args.s.capacity (in_bounds c.args.s.dimensions c.args.s.shingle_size c.args.s.capacity c.requires))

pub returns : goal.returns
unfolding free_start_well
returns c = rw c.base.ensures refl
