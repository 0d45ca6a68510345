-- The code is the definition.
use mathlib.Core.Path.{refl}
use Rattle.store_check.specs.Entries.{entry_well}
use Rattle.store_check.proofs.points.entry_well.Goals as goal

pub returns : goal.returns
unfolding entry_well
returns c = refl
