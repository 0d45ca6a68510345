-- What the store's reading ensures, carried to the lent number and the return value.
use mathlib.Core.List.{[], ◌∷◌}
use Rattle.point_store_c.proofs.ExportedStoreLaws.{truth_as_number}
use Rattle.point_store_c.proofs.readings.ps_is_equal.Goals as goal

pub returns : goal.returns
returns c =
    cc (c.new-tables.ensures c.args.store.now c.args.last_known_shingle.now, truth_as_number c.is_equal-answer.result c.map.result c.map.ensures.cases (c.args.equal.now ∷ []))
