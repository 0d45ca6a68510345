-- What the manager's is_empty ensures, carried to the lent number and the return value.
use mathlib.Core.List.{[], ◌∷◌}
use mathlib.Core.Path.{◌∙◌}
use Rattle.point_store_c.specs.ExportedLaws.{truth_lent}
use Rattle.point_store_c.proofs.ExportedStoreLaws.{truth_as_number}
use Rattle.point_store_c.proofs.manager.ps_manager_is_empty.Goals as goal

pub returns : goal.returns
returns c =
    let x = c.args.empty.now in
    let g = c.is_empty-answer in
    let o = c.number_out in
    cc (truth_lent g.result x o.result o.new.number (o.ensures ∙ truth_as_number g.result c.map.result c.map.ensures.cases (x ∷ [])))
