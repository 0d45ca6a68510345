-- What the manager's get_capacity ensures, carried to the lent number and the return value.
use Rattle.point_store_c.specs.ExportedLaws.{number_lent}
use Rattle.point_store_c.proofs.manager.ps_manager_get_capacity.Goals as goal

pub returns : goal.returns
returns c =
    let o = c.number_out in
    cc (number_lent c.get_capacity-answer.result c.args.capacity.now o.result o.new.number o.ensures)
