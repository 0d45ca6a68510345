-- What the manager's change_capacity ensures, carried to the record and the return value.
use Rattle.interval_store_manager.specs.Calls.{change_spec}
use Rattle.point_store_c.specs.ExportedLaws.{changed_long, change_refuses}
use Rattle.point_store_c.proofs.manager.ps_manager_change_capacity.Goals as goal

pub changed_out-requires : goal.changed_out-requires
changed_out-requires c =
    let a = c.args in
    let i = c.manager_in-m in
    let g = c.change_capacity-answer in
    changed_long (λ m. change_spec m a.starts.now a.ends.now a.new_capacity)
    a.words.now i.result g.new.self g.new.starts g.new.ends g.result i.ensures g.ensures
    (change_refuses a.starts.now a.ends.now a.new_capacity)
