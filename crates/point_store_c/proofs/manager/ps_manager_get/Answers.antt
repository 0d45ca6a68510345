-- What the manager's get ensures, carried to the record, the lent number and the return value.
use mathlib.Core.Path.{refl, ap}
use Rattle.interval_store_manager.specs.Answers.{given, got_means}
use Rattle.interval_store_manager.specs.Calls.{get_spec}
use Rattle.point_store_c.specs.ExportedLaws.{accepted_long, get_refuses}
use Rattle.point_store_c.proofs.manager.ps_manager_get.Goals as goal

pub manager_out-requires : goal.manager_out-requires
manager_out-requires c =
    let a = c.args in
    let i = c.manager_in-m in
    let g = c.get in
    accepted_long (λ m. get_spec m a.starts.now a.ends.now)
    a.words.now i.result g.new.self g.new.starts a.ends.now (got_means g.result) (given c.in-Ok.given.index c.in-Ok.given.free)
    (get_refuses a.starts.now a.ends.now) i.ensures g.ensures
    (ap got_means c.in-Ok.is) refl
