-- What the manager's release ensures, carried to the record and the return value.
use Rattle.interval_store_manager.specs.Calls.{release_spec}
use Rattle.point_store_c.specs.ExportedLaws.{changed_long, release_refuses}
use Rattle.point_store_c.proofs.manager.ps_manager_release.Goals as goal

pub changed_out-requires : goal.changed_out-requires
changed_out-requires c =
    let a = c.args in
    let i = c.manager_in-m in
    let g = c.release-answer in
    changed_long (λ m. release_spec m a.starts.now a.ends.now a.index)
    a.words.now i.result g.new.self g.new.starts g.new.ends g.result i.ensures g.ensures
    (release_refuses a.starts.now a.ends.now a.index)
