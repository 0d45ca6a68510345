-- A well-formed manager's capacity is at most the table's length.
use native.Mathlib.Omega.{arith}
use mathlib.Core.Path.{sym, ◌∙◌}
use Rattle.interval_store_manager.specs.MarkLaws.{unmarked, checked_ok}
use Rattle.interval_store_manager.specs.Sound.{sound}
use Rattle.interval_store_manager.proofs.decide.release_decision.Goals as goal

pub mark_free-requires : goal.mark_free-requires
mark_free-requires c = (λ h. h, unmarked 1024)

pub bounds-marks-index : goal.bounds-marks-index
bounds-marks-index c =
    let w = (checked_ok c.args.m c.args.starts.now c.args.ends.now c.mark_free.result _ c.in_ok-ok_or.field-0 c.mark_free.ensures.is (sym c.ok_or.ensures.value ∙ c.in_ok-ok_or.was)).0 in
    omega (arith, (sound c.args.m c.args.starts.now c.args.ends.now w).most)
