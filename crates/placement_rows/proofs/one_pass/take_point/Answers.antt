-- The run is the definition's, and so is what its copy leaves; the quotients go on.
use Rattle.std.proofs.Common.{ℕ, ◌+◌, ◌*◌, length, sym, ap, ◌∙◌, subst}
use Rattle.placement.specs.Scanned.{ScanState, advanced}
use Rattle.placement_rows.specs.OnePass.{scan, met, Copyable}
use Rattle.placement_rows.specs.declared.one_pass.Run.{Run}
use Rattle.placement_rows.proofs.OneRun.{carried_on}
use Rattle.placement_rows.proofs.one_pass.take_point.Goals as goal

pub returns : goal.returns
unfolding met
returns c =
    let start = c in
    let a = start.args in
    let run = c.next_run-run.result in
    let copyable = subst (λ (run : Run). Copyable a.shape.dimensions a.shape.base run (a.place * a.shape.base + a.shape.dimensions) a.index a.done.free (length a.store.now) (length a.location.now)) (sym c.next_run-run.ensures) start.requires.1.1 in
    let wrote = c.copy_run-free.ensures in
    (wrote ∙ ap (λ (r : Run). advanced 0 a.shape.dimensions a.shape.base r.zeros r.from (a.place * a.shape.base + a.shape.dimensions) a.index (scan a.store.now a.location.now a.done)) c.next_run-run.ensures, carried_on a.shape.dimensions a.shape.base a.shingle_size a.place a.index a.done.free (length a.store.now) (length a.location.now) run start.requires.1.0.0.some_base start.requires.0 copyable c.copy_run-free.result (ap (λ (t : ScanState ℕ). t.free) wrote))
