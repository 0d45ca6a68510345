-- Each return follows from the tests that led to it.
use Rattle.std.proofs.Common.{length, take, sym, ◌∙◌}
use Rattle.std.proofs.Math.Seq.{take-length}
use Rattle.hold_check.specs.CheckLaws.{list_holds}
use Rattle.hold_check.proofs.PartLaws.{once_part}
use Rattle.hold_check.proofs.list.list_well.Goals as goal

pub returns-then-store_labels : goal.returns-then-store_labels
unfolding list_holds
returns-then-store_labels c =
    let a = c.args in
    let on = c.requires.1 c.if-store_labels.true in
    rw (take-length a.list.now, sym c.points_once.ensures ∙ c.if-points_once.true, c.if-store_labels.true)
    (c.listed_once.ensures ∙ once_part a.capacity a.label_count.now on.1.0 (take (length a.list.now) a.held_labels.now))
