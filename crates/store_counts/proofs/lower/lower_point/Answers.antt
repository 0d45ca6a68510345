-- The two returns are the two forms of one count less.
use Rattle.labels.specs.CountedLaws.{lowered_released, lowered_kept}
use Rattle.store_definitions.specs.Lent.{point_counts, points_lent}
use Rattle.store_counts.specs.CallLaws.{emptied_last, emptied_kept}
use Rattle.store_counts.proofs.lower.lower_point.Goals as goal

pub returns-then-count-eq1-clause-counts : goal.returns-then-count-eq1-clause-counts
returns-then-count-eq1-clause-counts c = lowered_released (point_counts c.args.manager.now (points_lent c.args.points.now)) c.args.index.0 _ _ _ c.if-count-eq1.true c.release_unchecked.ensures

pub returns-then-count-eq1-clause-places : goal.returns-then-count-eq1-clause-places
returns-then-count-eq1-clause-places c = emptied_last c.args.points.now.reference_count.now c.args.points.now.location.now c.args.index.0 c.if-count-eq1.true

pub returns-else-count-eq1-clause-counts : goal.returns-else-count-eq1-clause-counts
returns-else-count-eq1-clause-counts c = lowered_kept (point_counts c.args.manager.now (points_lent c.args.points.now)) c.args.index.0 c.if-count-eq1.false

pub returns-else-count-eq1-clause-places : goal.returns-else-count-eq1-clause-places
returns-else-count-eq1-clause-places c = emptied_kept c.args.points.now.reference_count.now c.args.points.now.location.now c.args.index.0 c.if-count-eq1.false
