-- Each return follows from the test that led to it.
use borrow.Author.Tests.{eq-eqb, ne_eqb}
use Rattle.store_check.specs.Entries.{place_met, place_marked}
use Rattle.store_check.proofs.points.mark_place.Goals as goal

pub returns-then-place-eq-EMPTY_PLACE : goal.returns-then-place-eq-EMPTY_PLACE
unfolding place_met place_marked
returns-then-place-eq-EMPTY_PLACE c = (rw (eq-eqb c.args.place 65535 c.if-place-eq-EMPTY_PLACE.true), rw (eq-eqb c.args.place 65535 c.if-place-eq-EMPTY_PLACE.true))

pub returns : goal.returns
unfolding place_met place_marked
returns c = (rw (ne_eqb c.args.place 65535 c.if-place-eq-EMPTY_PLACE.false), rw (ne_eqb c.args.place 65535 c.if-place-eq-EMPTY_PLACE.false))
