-- Each return follows from the test that led to it.
use borrow.Author.Tests.{lt-ltb, le-ltb}
use Rattle.store_check.specs.Entries.{place_limit}
use Rattle.store_check.proofs.points.place_limit.Goals as goal

pub returns-then-free-dims : goal.returns-then-free-dims
unfolding place_limit
returns-then-free-dims c = rw (lt-ltb c.args.free c.args.dims c.if-free-dims.true)

pub returns : goal.returns
unfolding place_limit
returns c = rw (le-ltb c.args.free c.args.dims c.if-free-dims.false)
