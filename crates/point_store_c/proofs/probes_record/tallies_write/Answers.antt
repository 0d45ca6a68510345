-- The tallies passed are all of them.
use borrow.Author.Rules.{rules}
use native.Mathlib.Omega.{arith}
use mathlib.Core.Path.{◌≡◌}
use lib.ListN.{length}
use Rattle.point_store_c.proofs.ProbesRecordLaws.{tallies_written}
use Rattle.point_store_c.proofs.probes_record.tallies_write.Goals as goal

pub returns : goal.returns
returns c =
    let l = c.loop-i in
    let a = c.args in
    let sized : length a.tallies ≡ 8 = search rules in
    tallies_written a.words.now l.words a.tallies l.i sized (omega (arith, c.loop-i-test.false)) l.invariant
