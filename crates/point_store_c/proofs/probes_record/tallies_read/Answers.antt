-- Word by word: each fits.
use native.Mathlib.Omega.{arith}
use Rattle.point_store_c.proofs.ProbesRecordLaws.{tally_fits, one_read, tallies_passed}
use Rattle.point_store_c.proofs.probes_record.tallies_read.Goals as goal

pub overflow_cast-tallies : goal.overflow_cast-tallies
overflow_cast-tallies c = omega (arith, tally_fits c.args.words.now c.requires.0 c.requires.1 c.loop-i.i c.loop-i-test.true)

pub loop-i-preserved : goal.loop-i-preserved
loop-i-preserved c =
    let l = c.loop-i in
    one_read c.args.words.now l.tallies l.i c.requires.0 c.loop-i-test.true l.invariant

pub returns : goal.returns
returns c =
    let l = c.loop-i in
    tallies_passed c.args.words.now l.tallies l.i c.requires.0 l.auto.i-end c.loop-i-test.false l.invariant
