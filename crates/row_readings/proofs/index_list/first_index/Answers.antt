-- Each way out is one of the three ways to stand.
use Rattle.row_readings.specs.IndexReadings.{first_turned, first_last, first_own}
use Rattle.row_readings.proofs.index_list.first_index.Goals as goal

pub returns-then-s-2 : goal.returns-then-s-2
returns-then-s-2 c =
    let at = c in
    first_turned at.args.s at.requires.0 at.args.look_ahead c.if-s.true c.if-s-2.true

pub returns-then-s : goal.returns-then-s
returns-then-s c =
    let at = c in
    first_last at.args.s at.requires.0 at.args.look_ahead c.if-s.true c.if-s-2.false

pub returns : goal.returns
returns c = first_own c.args.s c.requires.0 c.args.look_ahead c.if-s.false
