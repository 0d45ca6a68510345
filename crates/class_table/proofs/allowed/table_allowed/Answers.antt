-- The loop keeps `Masked`.
use borrow.Author.Rules.{rules}
use mathlib.Core.Path.{◌≡◌}
use lib.ListN.{length}
use Rattle.class_table.specs.Marks.{none_masked, one_masked, high_masked, all_masked}
use Rattle.class_table.proofs.allowed.table_allowed.Goals as goal

pub loop-class-init : goal.loop-class-init
loop-class-init c = none_masked c.args.classes

pub loop-class-preserved : goal.loop-class-preserved
loop-class-preserved c =
    let l = c.loop-class in
    one_masked c.args.classes l.class-index l.high l.mask c.bit-mask.result c.loop-class-test.true c.bit-mask.ensures l.invariant

pub returns-then-not-high : goal.returns-then-not-high
returns-then-not-high c =
    let l = c.loop-class in
    let sized : length c.args.classes ≡ 24 = search rules in
    all_masked c.args.classes l.class-index l.high l.mask sized c.loop-class-test.false l.invariant c.if-not-high.true

pub returns-else-not-high : goal.returns-else-not-high
returns-else-not-high c =
    let l = c.loop-class in
    let sized : length c.args.classes ≡ 24 = search rules in
    rw c.if-not-high.false (high_masked c.args.classes l.class-index l.high l.mask sized c.loop-class-test.false l.invariant c.if-not-high.false)
