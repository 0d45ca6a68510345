-- The invariant: the first k tallies are raised.
use Prim.Native.Nat.{◌+◌}
use native.Mathlib.Omega.{arith}
use mathlib.Core.Path.{◌≡◌, sym, ap, ◌∙◌}
use lib.ListN.{length, get_or, length-set}
use borrow.Author.Rules.{rules}
use Rattle.probe_readings.specs.Kinds.{tallied_kinds}
use Rattle.probe_readings.specs.Entries.{written_more, tallied_entry, tallied_long}
use Rattle.probe_readings.proofs.tally.tallied.Goals as goal

pub loop-k-preserved : goal.loop-k-preserved
loop-k-preserved c =
    let s = c in
    let a = s.args in
    let l = c.loop-k in
    let n : length a.tallies ≡ 8 = search rules in
    let kinds_eight : length a.kinds.now ≡ 8 = search rules in
    let below = c.loop-k-test.true in (
      length-set l.counted l.k _ ∙ l.invariant.0,
      written_more (tallied_kinds a.kinds.now a.tallies) l.counted l.k _ (omega (arith, below, n, tallied_long a.kinds.now a.tallies)) (omega (arith, below, l.invariant.0))
          (ap (λ x. get_or a.tallies l.k 0 + x) c.estimate_of.ensures ∙ sym (tallied_entry a.kinds.now a.tallies l.k (omega (arith, below, kinds_eight)) (omega (arith, below, n))))
          l.invariant.1,
    )
