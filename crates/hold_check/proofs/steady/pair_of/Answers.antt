-- The laws of one interval and of two.
use Rattle.std.proofs.Common.{◌-◌, get_or, sym, ◌∙◌}
use Rattle.hold_check.proofs.SteadyLaws.{pair_tested, pair_found}
use Rattle.hold_check.proofs.steady.pair_of.Goals as goal

pub returns-then-pair_apart : goal.returns-then-pair_apart
returns-then-pair_apart c =
    let start = c in
    let a = start.args in
    let t = pair_tested a.n a.count (get_or a.starts.now 0 0) (get_or a.ends.now 0 0) (get_or a.starts.now (a.count - 1) 0) (get_or a.ends.now (a.count - 1) 0) (sym c.pair_apart.ensures ∙ c.if-pair_apart.true) in
    pair_found a.n a.count a.starts.now a.ends.now start.requires.0 start.requires.1.1.0 start.requires.1.1.1.0 start.requires.1.1.1.1 t c.pair_size.result c.pair_size.ensures
