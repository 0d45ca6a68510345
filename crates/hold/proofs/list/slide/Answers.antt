-- The entries but the first are moved down, and the new one is written behind them.
use Prim.Native.Nat.{◌-◌}
use Rattle.std.proofs.Common.{ℕ, ◌++◌, length, take, drop, sym, ap, ◌∙◌}
use Rattle.hold.specs.Moves.{slid_down, slid_whole}
use Rattle.hold.proofs.list.slide.Goals as goal

pub returns : goal.returns
returns c =
    let list = c.args.list.now in
    let last = ap (λ (n : ℕ). n - 1) c.copy_within.ensures.len in
    slid_whole list c.copy_within.new.self _ c.args.entry c.requires.0 last
    (c.copy_within.ensures.after ∙ slid_down list (length list - 1) ∙ sym (ap (λ (n : ℕ). take n (drop 1 list) ++ drop n list) last))
