-- A line of three fields of six columns has 19 bytes.
use mathlib.Core.List.{[], ◌∷◌}
use native.Mathlib.Omega.{arith}
use Rattle.decimal.proofs.LinesLaws.{length_line}
use Rattle.page.proofs.lines.put_point.Goals as goal

pub put_line-requires : goal.put_line-requires
put_line-requires c =
    omega (arith, c.requires, length_line 6 (c.args.index ∷ c.args.count ∷ c.args.place ∷ []))
