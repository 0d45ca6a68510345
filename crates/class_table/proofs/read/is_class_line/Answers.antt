-- The part is the line.
use Prim.Native.Nat.{◌+◌, ◌-◌}
use mathlib.Core.List.{[], ◌∷◌}
use mathlib.Core.Path.{◌≡◌, sym, ◌∙◌}
use native.Mathlib.Omega.{arith}
use lib.ListN.{drop, length-drop}
use lib.Seq.{length-take-le}
use Rattle.decimal.proofs.LinesLaws.{length_line}
use Rattle.class_table.proofs.read.is_class_line.Goals as goal

pub is_line-requires : goal.is_line-requires
is_line-requires c =
    let s = c in
    let wide : s.args.at + 9 - s.args.at ≡ 9 = omega arith in
    rw (wide) (length-take-le 9 (drop s.args.at s.args.text.now) (rw (length-drop s.args.at s.args.text.now) (omega (arith, s.requires))) ∙ sym (length_line 4 (s.args.code ∷ s.args.class ∷ [])))
