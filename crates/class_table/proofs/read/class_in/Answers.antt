-- The part is columns 5 to 8.
use Prim.Native.Nat.{◌+◌, ◌-◌}
use mathlib.Core.Path.{◌≡◌, ◌∙◌}
use native.Mathlib.Omega.{arith}
use lib.Seq.{drop-drop}
use Rattle.class_table.proofs.read.class_in.Goals as goal

pub returns : goal.returns
returns c =
    let a = c.args in
    let wide : a.at + 8 - (a.at + 4) ≡ 4 = omega arith in
    c.field_value.ensures ∙ (rw (wide, drop-drop 4 a.at a.text.now))
