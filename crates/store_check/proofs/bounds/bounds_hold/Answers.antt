-- The two tests that stand on others are asked last.
use Prim.Native.Nat.{◌*◌, ◌%◌}
use mathlib.Core.Bool.{Bool, false, ◌&&◌, cond}
use mathlib.Core.Path.{sym, ap, ◌∙◌}
use lib.Dec.{leb, eqb}
use Rattle.store_definitions.specs.Bounds.{bounds_hold}
use Rattle.store_check.proofs.BoundsTests.{bounds_order}
use Rattle.store_check.proofs.bounds.bounds_hold.Goals as goal

pub returns-then-large_enough-dimensions : goal.returns-then-large_enough-dimensions
unfolding bounds_hold
returns-then-large_enough-dimensions c =
    let a = c.args in
    let last = eqb (a.dimensions % a.shingle_size) 0 && leb (a.capacity * a.dimensions) 16384 in
    ap (λ (b : Bool). cond b last false) (sym c.if-large_enough-dimensions.true)
    ∙ bounds_order (leb 1 a.dimensions) (leb 1 a.shingle_size) (leb 1 a.capacity) (leb a.dimensions 64) (leb a.capacity 1024) (eqb (a.dimensions % a.shingle_size) 0) (leb (a.capacity * a.dimensions) 16384)

pub returns : goal.returns
unfolding bounds_hold
returns c =
    let a = c.args in
    let last = eqb (a.dimensions % a.shingle_size) 0 && leb (a.capacity * a.dimensions) 16384 in
    ap (λ (b : Bool). cond b last false) (sym c.if-large_enough-dimensions.false)
    ∙ bounds_order (leb 1 a.dimensions) (leb 1 a.shingle_size) (leb 1 a.capacity) (leb a.dimensions 64) (leb a.capacity 1024) (eqb (a.dimensions % a.shingle_size) 0) (leb (a.capacity * a.dimensions) 16384)
