-- The tests of the bounds and of the record, in the order of their definitions.
use mathlib.Core.Bool.{Bool, true, false, ◌&&◌, cond}
use mathlib.Core.Path.{◌≡◌, refl, sym}
use Rattle.std.proofs.Math.Bool.{and-false}

-- the two that stand on others, asked last
pub bounds_order : (dims shingle capacity dims_most capacity_most even floats : Bool) → cond ((dims && shingle && capacity) && dims_most && capacity_most) (even && floats) false ≡ (dims && (dims_most && (shingle && (even && (capacity && (capacity_most && floats))))))
bounds_order false s c dm cm e f = refl
bounds_order true false c false cm e f = refl
bounds_order true false c true cm e f = refl
bounds_order true true false false cm e f = refl
bounds_order true true false true cm e f = sym (and-false e)
bounds_order true true true false cm e f = refl
bounds_order true true true true false e f = sym (and-false e)
bounds_order true true true true true e f = refl

-- pairs in a row
pub pairs_flat : (a b c d e f g h x : Bool) → ((a && b) && ((c && d) && ((e && f) && ((g && h) && x)))) ≡ (a && (b && (c && (d && (e && (f && (g && (h && x))))))))
pairs_flat false b c d e f g h x = refl
pairs_flat true false c d e f g h x = refl
pairs_flat true true false d e f g h x = refl
pairs_flat true true true false e f g h x = refl
pairs_flat true true true true false f g h x = refl
pairs_flat true true true true true false g h x = refl
pairs_flat true true true true true true false h x = refl
pairs_flat true true true true true true true h x = refl
