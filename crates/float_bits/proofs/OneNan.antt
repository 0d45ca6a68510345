-- There is one NaN.
use mathlib.Core.Path.{◌≡◌, refl, sym}
use mathlib.Core.Bool.{true, true≢false}
use lib.Ieee.{Float, nan, inf, fin, is_nan}

pub one_nan : (x : Float) → is_nan x ≡ true → x ≡ nan
unfolding is_nan
one_nan nan e = refl
one_nan (inf s) e = absurd (true≢false (sym e))
one_nan (fin s m d) e = absurd (true≢false (sym e))
