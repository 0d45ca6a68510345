-- An array with no mark.
use Rattle.std.proofs.Common.{ℕ, zero, suc, false, replicate, refl}
use Rattle.hold_check.specs.ListedOnce.{NoMarks}

pub no_marks : (n : ℕ) → NoMarks (replicate n false)
no_marks zero i = refl
no_marks (suc n) zero = refl
no_marks (suc n) (suc i) = no_marks n i
