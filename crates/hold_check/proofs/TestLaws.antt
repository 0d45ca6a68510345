-- A test of every number below i, with one number more.
use Rattle.std.proofs.Common.{◌≡◌, ℕ, ◌+◌, Bool, ◌&&◌, add-one}
use Rattle.terms.specs.Below.{every_below}

pub every_more : (i : ℕ) (p : ℕ → Bool) (ok : Bool) → ok ≡ every_below i p → (ok && p i) ≡ every_below (i + 1) p
unfolding every_below
every_more i p ok e = rw (add-one i, e)
