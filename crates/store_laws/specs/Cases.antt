-- What is chosen by a test, and a test that is asked only where another holds.
use Rattle.std.specs.Prelude.{ℕ, Bool, true, false, cond, ◌≡◌, refl}
use Rattle.std.proofs.Common.{arith}

-- what holds of both holds of either
pub either : {A : Type 0} (P : A → Type 0) (b : Bool) (x y : A) → P x → P y → P (cond b x y)
either P true x y f g = f
either P false x y f g = g

pub by_cases : {A : Type 0} (P : A → Type 0) (b : Bool) (x y : A) → (b ≡ true → P x) → (b ≡ false → P y) → P (cond b x y)
by_cases P true x y f g = f refl
by_cases P false x y f g = g refl

pub asked : (a b : Bool) → cond a b true ≡ true → a ≡ true → b ≡ true
asked true b e h = e
asked false b e h = absurd (let z : ◌≡◌ {A = ℕ} 0 1 = cc in omega arith)

pub asked_make : (a b : Bool) → (a ≡ true → b ≡ true) → cond a b true ≡ true
asked_make true b f = f refl
asked_make false b f = refl
