-- Entries of a list of numbers.
use Rattle.std.specs.Prelude.{ℕ, zero, suc, ◌<◌, List, [], ◌∷◌, ◌≡◌, refl, length, get_or, set}
use Rattle.std.proofs.Math.Decide.{ℕ_discrete}
use Rattle.std.proofs.Common.{arith, get_or-set_same, get_or-set_other}

-- an entry within a list is the same whatever stands past its end
pub any_default : (xs : List ℕ) (i a b : ℕ) → i < length xs → get_or xs i a ≡ get_or xs i b
any_default [] i a b h = absurd (omega arith)
any_default (x ∷ xs) zero a b h = refl
any_default (x ∷ xs) (suc i) a b h = any_default xs i a b (omega arith)

-- entry k after a store at i, for a fact that holds of what was stored and of every other entry
pub stored : (P : ℕ → Type 0) (xs : List ℕ) (i v k : ℕ) → i < length xs → (k ≡ i → P v) → ((k ≡ i → ⊥) → P (get_or xs k 0)) → P (get_or (set xs i v) k 0)
stored P xs i v k h same other =
    elim (ℕ_discrete k i) [
      | yes e ↦ rw (e, get_or-set_same xs i v 0 h) (same e)
      | no d ↦ rw (get_or-set_other xs i k v 0 d) (other d)
    ]
