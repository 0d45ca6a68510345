-- Laws of filling a slice with 0.0.
use Rattle.std.specs.Prelude.{ℕ, zero, suc, ◌+◌, ◌≤◌, ◌<◌, List, [], ◌∷◌, ◌++◌, ◌≡◌, refl, length, set, drop, replicate, Float}
use Rattle.std.proofs.Common.{arith, add-one, ◌∙◌, ap, length-append, length-drop}
use Rattle.std.proofs.lemmas.List.{length-replicate}
use Rattle.labels.specs.Readings.{zero_float}

-- the first i floats are 0.0, the others as they were
pub zeros_length : (i : ℕ) (out : List Float) → i ≤ length out → length (replicate i zero_float ++ drop i out) ≡ length out
zeros_length i out h = simp (length-append, length-replicate, length-drop) (omega arith)

pub zeros_more : (i : ℕ) (out : List Float) → i < length out → set (replicate i zero_float ++ drop i out) i zero_float ≡ replicate (i + 1) zero_float ++ drop (i + 1) out
zeros_more zero [] h = absurd (omega arith)
zeros_more zero (x ∷ out) h = refl
zeros_more (suc i) [] h = absurd (omega arith)
zeros_more (suc i) (x ∷ out) h = rw (add-one (suc i)) (ap (λ (l : List Float). zero_float ∷ l) (zeros_more i out (omega arith) ∙ (rw (add-one i))))
