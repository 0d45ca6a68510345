-- That the plain form of adjust takes the same pairs as the form over structs.
use Rattle.std.specs.Prelude.{List, [], ◌∷◌, ◌≡◌, refl}
use Rattle.std.proofs.Common.{ap}
use Rattle.store_definitions.specs.declared.Pair.{Pair}
use Rattle.store_definitions.specs.Memory.{PointStore}
use Rattle.store_definitions.specs.Counting.{Pairing, adjust_spec}
use Rattle.store_adjust.specs.Pairs.{pairings, pairing_of, pairings_of}
use Rattle.store_adjust_pairs.specs.Records.{numbers_of}

pub same_pairings : (ps : List Pair) → pairings (numbers_of ps) ≡ pairings_of ps
unfolding pairings pairings_of numbers_of
same_pairings [] = refl
same_pairings (p ∷ ps) = ap (λ (qs : List Pairing). pairing_of p ∷ qs) (same_pairings ps)

-- adjust over structs and adjust over plain numbers are one adjust
pub forms_agree : {E : Type 0} (p : PointStore E) (ps : List Pair) → adjust_spec p (pairings (numbers_of ps)) ≡ adjust_spec p (pairings_of ps)
forms_agree p ps = ap (λ (qs : List Pairing). adjust_spec p qs) (same_pairings ps)
