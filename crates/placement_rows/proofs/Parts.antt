-- A copy to where it came from changes nothing.
use Rattle.std.proofs.Common.{◌≡◌, ℕ, ◌+◌, List, ◌++◌, drop, sym, ap, ◌∙◌, take-append-drop, take-add}
use Rattle.placement.specs.InPlace.{copied_within}

pub copy_still : {E : Type 0} (at from n : ℕ) (l : List E) → at ≡ from → l ≡ copied_within at from n l
copy_still at from n l e =
    sym
    (ap (λ (m : ℕ). copied_within at m n l) (sym e)
    ∙ ap (λ (t : List _). t ++ drop (at + n) l) (sym (take-add at n l))
    ∙ take-append-drop (at + n) l)
