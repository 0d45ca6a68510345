-- A mutable slice lent on for the lifetime of one call, and taken back at the list that the call left.
use Rattle.std.specs.Prelude.{◌≡◌, ℕ, List, [], ◌∷◌, length}
use Rattle.std.proofs.Common.{sym, ap, subst}
use seplogic.Ra.Ura.{Ura}
use base.Fraction.{full_share}
use mir.Syntax.{Lifetime}
use mir.Val.{Val}
use base.Logic.{ent, sep, ex}
use base.Fml.{Lft, GName, Share, Fml, fsep, flft, fdead, fobs, fauth, flent, fobor}
use types.Logic.{Logic, sem}
use types.Kit.{‵, ◌⊛◌, some, later, ◌$◌, ◌∵◌, !, qed, move, use1, use3, drop, split, pick, fsplit, fjoin, frame, await, updating, now as at_once, show, done}
use types.SemTy.{cells, Arr}
use Rattle.std.specs.Borrow.{RattleType, MutBor}
use denote.Shadow.{pure_l, pure_i}
use denote.Memory.{mem}
use denote.Slice.{slice_val, MutSlice, heres, Room, finally, mut_slice_at, coded_holeys}
use denote.Lend.{Held, lends_slice, slice_back}
use denote.Index.{row, whole_out, whole_in, opens_slice, closes_slice}

-- the slice of R's at (base, off) that its holder has at lifetime `outer`, with a share of that, under the name `name`; `inner` is
-- the lifetime of the call
module _ (R : RattleType) (outer inner : Lft) (share : Share) (name : GName) (base off : ℕ) where
  abbrev reference : GName → List R.Denot → MutBor (List R.Denot)
  reference δ xs = record { ref_ptr = (base, off); ghost_name = δ; now = xs }

  abbrev coded : GName → List R.Denot → Fml
  coded δ xs = fsep (fobs δ ((coded_holeys R).code (heres R xs))) (fauth δ ((coded_holeys R).code (heres R xs)))

  -- what the holder keeps meanwhile: the lender's part of the loan named δ, and its own borrow, open, with its ghost variable
  abbrev pub Keeps : GName → List R.Denot → Fml
  Keeps δ xs =
      fsep (flent inner (Held R (length xs) base off δ)) (fsep (fobor outer share (Held R (length xs) base off name)) (coded name xs))

  module _ {M : Type 1} {𝓤 : Ura M} (𝓛 : Logic 𝓤) (ℓ ℓ' : Lifetime) (xs : List R.Denot) where
    open 𝓛 use {H, A}

    abbrev value : List Val
    value = slice_val (base, off) (length xs) ∷ []

    abbrev Mine : List R.Denot → Fml
    Mine ys = (MutSlice ℓ outer R).own_val (reference name ys) value

    abbrev Theirs : GName → Fml
    Theirs δ = (MutSlice ℓ' inner R).own_val (reference δ xs) value

    pub lent_on : ent 𝓤 (sep 𝓤 (sem 𝓛 (Mine xs)) (A.lft outer share)) (H.⇛ (ex 𝓤 (λ (δ : GName). sep 𝓤 (sem 𝓛 (Theirs δ)) (sem 𝓛 (Keeps δ xs)))))
    lent_on =
        qed 𝓛 (‵ (Mine xs) ∷ ‵ (flft outer share) ∷ []) ∵ updating ! $ fsplit ! $
        pure_l ! (mut_slice_at R (reference name xs) value) (λ fact.
        fsplit ! $ opens_slice ! tt R xs base off $
        use1 𝓛 (‵ (cells (mem R) xs base off)) (whole_in 𝓛 R xs base off) $
        use1 𝓛 (later (some (λ (δ : GName). ‵ (Theirs δ) ⊛ ‵ (flent inner (Held R (length xs) base off δ)))))
        (lends_slice 𝓛 R ℓ' inner xs base off fact.1) $
        await ! tt $ pick ! (λ δ. split ! $ at_once ! $
        -- [theirs; the lender's part; the open borrow; both halves of the ghost variable]
        show ! (λ (ε : GName). sep 𝓤 (sem 𝓛 (Theirs ε)) (sem 𝓛 (Keeps ε xs))) δ $ frame ! $
        move ! (2 ∷ 3 ∷ []) $ fjoin ! $ move ! (2 ∷ 0 ∷ []) $ fjoin ! $ move ! (1 ∷ 0 ∷ []) $ fjoin ! $ done !))

    pub taken_back : (δ : GName) (ys : List R.Denot) → Room R (length xs) → length ys ≡ length xs
        → ent 𝓤 (sep 𝓤 (A.dead inner) (sep 𝓤 (sem 𝓛 (Keeps δ xs)) (sem 𝓛 (finally R δ ys)))) (H.⇛ (sep 𝓤 (sem 𝓛 (Mine ys)) (A.lft outer share)))
    taken_back δ ys room same =
        qed 𝓛 (‵ (fdead inner) ∷ ‵ (Keeps δ xs) ∷ ‵ (finally R δ ys) ∷ []) ∵ updating ! $
        move ! (1 ∷ []) $ fsplit ! $ move ! (2 ∷ 0 ∷ 3 ∷ []) $
        use3 𝓛 (later (‵ ((Arr (mem R) (length xs)).own_at ys base off))) (slice_back 𝓛 R inner δ ys (length xs) base off) $
        await ! tt $ fsplit ! $ drop ! $ use1 𝓛 (‵ (row R full_share ys base off)) (whole_out 𝓛 R ys base off) $
        -- [the row; the open borrow and the ghost variable]
        move ! (1 ∷ []) $ fsplit ! $ move ! (1 ∷ []) $ fsplit ! $ move ! (3 ∷ 2 ∷ 0 ∷ 1 ∷ []) $
        closes_slice ! tt R xs ys same base off $ at_once ! $ fjoin ! $
        pure_i ! (mut_slice_at R (reference name ys) value) (tt, (tt, tt))
        (ap (λ (n : ℕ). slice_val (base, off) n ∷ []) (sym same), subst (Room R) (sym same) room) $
        fjoin ! $ done !
