-- Slices that are lent shared: a call gets them as they are, at their own lifetimes, and gives the tokens back. What they own can be
-- had twice, so their holder keeps it.
use Rattle.std.specs.Prelude.{List, [], ◌∷◌}
use Rattle.std.specs.Float.{binary32}
use seplogic.Ra.Ura.{Ura}
use base.Logic.{ent, sep}
use Rattle.std.specs.Borrow.{Fml, ftrue}
use types.Logic.{Logic, sem}
use types.Kit.{‵, ◌⊛◌, ◌$◌, ◌∵◌, !, qed, move, use1, split, fsplit, fjoin, frame, done}
use denote.RattleType.{RowLaws}
use denote.Plain.{uint_row_laws}
use denote.Floats.{float_row_laws}
use denote.Slice.{ShrSlice, shr_slice_copy}
use denote.Steps.{nothing}
use Rattle.struct_lists.specs.Slices.{Kind, word, single, chain, row_of, Element, Slot, Lists, value}

-- how a kind's values are read behind a `&`
kind_laws : (k : Kind) → RowLaws (row_of k)
kind_laws (word w) = uint_row_laws w
kind_laws single = float_row_laws binary32

abbrev its : (z : Slot) → List (Element z.kind) → Fml
its z xs = (ShrSlice z.code z.life (row_of z.kind)).own_val (record { ref_ptr = (z.base, z.off); now = xs }) (value z ∷ [])

abbrev pub seen : (zs : List Slot) → Lists zs → List Fml
seen [] ls = []
seen (z ∷ zs) ls = its z ls.0 ∷ seen zs ls.1

module _ {M : Type 1} {𝓤 : Ura M} (𝓛 : Logic 𝓤) where
  pub seen_twice : (zs : List Slot) (ls : Lists zs) → ent 𝓤 (sem 𝓛 (chain (seen zs ls) ftrue)) (sep 𝓤 (sem 𝓛 (chain (seen zs ls) ftrue)) (sem 𝓛 (chain (seen zs ls) ftrue)))
  seen_twice [] ls = qed 𝓛 (‵ ftrue ∷ []) ∵ nothing ! $ frame ! $ done !
  seen_twice (z ∷ zs) ls =
      qed 𝓛 (‵ (chain (seen (z ∷ zs) ls) ftrue) ∷ []) ∵ fsplit ! $
      use1 𝓛 (‵ (its z ls.0) ⊛ ‵ (its z ls.0)) ((shr_slice_copy 𝓛 z.code z.life (row_of z.kind) (kind_laws z.kind)).twice (record { ref_ptr = (z.base, z.off); now = ls.0 }) (value z ∷ [])) $
      split ! $ move ! (2 ∷ []) $
      use1 𝓛 (‵ (chain (seen zs ls.1) ftrue) ⊛ ‵ (chain (seen zs ls.1) ftrue)) (seen_twice zs ls.1) $
      -- [the others; the others; this one; this one]
      split ! $ move ! (2 ∷ 0 ∷ []) $ fjoin ! $ frame ! $ move ! (1 ∷ 0 ∷ []) $ fjoin ! $ done !
