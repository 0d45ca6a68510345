-- Any number of mutable slices, lent on to one call together and taken back at the lists that it left. What they own is one chain
-- of formulas, so it is one entry of a walk's context.
use Rattle.std.specs.Prelude.{◌≡◌, refl, ℕ, zero, suc, ◌<◌, ◌^◌, List, [], ◌∷◌, length}
use Rattle.std.proofs.Common.{sym, subst, ◌∙◌}
use Rattle.std.specs.Float.{binary32}
use seplogic.Ra.Ura.{Ura}
use mir.Syntax.{Lifetime, Ty, Width, w64, named, ty_int, ty_float}
use mir.Val.{Val, vint}
use base.Logic.{ent, sep, ex}
use base.Fml.{Lft, GName, Share, Fml, ftrue, feq, fsep, flft, fdead}
use types.Logic.{Logic, sem}
use types.Kit.{Item, Goal, Seq, Step, step, ‵, ◌⊛◌, some, later, ◌$◌, ◌∵◌, !, qed, move, use1, use2, use3, drop, split, pick, fsplit, fjoin, feq_l, frame, await, updating, now as at_once, rewrite, show, done}
use denote.Laws.{Is}
use denote.Plain.{UInt, uint_Makes}
use Rattle.std.specs.Borrow.{usize, f32, RattleType, MutBor}
use denote.Steps.{nothing, owned as makes}
use denote.Slice.{slice_val, MutSlice, Room, finally}
use Rattle.struct_lists.specs.Reborrow.{Keeps, lent_on, taken_back}

-- ---- chains of formulas, before a last one
abbrev pub chain : List Fml → Fml → Fml
chain [] last = last
chain (f ∷ fs) last = fsep f (chain fs last)

module _ {M : Type 1} {𝓤 : Ura M} (𝓛 : Logic 𝓤) where
  pub chain_ends : (fs : List Fml) (last : Fml) → ent 𝓤 (sem 𝓛 (chain fs last)) (sep 𝓤 (sem 𝓛 (chain fs ftrue)) (sem 𝓛 last))
  chain_ends [] last = qed 𝓛 (‵ last ∷ []) ∵ nothing ! $ frame ! $ done !
  chain_ends (f ∷ fs) last =
      qed 𝓛 (‵ (chain (f ∷ fs) last) ∷ []) ∵ fsplit ! $ move ! (1 ∷ []) $ use1 𝓛 (‵ (chain fs ftrue) ⊛ ‵ last) (chain_ends fs last) $
      split ! $ move ! (2 ∷ 0 ∷ []) $ fjoin ! $ frame ! $ done !

  pub chain_takes : (fs : List Fml) (last : Fml) → ent 𝓤 (sep 𝓤 (sem 𝓛 (chain fs ftrue)) (sem 𝓛 last)) (sem 𝓛 (chain fs last))
  chain_takes [] last = qed 𝓛 (‵ ftrue ∷ ‵ last ∷ []) ∵ drop ! $ done !
  chain_takes (f ∷ fs) last =
      qed 𝓛 (‵ (chain (f ∷ fs) ftrue) ∷ ‵ last ∷ []) ∵ fsplit ! $ move ! (1 ∷ 2 ∷ []) $ use2 𝓛 (‵ (chain fs last)) (chain_takes fs last) $
      move ! (1 ∷ 0 ∷ []) $ fjoin ! $ done !

-- ---- the slices
-- what their elements are, and how the logic and the code have them
pub data Kind : Type 0 where
  word : Width → Kind
  single : Kind

abbrev pub row_of : Kind → RattleType
row_of (word w) = UInt w
row_of single = f32

abbrev pub ty_of : Kind → Ty
ty_of (word w) = ty_int w
ty_of single = ty_float binary32

abbrev pub Element : Kind → Type 0
Element k = (row_of k).Denot

-- what of a lent slice does not change: its elements' kind, its lifetime in the code and in the logic with a share of it, where it
-- lies, its ghost name and its length
pub record Slot : Type 0 where
  pub kind : Kind
  pub code : Lifetime
  pub life : Lft
  pub share : Share
  pub base : ℕ
  pub off : ℕ
  pub name : GName
  pub len : ℕ

-- a list for each slice, and a ghost name
abbrev pub Lists : List Slot → Type 0
Lists [] = Unit {0}
Lists (z ∷ zs) = List (Element z.kind) × Lists zs

abbrev pub Names : List Slot → Type 0
Names [] = Unit {0}
Names (z ∷ zs) = GName × Names zs

abbrev pub refer : (z : Slot) → GName → List (Element z.kind) → MutBor (List (Element z.kind))
refer z δ xs = record { ref_ptr = (z.base, z.off); ghost_name = δ; now = xs }

abbrev pub value : Slot → Val
value z = slice_val (z.base, z.off) z.len

abbrev mine : (z : Slot) → List (Element z.kind) → Fml
mine z xs = (MutSlice z.code z.life (row_of z.kind)).own_val (refer z z.name xs) (value z ∷ [])

-- the same slice in the call's hands, at its lifetime ν
abbrev theirs : (z : Slot) → Lft → GName → List (Element z.kind) → Fml
theirs z ν δ xs = (MutSlice (named 0) ν (row_of z.kind)).own_val (refer z δ xs) (value z ∷ [])

abbrev keeps : (z : Slot) → Lft → GName → List (Element z.kind) → Fml
keeps z ν δ xs = Keeps (row_of z.kind) z.life ν z.share z.name z.base z.off δ xs

-- the lifetimes' tokens; what the slices own; what the call gets; what their holder keeps; what the call says of the last lists
abbrev pub tokens : List Slot → List Fml
tokens [] = []
tokens (z ∷ zs) = flft z.life z.share ∷ tokens zs

abbrev pub owned : (zs : List Slot) → Lists zs → List Fml
owned [] ls = []
owned (z ∷ zs) ls = mine z ls.0 ∷ owned zs ls.1

abbrev pub given : (zs : List Slot) → Lft → Names zs → Lists zs → List Fml
given [] ν δs ls = []
given (z ∷ zs) ν δs ls = theirs z ν δs.0 ls.0 ∷ given zs ν δs.1 ls.1

abbrev pub kept : (zs : List Slot) → Lft → Names zs → Lists zs → List Fml
kept [] ν δs ls = []
kept (z ∷ zs) ν δs ls = keeps z ν δs.0 ls.0 ∷ kept zs ν δs.1 ls.1

abbrev pub said : (zs : List Slot) → Names zs → Lists zs → Lists zs → List Fml
said [] δs ls ms = []
said (z ∷ zs) δs ls ms =
    fsep (finally (row_of z.kind) δs.0 ms.0) (feq ℕ (length ms.0) (length ls.0)) ∷ said zs δs.1 ls.1 ms.1

abbrev pub lasts : (zs : List Slot) → Names zs → Lists zs → List Fml
lasts [] δs ms = []
lasts (z ∷ zs) δs ms = finally (row_of z.kind) δs.0 ms.0 ∷ lasts zs δs.1 ms.1

-- each list is as long as its slice, and the slice fits an address space
abbrev pub Long : (zs : List Slot) → Lists zs → Type 0
Long [] ls = Unit {0}
Long (z ∷ zs) ls = (length ls.0 ≡ z.len) × Long zs ls.1

abbrev pub Rooms : List Slot → Type 0
Rooms [] = Unit {0}
Rooms (z ∷ zs) = Room (row_of z.kind) z.len × Rooms zs

module _ {M : Type 1} {𝓤 : Ura M} (𝓛 : Logic 𝓤) (ν : Lft) where
  -- all are lent on for ν, before what else the call is given
  open 𝓛 use {H, A}

  pub lend : (zs : List Slot) (ls : Lists zs) → Long zs ls → (last : Fml)
      → ent 𝓤 (sep 𝓤 (sem 𝓛 (chain (tokens zs) ftrue)) (sep 𝓤 (sem 𝓛 (chain (owned zs ls) ftrue)) (sem 𝓛 last)))
      (H.⇛ (ex 𝓤 (λ (δs : Names zs). sep 𝓤 (sem 𝓛 (chain (given zs ν δs ls) last)) (sem 𝓛 (chain (kept zs ν δs ls) ftrue)))))
  lend [] ls long last =
      qed 𝓛 (‵ ftrue ∷ ‵ ftrue ∷ ‵ last ∷ []) ∵ updating ! $ at_once ! $ drop ! $
      show ! (λ (δs : Unit {0}). sep 𝓤 (sem 𝓛 last) (sem 𝓛 ftrue)) tt $ move ! (1 ∷ 0 ∷ []) $ frame ! $ done !
  lend (z ∷ zs) ls long last =
      qed 𝓛 (‵ (chain (tokens (z ∷ zs)) ftrue) ∷ ‵ (chain (owned (z ∷ zs) ls) ftrue) ∷ ‵ last ∷ []) ∵ updating ! $
      fsplit ! $ move ! (2 ∷ []) $ fsplit ! $
      -- [this slice; the others; its token; the other tokens; last]
      rewrite ! 0 (λ (n : ℕ). ‵ ((MutSlice z.code z.life (row_of z.kind)).own_val (refer z z.name ls.0) (slice_val (z.base, z.off) n ∷ []))) (sym long.0) refl $
      move ! (0 ∷ 2 ∷ []) $
      use2 𝓛 (later (some (λ (δ : GName). ‵ ((MutSlice (named 0) ν (row_of z.kind)).own_val (refer z δ ls.0) (slice_val (z.base, z.off) (length ls.0) ∷ [])) ⊛ ‵ (keeps z ν δ ls.0))))
      (lent_on (row_of z.kind) z.life ν z.share z.name z.base z.off 𝓛 z.code (named 0) ls.0) $
      await ! tt $ pick ! (λ δ. split ! $
      rewrite ! 0 (λ (n : ℕ). ‵ ((MutSlice (named 0) ν (row_of z.kind)).own_val (refer z δ ls.0) (slice_val (z.base, z.off) n ∷ []))) long.0 refl $
      -- [lent; kept; the other slices; the other tokens; last]
      move ! (3 ∷ 2 ∷ 4 ∷ []) $
      use3 𝓛 (later (some (λ (δs : Names zs). ‵ (chain (given zs ν δs ls.1) last) ⊛ ‵ (chain (kept zs ν δs ls.1) ftrue)))) (lend zs ls.1 long.1 last) $
      await ! tt $ pick ! (λ δs. split ! $ at_once ! $
      show ! (λ (εs : Names (z ∷ zs)). sep 𝓤 (sem 𝓛 (chain (given (z ∷ zs) ν εs ls) last)) (sem 𝓛 (chain (kept (z ∷ zs) ν εs ls) ftrue))) (δ, δs) $
      move ! (2 ∷ 0 ∷ []) $ fjoin ! $ frame ! $ move ! (1 ∷ 0 ∷ []) $ fjoin ! $ done !))

  -- all are back at the lists ms, once ν is over
  pub take_back : (zs : List Slot) (δs : Names zs) (ls ms : Lists zs) → Rooms zs → Long zs ls → Long zs ms
      → ent 𝓤 (sep 𝓤 (A.dead ν) (sep 𝓤 (sem 𝓛 (chain (kept zs ν δs ls) ftrue)) (sem 𝓛 (chain (lasts zs δs ms) ftrue))))
      (H.⇛ (sep 𝓤 (sem 𝓛 (chain (tokens zs) ftrue)) (sem 𝓛 (chain (owned zs ms) ftrue))))
  take_back [] δs ls ms rooms long long' = qed 𝓛 (‵ (fdead ν) ∷ ‵ ftrue ∷ ‵ ftrue ∷ []) ∵ updating ! $ at_once ! $ drop ! $ frame ! $ done !
  take_back (z ∷ zs) δs ls ms rooms long long' =
      qed 𝓛 (‵ (fdead ν) ∷ ‵ (chain (kept (z ∷ zs) ν δs ls) ftrue) ∷ ‵ (chain (lasts (z ∷ zs) δs ms) ftrue) ∷ []) ∵ updating ! $
      use1 𝓛 (‵ (fdead ν) ⊛ ‵ (fdead ν)) (𝓛.lfts.dead_dup ν) $ split ! $ move ! (2 ∷ []) $ fsplit ! $ move ! (4 ∷ []) $ fsplit ! $
      -- [this last; the others; this kept; the others; dead; dead]
      move ! (4 ∷ 2 ∷ 0 ∷ []) $
      use3 𝓛 (later (‵ ((MutSlice z.code z.life (row_of z.kind)).own_val (refer z z.name ms.0) (slice_val (z.base, z.off) (length ls.0) ∷ [])) ⊛ ‵ (flft z.life z.share)))
      (taken_back (row_of z.kind) z.life ν z.share z.name z.base z.off 𝓛 z.code (named 0) ls.0 δs.0 ms.0 (subst (Room (row_of z.kind)) (sym long.0) rooms.0) (long'.0 ∙ sym long.0)) $
      await ! tt $ split ! $
      rewrite ! 0 (λ (n : ℕ). ‵ ((MutSlice z.code z.life (row_of z.kind)).own_val (refer z z.name ms.0) (slice_val (z.base, z.off) n ∷ []))) long.0 refl $
      -- [this slice; its token; the other lasts; the others kept; dead]
      move ! (4 ∷ 3 ∷ 2 ∷ []) $
      use3 𝓛 (later (‵ (chain (tokens zs) ftrue) ⊛ ‵ (chain (owned zs ms.1) ftrue))) (take_back zs δs.1 ls.1 ms.1 rooms.1 long.1 long'.1) $
      await ! tt $ split ! $ at_once ! $
      move ! (3 ∷ 0 ∷ []) $ fjoin ! $ frame ! $ move ! (1 ∷ 0 ∷ []) $ fjoin ! $ done !

-- the call's word that no length has changed
pub learn : {M : Type 1} {𝓤 : Ura M} {𝓛 : Logic 𝓤} {K : Type 0} {Γ : List (Item 𝓤)} {G : Goal 𝓤 𝓛.H} → K → (zs : List Slot) (δs : Names zs) (ls ms : Lists zs) → Long zs ls → (last : Fml)
    → (Long zs ms → Seq K 𝓛 (‵ (chain (lasts zs δs ms) ftrue) ∷ Γ) G)
    → Seq K 𝓛 (‵ (chain (said zs δs ls ms) last) ∷ Γ) G
learn {M = M} {𝓤 = 𝓤} {𝓛 = 𝓛} {K = K} {Γ = Γ} {G = G} t [] δs ls ms long last go = drop t $ nothing t $ go tt
learn {M = M} {𝓤 = 𝓤} {𝓛 = 𝓛} {K = K} {Γ = Γ} {G = G} t (z ∷ zs) δs ls ms long last go =
    fsplit t $ fsplit t $ move t (1 ∷ []) $ feq_l t (λ e. move t (1 ∷ []) $
    learn {Γ = ‵ (finally (row_of z.kind) δs.0 ms.0) ∷ Γ} t zs δs.1 ls.1 ms.1 long.1 last (λ es. move t (1 ∷ 0 ∷ []) $ fjoin t $ go (e ∙ long.0, es)))

-- ---- arguments
-- something of each slice, before the other arguments
abbrev pub Args : (Kind → Type 0) → List Slot → Type 0 → Type 0
Args Y [] X = X
Args Y (z ∷ zs) X = Y z.kind × Args Y zs X

abbrev pub Ref : Kind → Type 0
Ref k = MutBor (List (Element k))

abbrev pub Elements : Kind → Type 0
Elements k = List (Element k)

-- the references that a call is lent, and their machine values
abbrev pub lent_refs : {X : Type 0} (zs : List Slot) → Names zs → Lists zs → X → Args Ref zs X
lent_refs [] δs ls x = x
lent_refs (z ∷ zs) δs ls x = (refer z δs.0 ls.0, lent_refs zs δs.1 ls.1 x)

abbrev pub values : {X : Type 0} (zs : List Slot) → X → Args (λ k. List Val) zs X
values [] x = x
values (z ∷ zs) x = (value z ∷ [], values zs x)

-- the slices' own names; their lifetimes and the shares of them, before others
abbrev pub names : (zs : List Slot) → Names zs
names [] = tt
names (z ∷ zs) = (z.name, names zs)

abbrev pub lives : {X : Type 0} (zs : List Slot) → X → Args (λ k. Lft) zs X
lives [] x = x
lives (z ∷ zs) x = (z.life, lives zs x)

abbrev pub shares : {X : Type 0} (zs : List Slot) → X → Args (λ k. Share) zs X
shares [] x = x
shares (z ∷ zs) x = (z.share, shares zs x)

-- lists before other things, and without them; that they are long enough, before other things
abbrev pub listed : {X : Type 0} (zs : List Slot) → Lists zs → X → Args Elements zs X
listed [] ls x = x
listed (z ∷ zs) ls x = (ls.0, listed zs ls.1 x)

abbrev pub firsts : (X : Type 0) (zs : List Slot) → Args Elements zs X → Lists zs
firsts X [] ws = tt
firsts X (z ∷ zs) ws = (ws.0, firsts X zs ws.1)

abbrev pub LongArgs : (zs : List Slot) → Lists zs → Type 0 → Type 0
LongArgs [] ls X = X
LongArgs (z ∷ zs) ls X = (length ls.0 ≡ z.len) × LongArgs zs ls.1 X

abbrev pub long_args : {X : Type 0} (zs : List Slot) (ls : Lists zs) → Long zs ls → X → LongArgs zs ls X
long_args [] ls long x = x
long_args (z ∷ zs) ls long x = (long.0, long_args zs ls.1 long.1 x)

-- numbers that a call is passed after the slices
abbrev pub words : List ℕ → List Fml
words [] = []
words (n ∷ ns) = usize.own_val n (vint w64 n ∷ []) ∷ words ns

abbrev pub Fit : List ℕ → Type 0
Fit [] = Unit {0}
Fit (n ∷ ns) = (n < 2 ^ 64) × Fit ns

pub own_words : {M : Type 1} {𝓤 : Ura M} {𝓛 : Logic 𝓤} {K : Type 0} {Γ : List (Item 𝓤)} {G : Goal 𝓤 𝓛.H} → K → (ns : List ℕ) → Fit ns → (last : Fml) → Step K 𝓛 (‵ (chain (words ns) last) ∷ Γ) G (‵ last ∷ Γ) G
own_words t [] fit last = step (λ s. s)
own_words {𝓤 = 𝓤} {𝓛 = 𝓛} t (n ∷ ns) fit last =
    step (λ s. own_words t ns fit.1 last $ makes t usize (Is usize) (uint_Makes 𝓛 w64) n (vint w64 n ∷ []) (refl, fit.0) $ fjoin t $ s)

-- parameters of which a contract says nothing at the exit
abbrev pub silent : ℕ → List Fml
silent zero = []
silent (suc n) = ftrue ∷ silent n

-- ---- the slices of a function's own arguments
-- something of each kind, before other things
abbrev pub Each : (Kind → Type 0) → List Kind → Type 0 → Type 0
Each Y [] X = X
Each Y (k ∷ ks) X = Y k × Each Y ks X

-- X, Y and Z are what stands after the lifetimes, the shares and the references of these slices
module _ (X Y Z : Type 0) where
  abbrev pub Lives : List Kind → Type 0
  Lives ks = Each (λ k. Lft) ks X

  abbrev pub Shares : List Kind → Type 0
  Shares ks = Each (λ k. Share) ks Y

  abbrev pub Refs : List Kind → Type 0
  Refs ks = Each Ref ks Z

  abbrev pub slots_at : (ks : List Kind) → ℕ → Lives ks → Shares ks → Refs ks → List Slot
  slots_at [] j κs qs rs = []
  slots_at (k ∷ ks) j κs qs rs =
      record { kind = k; code = named j; life = κs.0; share = qs.0; base = rs.0.ref_ptr.0; off = rs.0.ref_ptr.1; name = rs.0.ghost_name; len = length rs.0.now }
      ∷ slots_at ks (suc j) κs.1 qs.1 rs.1

  abbrev pub nows : (ks : List Kind) (j : ℕ) (κs : Lives ks) (qs : Shares ks) (rs : Refs ks) → Lists (slots_at ks j κs qs rs)
  nows [] j κs qs rs = tt
  nows (k ∷ ks) j κs qs rs = (rs.0.now, nows ks (suc j) κs.1 qs.1 rs.1)

  abbrev pub nows_long : (ks : List Kind) (j : ℕ) (κs : Lives ks) (qs : Shares ks) (rs : Refs ks) → Long (slots_at ks j κs qs rs) (nows ks j κs qs rs)
  nows_long [] j κs qs rs = tt
  nows_long (k ∷ ks) j κs qs rs = (refl, nows_long ks (suc j) κs.1 qs.1 rs.1)
