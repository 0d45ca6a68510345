-- The locals that hold lent slices, as one entry of a walk's context however many they are: the parameters, one local each, and the
-- pairs of locals by which the code lends each slice on to a call.
use Rattle.std.specs.Prelude.{◌≡◌, refl, ℕ, suc, List, [], ◌∷◌}
use Rattle.std.proofs.Common.{sym, subst}
use seplogic.Ra.Ura.{Ura}
use base.Fraction.{full_share}
use mir.Syntax.{Ty, Mutability, Local, local, value_local, named, erased, mut, ty_ref, Step as PStep, field, deref, place, Opd as Operand, copy, addr_of, aggregate, Body, seq, assign}
use mir.Val.{Val, vptr}
use base.Logic.{ent, sep, via}
use base.Fml.{Fml, ftrue, fsep, fat, froom, fdies}
use prog.Wp.{Heap, Env, Spot, Calls, Loops, spot_of}
use types.Logic.{Logic, sem}
use types.Kit.{Item, ‵, mean, ⋆, nth, del, pull, unpull, push, pop, Post, Goal, runs, allocs, passes, frees, Seq, Step, step, ◌$◌, ◌∵◌, !, qed, move, use1, drop, fsplit, fjoin, done}
use types.Part.{agg, whole, sub, look_in}
use types.Run.{Walks, Finds, Opd, Opds, look, init, forget, stop, hop, fld, from, load, addr, and_then, no_more, assigns, alloc1, pass1, free1}
use denote.Slice.{slice_ty}
use denote.Steps.{nothing}
use Rattle.struct_lists.specs.Slices.{Kind, ty_of, Slot, value, Rooms}

-- ---- locals of any types
-- where they lie, and what they hold
abbrev pub Places : List Ty → Type 0
Places [] = Unit {0}
Places (t ∷ ts) = ℕ × Places ts

abbrev pub Held : List Ty → Type 0
Held [] = Unit {0}
Held (t ∷ ts) = Val × Held ts

abbrev pub locals : List Ty → List Local → List Local
locals [] ls = ls
locals (t ∷ ts) ls = local t value_local ∷ locals ts ls

abbrev pub placed : (ts : List Ty) → Places ts → List (Ty × ℕ) → List (Ty × ℕ)
placed [] bs E = E
placed (t ∷ ts) bs E = (t, bs.0) ∷ placed ts bs.1 E

abbrev pub empty : (ts : List Ty) → Places ts → Fml
empty [] bs = ftrue
empty (t ∷ ts) bs = fsep (froom t bs.0 0) (empty ts bs.1)

abbrev pub full : (ts : List Ty) → Places ts → Held ts → Fml
full [] bs vs = ftrue
full (t ∷ ts) bs vs = fsep (fat full_share t bs.0 0 vs.0) (full ts bs.1 vs.1)

abbrev pub mortal : (ts : List Ty) → Places ts → Fml
mortal [] bs = ftrue
mortal (t ∷ ts) bs = fsep (fdies t bs.0) (mortal ts bs.1)

module _ {M : Type 1} {𝓤 : Ura M} {𝓛 : Logic 𝓤} {K : Type 0} where
  open 𝓛 use {H}

  pub alloc_all : K → (ts : List Ty) {ls : List Local} {Kt : Env 𝓤 H → Goal 𝓤 H} {Γ : List (Item 𝓤)}
      → ((bs : Places ts) → Seq K 𝓛 (‵ (empty ts bs) ∷ ‵ (mortal ts bs) ∷ Γ) (allocs ls (λ E. Kt (placed ts bs E))))
      → Seq K 𝓛 Γ (allocs (locals ts ls) Kt)
  alloc_all k [] go = nothing k $ nothing k $ go tt
  alloc_all k (t ∷ ts) go =
      alloc1 k (λ b. alloc_all k ts (λ bs. move k (2 ∷ 0 ∷ []) $ fjoin k $ move k (2 ∷ 1 ∷ []) $ fjoin k $ move k (1 ∷ []) $ go (b, bs)))

  pub free_all : K → (ts : List Ty) (bs : Places ts) {E : Env 𝓤 H} {g : Goal 𝓤 H} {Γ : List (Item 𝓤)}
      → Step K 𝓛 Γ (frees E g) (‵ (empty ts bs) ∷ ‵ (mortal ts bs) ∷ Γ) (frees (placed ts bs E) g)
  free_all k [] bs = step (λ s. drop k $ drop k $ s)
  free_all k (t ∷ ts) bs =
      step (λ s. fsplit k $ move k (2 ∷ []) $ fsplit k $ move k (2 ∷ 0 ∷ []) $ free1 k $ move k (1 ∷ 0 ∷ []) $ free_all k ts bs.1 $ s)

pub emptied : {M : Type 1} {𝓤 : Ura M} (𝓛 : Logic 𝓤) (ts : List Ty) (bs : Places ts) (vs : Held ts) → ent 𝓤 (sem 𝓛 (full ts bs vs)) (sem 𝓛 (empty ts bs))
emptied 𝓛 [] bs vs = qed 𝓛 (‵ ftrue ∷ []) ∵ done !
emptied 𝓛 (t ∷ ts) bs vs =
    qed 𝓛 (‵ (full (t ∷ ts) bs vs) ∷ []) ∵ fsplit ! $ forget ! 0 refl $ move ! (1 ∷ []) $
    use1 𝓛 (‵ (empty ts bs.1)) (emptied 𝓛 ts bs.1 vs.1) $ move ! (1 ∷ 0 ∷ []) $ fjoin ! $ done !

-- ---- those of lent slices
-- the pointer, and the slice made of it and the length
abbrev pointer_ty : Slot → Ty
pointer_ty z = ty_ref erased mut (ty_of z.kind)

abbrev lent_ty : Slot → Ty
lent_ty z = slice_ty (pointer_ty z)

abbrev pub slice_tys : Mutability → List Slot → List Ty
slice_tys μ [] = []
slice_tys μ (z ∷ zs) = slice_ty (ty_ref z.code μ (ty_of z.kind)) ∷ slice_tys μ zs

abbrev pub param_tys : List Slot → List Ty
param_tys zs = slice_tys mut zs

abbrev pub lent_tys : List Slot → List Ty
lent_tys [] = []
lent_tys (z ∷ zs) = pointer_ty z ∷ lent_ty z ∷ lent_tys zs

-- the same types by the kinds alone, as a function's list of locals is written; the first parameter's lifetime is j
abbrev pub params_at : Mutability → List Kind → ℕ → List Ty
params_at μ [] j = []
params_at μ (k ∷ ks) j = slice_ty (ty_ref (named j) μ (ty_of k)) ∷ params_at μ ks (suc j)

abbrev pub lent_at : List Kind → List Ty
lent_at [] = []
lent_at (k ∷ ks) = ty_ref erased mut (ty_of k) ∷ slice_ty (ty_ref erased mut (ty_of k)) ∷ lent_at ks

abbrev pub param_held : (μ : Mutability) (zs : List Slot) → Held (slice_tys μ zs)
param_held μ [] = tt
param_held μ (z ∷ zs) = (value z, param_held μ zs)

abbrev pub lent_held : (zs : List Slot) → Held (lent_tys zs)
lent_held [] = tt
lent_held (z ∷ zs) = (vptr z.base z.off, (value z, lent_held zs))

abbrev pub param_vals : List Slot → List Val → List Val
param_vals [] vs = vs
param_vals (z ∷ zs) vs = value z ∷ param_vals zs vs

-- the statements that lend the parameters from k on by the locals from m on: `_m = &mut *_k.0; _m+1 = (_m, _k.1)`; the arguments
abbrev pub lend_code : List Slot → ℕ → ℕ → Body → Body
lend_code [] k m rest = rest
lend_code (z ∷ zs) k m rest =
    seq (assign (place m []) (addr_of (place k (field 0 ∷ deref (ty_of z.kind) ∷ []))))
    (seq (assign (place (suc m) []) (aggregate (copy (place m []) ∷ copy (place k (field 1 ∷ [])) ∷ [])))
    (lend_code zs (suc k) (suc (suc m)) rest))

abbrev pub lent_opds : List Slot → ℕ → List Operand → List Operand
lent_opds [] m xs = xs
lent_opds (z ∷ zs) m xs = copy (place (suc m) []) ∷ lent_opds zs (suc (suc m)) xs

-- a bank's locals as arguments, the first of which is m, and their values
abbrev pub bank_opds : List Ty → ℕ → List Operand → List Operand
bank_opds [] m xs = xs
bank_opds (t ∷ ts) m xs = copy (place m []) ∷ bank_opds ts (suc m) xs

abbrev pub bank_vals : (ts : List Ty) → Held ts → List Val → List Val
bank_vals [] vs us = us
bank_vals (t ∷ ts) vs us = vs.0 ∷ bank_vals ts vs.1 us

-- the environment has these locals from k on; where it is written out each equation is `refl`
abbrev pub Found : {M : Type 1} (𝓤 : Ura M) (H : Heap 𝓤) → Env 𝓤 H → ℕ → (ts : List Ty) → Places ts → Type 0
Found 𝓤 H E k [] bs = Unit {0}
Found 𝓤 H E k (t ∷ ts) bs = (spot_of 𝓤 H E k ≡ (t, bs.0, 0)) × Found 𝓤 H E (suc k) ts bs.1

module _ {M : Type 1} {𝓤 : Ura M} {𝓛 : Logic 𝓤} {K : Type 0} where
  open 𝓛 use {H}

  pub pass_params : K → (μ : Mutability) (zs : List Slot) (bs : Places (slice_tys μ zs)) → Rooms zs → {E : Env 𝓤 H} {vs : List Val} {g : Goal 𝓤 H} {Γ : List (Item 𝓤)}
      → Step K 𝓛 (‵ (full (slice_tys μ zs) bs (param_held μ zs)) ∷ Γ) (passes E vs g) (‵ (empty (slice_tys μ zs) bs) ∷ Γ) (passes (placed (slice_tys μ zs) bs E) (param_vals zs vs) g)
  pass_params k μ [] bs rooms = step (λ s. s)
  pass_params k μ (z ∷ zs) bs rooms =
      step (λ s. fsplit k $ pass1 k (init k 0 refl (tt, (tt, (record { fits = rooms.0.0 }, tt)))) $
      move k (1 ∷ []) $ pass_params k μ zs bs.1 rooms.1 $ move k (1 ∷ 0 ∷ []) $ fjoin k $ s)

-- an entry of a context is its head, in another order
module _ {M : Type 1} {𝓤 : Ura M} (𝓛 : Logic 𝓤) (n : ℕ) (Γ : List (Item 𝓤)) (i : Item 𝓤) (e : nth 𝓛 n Γ ≡ i) where
  abbrev others : List (Item 𝓤)
  others = del 𝓛 n Γ

  abbrev this : Item 𝓤
  this = nth 𝓛 n Γ

  taken_out : ent 𝓤 (⋆ 𝓛 Γ) (⋆ 𝓛 (i ∷ others))
  taken_out =
      subst (λ (x : Item 𝓤). ent 𝓤 (⋆ 𝓛 Γ) (⋆ 𝓛 (x ∷ others))) e
      (via 𝓤 (sep 𝓤 (mean 𝓛 this) (⋆ 𝓛 others)) (pull 𝓛 n Γ) (push 𝓛 this others))

  put_back : ent 𝓤 (⋆ 𝓛 (i ∷ others)) (⋆ 𝓛 Γ)
  put_back =
      subst (λ (x : Item 𝓤). ent 𝓤 (⋆ 𝓛 (x ∷ others)) (⋆ 𝓛 Γ)) e
      (via 𝓤 (sep 𝓤 (mean 𝓛 this) (⋆ 𝓛 others)) (pop 𝓛 this others) (unpull 𝓛 n Γ))

module _ {M : Type 1} {𝓤 : Ura M} {𝓛 : Logic 𝓤} {K : Type 0} {E : Env 𝓤 𝓛.H} where
  open 𝓛 use {H}

  at : K → {Γ : List (Item 𝓤)} {i : ℕ} {st : List PStep} {sp₀ sp : Spot 𝓤 H} → spot_of 𝓤 H E i ≡ sp₀ → Walks K 𝓛 Γ E sp₀ st sp → Finds K 𝓛 Γ E (place i st) sp
  at k {Γ} {i} {st} {sp₀} {sp} e w = from k (subst (λ (s : Spot 𝓤 H). Walks K 𝓛 Γ E s st sp) (sym e) w)

  pub lend_code_lem : K → (zs : List Slot) (ps : Places (param_tys zs)) (bs : Places (lent_tys zs)) (i m : ℕ) → Rooms zs → Found 𝓤 H E i (param_tys zs) ps → Found 𝓤 H E m (lent_tys zs) bs → {C : Calls 𝓤 H} {Λ : Loops 𝓤 H} {q : Post 𝓤 H} {rest : Body} {Γ : List (Item 𝓤)}
      → Step K 𝓛 (‵ (full (param_tys zs) ps (param_held mut zs)) ∷ ‵ (full (lent_tys zs) bs (lent_held zs)) ∷ Γ) (runs C Λ E rest q) (‵ (full (param_tys zs) ps (param_held mut zs)) ∷ ‵ (empty (lent_tys zs) bs) ∷ Γ) (runs C Λ E (lend_code zs i m rest) q)
  lend_code_lem k [] ps bs i m rooms fp ft = step (λ s. s)
  lend_code_lem k (z ∷ zs) ps bs i m rooms fp ft = step (λ s.
      fsplit k $ move k (2 ∷ []) $ fsplit k $ move k (1 ∷ []) $ fsplit k $
      -- [the slice's local; the others; the pointer's; the parameter; the others]
      assigns k (addr k (at k fp.0 (fld k refl (hop k (look_in k 3 (sub k 0 refl (whole k))) (stop k)))))
      (at k ft.0 (stop k)) (init k 2 refl (tt, tt)) $
      assigns k (agg k (and_then k (load k (at k ft.0 (stop k)) (look k 2 refl)) (and_then k (load k (at k fp.0 (fld k refl (stop k))) (look_in k 3 (sub k 1 refl (whole k)))) (no_more k))))
      (at k ft.1.0 (stop k)) (init k 0 refl (tt, (tt, (record { fits = rooms.0.0 }, tt)))) $
      move k (4 ∷ 1 ∷ []) $ lend_code_lem k zs ps.1 bs.1.1 (suc i) (suc (suc m)) rooms.1 fp.1 ft.1.1 $
      move k (4 ∷ 0 ∷ []) $ fjoin k $ move k (2 ∷ 1 ∷ []) $ fjoin k $ move k (2 ∷ 0 ∷ []) $ fjoin k $ move k (1 ∷ []) $ s)

  within : {Γ Γ' : List (Item 𝓤)} {x : Operand} {v : Val} → ent 𝓤 (⋆ 𝓛 Γ) (⋆ 𝓛 Γ') → ent 𝓤 (⋆ 𝓛 Γ') (⋆ 𝓛 Γ) → Opd K 𝓛 Γ' E x v → Opd K 𝓛 Γ E x v
  within {Γ} {Γ'} there back o = record { go = λ Kt h. via 𝓤 (⋆ 𝓛 Γ') there (o.go Kt (via 𝓤 (⋆ 𝓛 Γ) back h)) }

  -- a bank's locals as arguments, where Δ is the bank and Γ, in some order
  bank_opds_lem : K → (ts : List Ty) (bs : Places ts) (vs : Held ts) (m : ℕ) → Found 𝓤 H E m ts bs → (Γ Δ : List (Item 𝓤)) → ent 𝓤 (⋆ 𝓛 Δ) (⋆ 𝓛 (‵ (full ts bs vs) ∷ Γ)) → ent 𝓤 (⋆ 𝓛 (‵ (full ts bs vs) ∷ Γ)) (⋆ 𝓛 Δ)
      → {xs : List Operand} {us : List Val} → Opds K 𝓛 Δ E xs us → Opds K 𝓛 Δ E (bank_opds ts m xs) (bank_vals ts vs us)
  bank_opds_lem k [] bs vs m fd Γ Δ there back os = os
  bank_opds_lem k (t ∷ ts) bs vs m fd Γ Δ there back os =
      let this : Item 𝓤 = ‵ (fat full_share t bs.0 0 vs.0) in
      let others : Item 𝓤 = ‵ (full ts bs.1 vs.1) in
      let all : Item 𝓤 = ‵ (full (t ∷ ts) bs vs) in
      let apart = via 𝓤 (⋆ 𝓛 (all ∷ Γ)) there (qed 𝓛 (all ∷ Γ) ∵ fsplit ! $ done !) in
      let together = via 𝓤 (⋆ 𝓛 (all ∷ Γ)) (qed 𝓛 (this ∷ others ∷ Γ) ∵ fjoin ! $ done !) back in
      and_then k (within {Γ = Δ} {Γ' = this ∷ others ∷ Γ} apart together (load k (at k fd.0 (stop k)) (look k 0 refl)))
      (bank_opds_lem k ts bs.1 vs.1 (suc m) fd.1 (this ∷ Γ) Δ
      (via 𝓤 (⋆ 𝓛 (this ∷ others ∷ Γ)) apart (qed 𝓛 (this ∷ others ∷ Γ) ∵ move ! (1 ∷ []) $ done !))
      (via 𝓤 (⋆ 𝓛 (this ∷ others ∷ Γ)) (qed 𝓛 (others ∷ this ∷ Γ) ∵ move ! (1 ∷ []) $ done !) together) os)

  -- the arguments' values, where the bank is entry n of the context
  pub local_opds : K → (ts : List Ty) (bs : Places ts) (vs : Held ts) (m : ℕ) → Found 𝓤 H E m ts bs → (n : ℕ) {Γ : List (Item 𝓤)} → nth 𝓛 n Γ ≡ ‵ (full ts bs vs) → {xs : List Operand} {us : List Val} → Opds K 𝓛 Γ E xs us → Opds K 𝓛 Γ E (bank_opds ts m xs) (bank_vals ts vs us)
  local_opds k ts bs vs m fd n {Γ} e os = bank_opds_lem k ts bs vs m fd (del 𝓛 n Γ) Γ (taken_out 𝓛 n Γ _ e) (put_back 𝓛 n Γ _ e) os

  -- Δ is the lent slices' locals and Γ, in some order
  opds : K → (zs : List Slot) (bs : Places (lent_tys zs)) (m : ℕ) → Found 𝓤 H E m (lent_tys zs) bs → (Γ Δ : List (Item 𝓤)) → ent 𝓤 (⋆ 𝓛 Δ) (⋆ 𝓛 (‵ (full (lent_tys zs) bs (lent_held zs)) ∷ Γ)) → ent 𝓤 (⋆ 𝓛 (‵ (full (lent_tys zs) bs (lent_held zs)) ∷ Γ)) (⋆ 𝓛 Δ)
      → {xs : List Operand} {vs : List Val} → Opds K 𝓛 Δ E xs vs → Opds K 𝓛 Δ E (lent_opds zs m xs) (param_vals zs vs)
  opds k [] bs m ft Γ Δ there back os = os
  opds k (z ∷ zs) bs m ft Γ Δ there back os =
      let pointer : Item 𝓤 = ‵ (fat full_share (pointer_ty z) bs.0 0 (vptr z.base z.off)) in
      let slice : Item 𝓤 = ‵ (fat full_share (lent_ty z) bs.1.0 0 (value z)) in
      let others : Item 𝓤 = ‵ (full (lent_tys zs) bs.1.1 (lent_held zs)) in
      let all : Item 𝓤 = ‵ (full (lent_tys (z ∷ zs)) bs (lent_held (z ∷ zs))) in
      let apart = via 𝓤 (⋆ 𝓛 (all ∷ Γ)) there (qed 𝓛 (all ∷ Γ) ∵ fsplit ! $ move ! (1 ∷ []) $ fsplit ! $ done !) in
      let together = via 𝓤 (⋆ 𝓛 (all ∷ Γ)) (qed 𝓛 (slice ∷ others ∷ pointer ∷ Γ) ∵ fjoin ! $ move ! (1 ∷ []) $ fjoin ! $ done !) back in
      and_then k (within {Γ = Δ} {Γ' = slice ∷ others ∷ pointer ∷ Γ} apart together (load k (at k ft.1.0 (stop k)) (look k 0 refl)))
      (opds k zs bs.1.1 (suc (suc m)) ft.1.1 (slice ∷ pointer ∷ Γ) Δ
      (via 𝓤 (⋆ 𝓛 (slice ∷ others ∷ pointer ∷ Γ)) apart (qed 𝓛 (slice ∷ others ∷ pointer ∷ Γ) ∵ move ! (1 ∷ []) $ done !))
      (via 𝓤 (⋆ 𝓛 (slice ∷ others ∷ pointer ∷ Γ)) (qed 𝓛 (others ∷ slice ∷ pointer ∷ Γ) ∵ move ! (1 ∷ []) $ done !) together) os)

  -- the same of the slices that are lent on
  pub lent_opds_lem : K → (zs : List Slot) (bs : Places (lent_tys zs)) (m : ℕ) → Found 𝓤 H E m (lent_tys zs) bs → (n : ℕ) {Γ : List (Item 𝓤)} → nth 𝓛 n Γ ≡ ‵ (full (lent_tys zs) bs (lent_held zs)) → {xs : List Operand} {vs : List Val} → Opds K 𝓛 Γ E xs vs → Opds K 𝓛 Γ E (lent_opds zs m xs) (param_vals zs vs)
  lent_opds_lem k zs bs m ft n {Γ} e os = opds k zs bs m ft (del 𝓛 n Γ) Γ (taken_out 𝓛 n Γ _ e) (put_back 𝓛 n Γ _ e) os
