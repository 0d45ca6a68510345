-- Tests with one arm, where the walk cannot know how they end: a premise for each way.
use Rattle.std.specs.Prelude.{ℕ, Bool, not, List, T}
use seplogic.Ra.Ura.{Ura}
use mir.Syntax.{Opd as Operand, Body, seq, cond, skip, exit}
use mir.Val.{vbool}
use prog.Wp.{Env, Calls, Loops, Wp, after_seq, exits}
use types.Logic.{Logic}
use types.Kit.{Item, Post, post, any_q, Seq, prop, runs, ◌$◌}
use types.Run.{Opd, first, branches, skips, jumps}

module _ {M : Type 1} {𝓤 : Ura M} {𝓛 : Logic 𝓤} {K : Type 0} {Γ : List (Item 𝓤)} {E : Env 𝓤 𝓛.H} {C : Calls 𝓤 𝓛.H} {Λ : Loops 𝓤 𝓛.H} {q : Post 𝓤 𝓛.H} where
  -- the test of a `while`: where it fails, the loop is left
  open 𝓛 use {H}

  pub while_test : K → {c : Operand} {depth : ℕ} {turn : Body} {b : Bool} → Opd K 𝓛 Γ E c (vbool b)
      → (T b → Seq K 𝓛 Γ (runs C Λ E turn q))
      → (T (not b) → Seq K 𝓛 Γ (prop (post 𝓤 H q (exits depth))))
      → Seq K 𝓛 Γ (runs C Λ E (seq (cond c skip (exit depth)) turn) q)
  while_test t c holds fails =
      first t $ branches t c (λ h. skips t $ record { prf = (holds h).prf }) (λ h. jumps t $ record { prf = (fails h).prf })

  -- `if c { arm }` before the rest
  pub if_test : K → {c : Operand} {arm rest : Body} {b : Bool} → Opd K 𝓛 Γ E c (vbool b)
      → (T b → Seq K 𝓛 Γ (runs C Λ E arm (any_q (after_seq 𝓤 H (Wp 𝓤 H C Λ E rest (post 𝓤 H q)) (post 𝓤 H q)))))
      → (T (not b) → Seq K 𝓛 Γ (runs C Λ E rest q))
      → Seq K 𝓛 Γ (runs C Λ E (seq (cond c arm skip) rest) q)
  if_test t c holds fails = first t $ branches t c holds (λ h. skips t $ record { prf = (fails h).prf })
