-- 'An index is then denied only at capacity.'
use Rattle.std.specs.Prelude.{ℕ, ◌≤◌, ◌<◌, Bool, true, false, ◌&&◌, List, refl, get_or, eqb}
use Rattle.std.proofs.Math.Decide.{ℕ_discrete}
use Rattle.std.proofs.Common.{arith, sym, ◌∙◌, eq-eqb, ne_eqb, eqb-true, lt-ltb}
use Rattle.std.proofs.Math.Path.{◌≡◌, ap}
use Rattle.terms.specs.Below.{both, positive}
use Rattle.placement.specs.Growth.{grown, grown_stays, grown_within_lem}
use Rattle.labels.specs.CountedLaws.{unused_stacked}
use Rattle.store_definitions.specs.declared.Store.{Store}
use Rattle.store_definitions.specs.Memory.{PointStore}
use Rattle.store_definitions.specs.Answers.{refused}
use Rattle.store_definitions.specs.Parts.{table_length, point_table}
use Rattle.store_definitions.specs.Decisions.{live}
use Rattle.store_definitions.specs.Adding.{table_full, AddDecided, keep, wait, refuse_add, add_decided, add_carried_out, add_spec}
use Rattle.store_definitions.specs.WellFormed.{well_formed}
use Rattle.store_laws.specs.Sound.{Sound, sound}
use Rattle.store_laws.specs.DecisionLaws.{never_go, form_never}
use Rattle.store_laws.specs.RefusalLaws.{never_but_full, keeps_refused}

-- a table cannot grow exactly where its length is the capacity
pub full_is : (s : Store) → table_length s ≤ s.capacity → table_full s ≡ eqb s.index_manager.last_in_use 0 && eqb (table_length s) s.capacity
unfolding table_full
full_is s h =
    let n : ℕ = table_length s in
    elim (ℕ_discrete n s.capacity) [
      | yes q ↦
          let g = grown_within_lem n 1 s.capacity h in
          rw (eq-eqb (grown n 1 s.capacity) n (omega (arith, g.0, g.1)), eq-eqb n s.capacity q)
      | no d ↦
          rw (ne_eqb (grown n 1 s.capacity) n (λ e. d (grown_stays n 1 s.capacity (omega arith) h e)), ne_eqb n s.capacity d)
    ]

-- a table whose manager is empty has no index but live ones
all_live : {E : Type 0} (p : PointStore E) → Sound p → p.header.index_manager.last_in_use ≡ 0 → (i : ℕ) → i < table_length p.header → live p i ≡ true
unfolding live
all_live p w none i l =
    let counted : 0 < get_or p.memory.reference_count i 0 =
    positive (get_or p.memory.reference_count i 0) (λ z. omega (arith, none, unused_stacked (table_length p.header) (point_table p) w.points i l z)) in
    rw (lt-ltb i (table_length p.header) l, lt-ltb 0 (get_or p.memory.reference_count i 0) counted)

module _ {E : Type 0} (eq : E → E → Bool) (zero_element : E) (p : PointStore E) (point : List E) (code : ℕ) where
  -- a refusal other than 10 was decided before room was made
  refused_decided : (n : ℕ) → (n ≡ 10 → ⊥) → (add_spec eq zero_element p point code).answer ≡ refused n → add_decided p point code ≡ refuse_add n
  unfolding add_spec
  refused_decided n d = split (add_decided p point code)
    where
      split : (a : AddDecided) → (add_carried_out eq zero_element a p point code).answer ≡ refused n → a ≡ refuse_add n
      split keep q = absurd (d (keeps_refused eq zero_element p point code n q).0)
      split wait q = absurd (let z : ◌≡◌ {A = ℕ} 0 1 = cc in omega arith)
      split (refuse_add k) q = ap refuse_add (cc)

  nine_full : add_decided p point code ≡ refuse_add 9 → table_full p.header ≡ true
  nine_full e = split (table_full p.header) refl
    where
      split : (b : Bool) → table_full p.header ≡ b → table_full p.header ≡ true
      split true f = f
      split false f =
          absurd (never_but_full 9 p point code (form_never 9 p (λ z. omega arith)) (λ z. omega arith) (λ z. omega arith) (λ z. omega arith) (λ z. omega arith)
          (λ z. never_go 9 (rw f at z))
          e)

  -- an add of a well-formed store is denied an index only where the table has the capacity and all its indices are live
  pub nine_at_capacity : well_formed p ≡ true → (add_spec eq zero_element p point code).answer ≡ refused 9
      → (table_length p.header ≡ p.header.capacity) × ((i : ℕ) → i < p.header.capacity → live p i ≡ true)
  nine_at_capacity f e =
      let w = sound p f in
      let s : Store = p.header in
      let t = both (eqb s.index_manager.last_in_use 0) (eqb (table_length s) s.capacity) (sym (full_is s w.table_within) ∙ nine_full (refused_decided 9 (λ z. omega arith) e)) in
      let whole : table_length s ≡ s.capacity = eqb-true (table_length s) s.capacity t.1 in
      (whole, λ i l. all_live p w (eqb-true s.index_manager.last_in_use 0 t.0) i (omega (arith, whole, l)))
