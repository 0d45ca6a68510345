-- What an accepted call may rely on.
use Rattle.std.specs.Prelude.{ℕ, ◌<◌, Bool, true, false, cond, List, ◌≡◌, refl, get_or, ltb, eqb}
use Rattle.std.proofs.Common.{arith}
use borrow.Author.Tests.{ltb-true, eqb-false}
use Rattle.terms.specs.Below.{both}
use Rattle.interval_store_manager.specs.Calls.{Decided, go, refuse}
use Rattle.interval_store_manager.specs.DecisionLaws.{no_go}
use Rattle.labels.specs.Decisions.{in_use, inc_decided, dec_decided}
use Rattle.store_definitions.specs.Memory.{PointStore}
use Rattle.store_definitions.specs.Parts.{table_length}
use Rattle.store_definitions.specs.Answers.{Outcome}
use Rattle.store_definitions.specs.Decisions.{and_then, refuse_if, form_decided, live, touch_decided, carried_out}
use Rattle.store_definitions.specs.WellFormed.{well_formed}

pub both_go : (a b : Decided) → and_then a b ≡ go → (a ≡ go) × (b ≡ go)
both_go go b e = (refl, e)
both_go (refuse n) b e = no_go e

-- a cause that did not apply
pub not_refused : (b : Bool) (n : ℕ) → refuse_if b n ≡ go → b ≡ false
not_refused true n e = no_go e
not_refused false n e = refl

pub allowed : (b : Bool) (n : ℕ) → cond b go (refuse n) ≡ go → b ≡ true
allowed true n e = refl
allowed false n e = no_go e

-- a label index in use
pub record Used (capacity : ℕ) (counts : List ℕ) (l : ℕ) : Type 0 where
  pub below : l < capacity
  pub counted : 0 < get_or counts l 0

used : (capacity : ℕ) (counts : List ℕ) (l : ℕ) → in_use true capacity counts l ≡ true → Used capacity counts l
unfolding in_use
used capacity counts l e =
    let p = both (ltb l capacity) (ltb 0 (get_or counts l 0)) e in
    record { below = ltb-true l capacity p.0; counted = ltb-true 0 (get_or counts l 0) p.1 }

pub inc_label_go : (capacity : ℕ) (counts : List ℕ) (l : ℕ) → inc_decided true capacity counts l ≡ go → Used capacity counts l × (get_or counts l 0 ≡ 65535 → ⊥)
unfolding inc_decided
inc_label_go capacity counts l e = split (in_use true capacity counts l) (eqb (get_or counts l 0) 65535) refl refl e
  where
    split : (a b : Bool) → in_use true capacity counts l ≡ a → eqb (get_or counts l 0) 65535 ≡ b → cond a (cond b (refuse 7) go) (refuse 6) ≡ go → Used capacity counts l × (get_or counts l 0 ≡ 65535 → ⊥)
    split true true u f e = no_go e
    split true false u f e = (used capacity counts l u, eqb-false (get_or counts l 0) 65535 f)
    split false b u f e = no_go e

pub dec_label_go : (capacity : ℕ) (counts : List ℕ) (l : ℕ) → dec_decided true capacity counts l ≡ go → Used capacity counts l
unfolding dec_decided
dec_label_go capacity counts l e = used capacity counts l (allowed (in_use true capacity counts l) 6 e)

module _ {E : Type 0} where
  pub touch_go : (p : PointStore E) (i : ℕ) → touch_decided p i ≡ go → (i < table_length p.header) × (0 < get_or p.memory.reference_count i 0)
  unfolding touch_decided live
  touch_go p i e =
      let q = both (ltb i (table_length p.header)) (ltb 0 (get_or p.memory.reference_count i 0)) (allowed (live p i) 5 e) in
      (ltb-true i (table_length p.header) q.0, ltb-true 0 (get_or p.memory.reference_count i 0) q.1)

  -- a decision carried out: what holds before holds after a refusal
  pub carried : (P : PointStore E → Type 0) (d : Decided) (p : PointStore E) (o : Outcome E) → P p → (d ≡ go → P o.after) → P (carried_out d p o).after
  carried P go p o h f = f refl
  carried P (refuse n) p o h f = h

-- a refusal that a decision never gives
abbrev pub Never : ℕ → Decided → Type 0
Never k d = d ≡ refuse k → ⊥

module _ (k : ℕ) where
  pub never_go : Never k go
  never_go e = let z : ◌≡◌ {A = ℕ} 0 1 = cc in omega arith

  pub never_then : (a b : Decided) → Never k a → Never k b → Never k (and_then a b)
  never_then go b f g = g
  never_then (refuse n) b f g = f

  pub never_if : (b : Bool) (n : ℕ) → (n ≡ k → ⊥) → Never k (refuse_if b n)
  never_if true n d e = d (cc)
  never_if false n d e = never_go e

  pub never_unless : (b : Bool) (n : ℕ) → (n ≡ k → ⊥) → Never k (cond b go (refuse n))
  never_unless true n d e = never_go e
  never_unless false n d e = d (cc)

  pub form_never : {E : Type 0} (p : PointStore E) → (1 ≡ k → ⊥) → Never k (form_decided p)
  unfolding form_decided
  form_never p d = never_unless (well_formed p) 1 d
