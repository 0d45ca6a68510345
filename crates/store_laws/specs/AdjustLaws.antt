-- What an adjust leaves: what its accepted pairs left, up to the end of the list or to the pair that was refused.
use Rattle.std.specs.Prelude.{ℕ, suc, ◌+◌, Bool, length, eqb}
use Rattle.std.proofs.Common.{arith, ◌∙◌, ap}
use Rattle.std.proofs.Math.Bool.{true, false, cond}
use mathlib.Core.List.{List, [], ◌∷◌, ◌++◌}
use Rattle.std.proofs.Math.Path.{◌≡◌, refl, subst⁻¹}
use Rattle.interval_store_manager.specs.Calls.{Decided, go, refuse}
use Rattle.labels.specs.Decisions.{none}
use Rattle.store_definitions.specs.Memory.{PointStore}
use Rattle.store_definitions.specs.Answers.{done, refused_after, Outcome}
use Rattle.store_definitions.specs.Counting.{Pairing, pair_decided, pair_done, unless_refused, adjust_from, adjust_spec}
use Rattle.store_definitions.specs.Decisions.{form_decided}
use Rattle.store_definitions.specs.WellFormed.{well_formed}

module _ {E : Type 0} where
  -- a pair, where one that is skipped is accepted and changes nothing
  abbrev pub step_decided : PointStore E → Pairing → Decided
  step_decided p q = cond (eqb q.insert_index none) go (pair_decided p q)

  abbrev pub step_done : PointStore E → Pairing → PointStore E
  step_done p q = cond (eqb q.insert_index none) p (pair_done p q)

  -- pairs one after the other, and that each was accepted in its turn
  abbrev pub pairs_done : List Pairing → PointStore E → PointStore E
  pairs_done [] p = p
  pairs_done (q ∷ qs) p = pairs_done qs (step_done p q)

  abbrev pub Accepted : List Pairing → PointStore E → Type 0
  Accepted [] p = Unit {0}
  Accepted (q ∷ qs) p = (step_decided p q ≡ go) × Accepted qs (step_done p q)

  -- a refused pair ends the call: those before it were accepted, and the store is as they left it
  pub record Stopped (before : ℕ) (qs : List Pairing) (p after : PointStore E) (n k : ℕ) : Type 0 where
    pub first : List Pairing
    pub pair : Pairing
    pub rest : List Pairing
    pub split : qs ≡ first ++ pair ∷ rest
    pub stand : k ≡ before + length first
    pub accepted : Accepted first p
    pub left : after ≡ pairs_done first p
    pub why : step_decided after pair ≡ refuse n

  -- one pair, and then the rest
  adjust_step : (before : ℕ) (q : Pairing) (qs : List Pairing) (p : PointStore E) → adjust_from before (q ∷ qs) p ≡ unless_refused (step_decided p q) before p (adjust_from (suc before) qs (step_done p q))
  unfolding adjust_from
  adjust_step before q qs p = choose (eqb q.insert_index none)
    where
      choose : (b : Bool) → cond b (adjust_from (suc before) qs p) (unless_refused (pair_decided p q) before p (adjust_from (suc before) qs (pair_done p q))) ≡ unless_refused (cond b go (pair_decided p q)) before p (adjust_from (suc before) qs (cond b p (pair_done p q)))
      choose true = refl
      choose false = refl

  further : (before : ℕ) (q : Pairing) (qs : List Pairing) (p after : PointStore E) (n k : ℕ) → step_decided p q ≡ go → Stopped (suc before) qs (step_done p q) after n k → Stopped before (q ∷ qs) p after n k
  further before q qs p after n k e s =
      record {
        first = q ∷ s.first;
        pair = s.pair;
        rest = s.rest;
        split = ap (λ (l : List Pairing). q ∷ l) s.split;
        stand = omega (arith, s.stand);
        accepted = (e, s.accepted);
        left = s.left;
        why = s.why;
      }

  stopped_or : (before : ℕ) (q : Pairing) (qs : List Pairing) (p : PointStore E) (n k : ℕ) (d : Decided) → step_decided p q ≡ d
      → ((adjust_from (suc before) qs (step_done p q)).answer ≡ refused_after n k → Stopped (suc before) qs (step_done p q) (adjust_from (suc before) qs (step_done p q)).after n k)
      → (unless_refused d before p (adjust_from (suc before) qs (step_done p q))).answer ≡ refused_after n k
      → Stopped before (q ∷ qs) p (unless_refused d before p (adjust_from (suc before) qs (step_done p q))).after n k
  stopped_or before q qs p n k go e f a = further before q qs p _ n k e (f a)
  stopped_or before q qs p n k (refuse m) e f a =
      let at : before ≡ k = cc in
      let same : m ≡ n = cc in
      record {
        first = [];
        pair = q;
        rest = qs;
        split = refl;
        stand = omega arith;
        accepted = tt;
        left = refl;
        why = e ∙ ap refuse same;
      }

  adjust_stopped : (before : ℕ) (qs : List Pairing) (p : PointStore E) (n k : ℕ) → (adjust_from before qs p).answer ≡ refused_after n k → Stopped before qs p (adjust_from before qs p).after n k
  unfolding adjust_from
  adjust_stopped before [] p n k e = absurd (let z : ◌≡◌ {A = ℕ} 0 1 = cc in omega arith)
  adjust_stopped before (q ∷ qs) p n k e =
      subst⁻¹ (λ (o : Outcome E). o.answer ≡ refused_after n k → Stopped before (q ∷ qs) p o.after n k) (adjust_step before q qs p)
      (stopped_or before q qs p n k (step_decided p q) refl (adjust_stopped (suc before) qs (step_done p q) n k))
      e

  -- an adjust that is done: every pair was accepted
  done_or : (before : ℕ) (q : Pairing) (qs : List Pairing) (p : PointStore E) (d : Decided) → step_decided p q ≡ d
      → ((adjust_from (suc before) qs (step_done p q)).answer ≡ done → Accepted qs (step_done p q) × ((adjust_from (suc before) qs (step_done p q)).after ≡ pairs_done qs (step_done p q)))
      → (unless_refused d before p (adjust_from (suc before) qs (step_done p q))).answer ≡ done
      → Accepted (q ∷ qs) p × ((unless_refused d before p (adjust_from (suc before) qs (step_done p q))).after ≡ pairs_done (q ∷ qs) p)
  done_or before q qs p go e f a = ((e, (f a).0), (f a).1)
  done_or before q qs p (refuse m) e f a = absurd (let z : ◌≡◌ {A = ℕ} 0 1 = cc in omega arith)

  adjust_done : (before : ℕ) (qs : List Pairing) (p : PointStore E) → (adjust_from before qs p).answer ≡ done → Accepted qs p × ((adjust_from before qs p).after ≡ pairs_done qs p)
  unfolding adjust_from
  adjust_done before [] p e = (tt, refl)
  adjust_done before (q ∷ qs) p e =
      subst⁻¹ (λ (o : Outcome E). o.answer ≡ done → Accepted (q ∷ qs) p × (o.after ≡ pairs_done (q ∷ qs) p)) (adjust_step before q qs p)
      (done_or before q qs p (step_decided p q) refl (adjust_done (suc before) qs (step_done p q)))
      e

  -- of a well-formed store: an adjust that is refused, and one that is done
  module _ (p : PointStore E) (qs : List Pairing) (w : well_formed p ≡ true) where
    pub adjust_on : adjust_spec p qs ≡ adjust_from 0 qs p
    unfolding adjust_spec form_decided
    adjust_on = rw w

    pub adjust_refused : (n k : ℕ) → (adjust_spec p qs).answer ≡ refused_after n k → Stopped 0 qs p (adjust_spec p qs).after n k
    adjust_refused n k =
        subst⁻¹ (λ (o : Outcome E). o.answer ≡ refused_after n k → Stopped 0 qs p o.after n k) adjust_on (adjust_stopped 0 qs p n k)

    pub adjust_accepted : (adjust_spec p qs).answer ≡ done → Accepted qs p × ((adjust_spec p qs).after ≡ pairs_done qs p)
    adjust_accepted =
        subst⁻¹ (λ (o : Outcome E). o.answer ≡ done → Accepted qs p × (o.after ≡ pairs_done qs p)) adjust_on (adjust_done 0 qs p)
