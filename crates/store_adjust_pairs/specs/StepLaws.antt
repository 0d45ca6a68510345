-- The check as an adjust of no pair and one pair as a list of one: what they come to, and what a pair leaves of the list that it begins.
use Rattle.std.specs.Prelude.{ℕ, suc, Bool, ◌≡◌, eqb}
use Rattle.std.proofs.Math.Bool.{true, false, cond}
use Rattle.std.proofs.Common.{true≢false, ◌∙◌}
use Rattle.std.proofs.lemmas.Bool.{false≢true}
use mathlib.Core.List.{List, [], ◌∷◌}
use Rattle.std.proofs.Math.Path.{refl, sym, ap}
use Rattle.interval_store_manager.specs.Calls.{Decided, go, refuse}
use Rattle.labels.specs.Decisions.{none}
use Rattle.store_definitions.specs.Memory.{PointStore}
use Rattle.store_definitions.specs.Answers.{done, Outcome, outcome}
use Rattle.store_definitions.specs.Decisions.{carried_out}
use Rattle.store_definitions.specs.Counting.{Pairing, pair_decided, pair_done, unless_refused, adjust_from, adjust_spec}
use Rattle.store_definitions.specs.WellFormed.{well_formed}
use Rattle.store_adjust.specs.Pairs.{pair_spec}
use Rattle.store_adjust.specs.PairLaws.{pair_keeps}
use Rattle.store_laws.specs.IllFormedLaws.{adjust_ill}
use Rattle.store_adjust.specs.Run.{spec_well}
use Rattle.store_adjust_pairs.specs.Steps.{accepted, checked_means, after_pairs}

module _ {E : Type 0} (p : PointStore E) (q : Pairing) (n : ℕ) where
  abbrev one : Outcome E
  one = adjust_from n (q ∷ []) p

  -- a pair's outcome, told by its place
  pub told : (o : Outcome E) → o ≡ pair_spec p q → outcome (after_pairs n o.answer) o.after ≡ one
  unfolding adjust_from pair_spec
  told o e = split (eqb q.insert_index none) (pair_decided p q) e
    where
      split : (b : Bool) (d : Decided) → o ≡ cond b (outcome done p) (carried_out d p (outcome done (pair_done p q))) → outcome (after_pairs n o.answer) o.after ≡ cond b (outcome done p) (unless_refused d n p (adjust_from (suc n) [] (pair_done p q)))
      split true d f = ap (λ (x : Outcome E). outcome (after_pairs n x.answer) x.after) f
      split false go f = ap (λ (x : Outcome E). outcome (after_pairs n x.answer) x.after) f
      split false (refuse k) f = ap (λ (x : Outcome E). outcome (after_pairs n x.answer) x.after) f

  pub one_keeps : well_formed p ≡ true → well_formed one.after ≡ true
  one_keeps f = sym (ap (λ (o : Outcome E). well_formed o.after) (told (pair_spec p q) refl)) ∙ pair_keeps p q f

  pub one_done : accepted one.answer ≡ true → one.answer ≡ done
  unfolding adjust_from
  one_done a = split (eqb q.insert_index none) (pair_decided p q) a
    where
      split : (b : Bool) (d : Decided) → accepted (cond b (outcome done p) (unless_refused d n p (adjust_from (suc n) [] (pair_done p q)))).answer ≡ true → (cond b (outcome done p) (unless_refused d n p (adjust_from (suc n) [] (pair_done p q)))).answer ≡ done
      split true d f = refl
      split false go f = refl
      split false (refuse k) f = absurd (false≢true f)

  module _ (qs : List Pairing) where
    -- an accepted pair leaves the rest to be done, a refused one ends the call
    pub one_goes_on : accepted one.answer ≡ true → adjust_from n (q ∷ qs) p ≡ adjust_from (suc n) qs one.after
    unfolding adjust_from
    one_goes_on a = split (eqb q.insert_index none) (pair_decided p q) a
      where
        split : (b : Bool) (d : Decided) → accepted (cond b (outcome done p) (unless_refused d n p (adjust_from (suc n) [] (pair_done p q)))).answer ≡ true → cond b (adjust_from (suc n) qs p) (unless_refused d n p (adjust_from (suc n) qs (pair_done p q))) ≡ adjust_from (suc n) qs (cond b (outcome done p) (unless_refused d n p (adjust_from (suc n) [] (pair_done p q)))).after
        split true d f = refl
        split false go f = refl
        split false (refuse k) f = absurd (false≢true f)

    pub one_ends : accepted one.answer ≡ false → adjust_from n (q ∷ qs) p ≡ one
    unfolding adjust_from
    one_ends a = split (eqb q.insert_index none) (pair_decided p q) a
      where
        split : (b : Bool) (d : Decided) → accepted (cond b (outcome done p) (unless_refused d n p (adjust_from (suc n) [] (pair_done p q)))).answer ≡ false → cond b (adjust_from (suc n) qs p) (unless_refused d n p (adjust_from (suc n) qs (pair_done p q))) ≡ cond b (outcome done p) (unless_refused d n p (adjust_from (suc n) [] (pair_done p q)))
        split true d f = absurd (true≢false f)
        split false go f = absurd (true≢false f)
        split false (refuse k) f = refl

module _ {E : Type 0} (p : PointStore E) where
  pub checked : (b : Bool) → b ≡ well_formed p → outcome (checked_means b) p ≡ adjust_spec p []
  unfolding adjust_from
  checked true e = spec_well p [] (sym e)
  checked false e = sym (adjust_ill p (sym e) [])
