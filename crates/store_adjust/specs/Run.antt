-- The pairs of a list in order, from any of them on: what one pair leaves of the rest.
use Rattle.std.specs.Prelude.{ℕ, suc, ◌+◌, ◌≤◌, ◌<◌, Bool, length, get_or, drop, eqb}
use Rattle.std.proofs.Common.{zero-le, add-one, add-one-le, arith, ◌∙◌, drop_of_length-le, drop-cons}
use Rattle.std.proofs.Math.Bool.{true, false, cond}
use mathlib.Core.List.{List, ◌∷◌}
use Rattle.std.proofs.Math.Path.{◌≡◌, sym, ap, ap₂}
use Rattle.interval_store_manager.specs.Calls.{Decided, go, refuse}
use Rattle.labels.specs.Decisions.{none}
use Rattle.store_definitions.specs.declared.Pair.{Pair}
use Rattle.store_definitions.specs.Memory.{PointStore}
use Rattle.store_definitions.specs.Answers.{done, refused, refused_after, Outcome, outcome}
use Rattle.store_definitions.specs.Decisions.{carried_out}
use Rattle.store_definitions.specs.Counting.{Pairing, pair_decided, pair_done, unless_refused, adjust_from, adjust_spec}
use Rattle.store_definitions.specs.WellFormed.{well_formed}
use Rattle.store_counts.specs.ReadingLaws.{well}
use Rattle.store_adjust.specs.Pairs.{pairing_of, pairings_of, pair_spec}
use Rattle.store_adjust.specs.PairLaws.{pair_keeps}

module _ {E : Type 0} (p : PointStore E) (q : Pairing) (qs : List Pairing) (n : ℕ) (o : Outcome E) (e : o ≡ pair_spec p q) where
  next_pair : o.answer ≡ done → adjust_from n (q ∷ qs) p ≡ adjust_from (suc n) qs o.after
  unfolding adjust_from pair_spec
  next_pair a = split (eqb q.insert_index none) (pair_decided p q) e
    where
      split : (b : Bool) (d : Decided) → o ≡ cond b (outcome done p) (carried_out d p (outcome done (pair_done p q))) → cond b (adjust_from (suc n) qs p) (unless_refused d n p (adjust_from (suc n) qs (pair_done p q))) ≡ adjust_from (suc n) qs o.after
      split true d f = ap (λ (x : Outcome E). adjust_from (suc n) qs x.after) (sym f)
      split false go f = ap (λ (x : Outcome E). adjust_from (suc n) qs x.after) (sym f)
      split false (refuse k) f =
          let x : refused k ≡ done = sym (ap (λ (x : Outcome E). x.answer) f) ∙ a in
          absurd (let z : ◌≡◌ {A = ℕ} 0 1 = cc in omega arith)

  last_pair : (k : ℕ) → o.answer ≡ refused k → adjust_from n (q ∷ qs) p ≡ outcome (refused_after k n) o.after
  unfolding adjust_from pair_spec
  last_pair k a = split (eqb q.insert_index none) (pair_decided p q) e
    where
      split : (b : Bool) (d : Decided) → o ≡ cond b (outcome done p) (carried_out d p (outcome done (pair_done p q))) → cond b (adjust_from (suc n) qs p) (unless_refused d n p (adjust_from (suc n) qs (pair_done p q))) ≡ outcome (refused_after k n) o.after
      split true d f =
          let x : done ≡ refused k = sym (ap (λ (x : Outcome E). x.answer) f) ∙ a in
          absurd (let z : ◌≡◌ {A = ℕ} 0 1 = cc in omega arith)
      split false go f =
          let x : done ≡ refused k = sym (ap (λ (x : Outcome E). x.answer) f) ∙ a in
          absurd (let z : ◌≡◌ {A = ℕ} 0 1 = cc in omega arith)
      split false (refuse j) f =
          let x : refused j ≡ refused k = sym (ap (λ (x : Outcome E). x.answer) f) ∙ a in
          let z : j ≡ k = cc in
          ap₂ (λ (y : ℕ) (x : Outcome E). outcome (refused_after y n) x.after) z (sym f)

-- what a list gives where it has no pair
abbrev pub no_pair : Pair
no_pair = record { insert = record { index = record { 0 = 0 }; label = record { 0 = 0 } }; delete = record { index = record { 0 = 0 }; label = record { 0 = 0 } } }

abbrev pub pair_at : List Pair → ℕ → Pair
pair_at ps i = get_or ps i no_pair

-- where the loop stands: the pairs from i on, from here, come to what all of them come to from the start
pub record State {E : Type 0} (pairs : List Pair) (p₀ p : PointStore E) (i : ℕ) : Type 0 where
  pub bound : i ≤ length pairs
  pub formed : well_formed p ≡ true
  pub run : adjust_from i (pairings_of (drop i pairs)) p ≡ adjust_spec p₀ (pairings_of pairs)

pub spec_well : {E : Type 0} (p : PointStore E) (qs : List Pairing) → well_formed p ≡ true → adjust_from 0 qs p ≡ adjust_spec p qs
unfolding adjust_spec
spec_well p qs f = rw (well p f)

pub start : {E : Type 0} (pairs : List Pair) (p : PointStore E) → well_formed p ≡ true → State pairs p p 0
start pairs p f = record { bound = zero-le; formed = f; run = spec_well p (pairings_of pairs) f }

module _ {E : Type 0} (pairs : List Pair) (p₀ p : PointStore E) (i : ℕ) (f : State pairs p₀ p i) where
  module _ (h : i < length pairs) (o : Outcome E) (e : o ≡ pair_spec p (pairing_of (pair_at pairs i))) where
    unrolled : adjust_from i (pairing_of (pair_at pairs i) ∷ pairings_of (drop (suc i) pairs)) p ≡ adjust_spec p₀ (pairings_of pairs)
    unfolding pairings_of
    unrolled = sym (ap (λ (rs : List Pair). adjust_from i (pairings_of rs) p) (drop-cons pairs i no_pair h)) ∙ f.run

    pub stop : (k : ℕ) → o.answer ≡ refused k → outcome (refused_after k i) o.after ≡ adjust_spec p₀ (pairings_of pairs)
    stop k a = sym (last_pair p (pairing_of (pair_at pairs i)) (pairings_of (drop (suc i) pairs)) i o e k a) ∙ unrolled

    pub next : o.answer ≡ done → State pairs p₀ o.after (i + 1)
    next a =
        record {
          bound = add-one-le h;
          formed = ap (λ (x : Outcome E). well_formed x.after) e ∙ pair_keeps p (pairing_of (pair_at pairs i)) f.formed;
          run = rw (add-one i) (sym (next_pair p (pairing_of (pair_at pairs i)) (pairings_of (drop (suc i) pairs)) i o e a) ∙ unrolled);
        }

  pub finish : length pairs ≤ i → outcome done p ≡ adjust_spec p₀ (pairings_of pairs)
  unfolding adjust_from pairings_of
  finish h = sym (ap (λ (rs : List Pair). adjust_from i (pairings_of rs) p) (drop_of_length-le pairs h)) ∙ f.run
