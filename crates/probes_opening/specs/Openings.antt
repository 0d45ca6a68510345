-- Opening a product as its code does it: the product's own test, and then the store's opening.
use Rattle.std.specs.Prelude.{ℕ, ◌<◌, ◌≤◌, Bool, ◌&&◌, List, ◌≡◌, replicate, Result, Ok, Err}
use Rattle.terms.specs.Refusals.{number}
use Rattle.terms.specs.declared.Refusal.{Refusal}
use Rattle.std.proofs.Math.Bool.{true, false}
use Rattle.std.proofs.Math.Path.{refl, ap}
use Rattle.std.proofs.Common.{sym, ◌∙◌, le-leb}
use Rattle.std.proofs.Math.Dec.{leb}
use Rattle.std.proofs.lemmas.Bool.{lt-leb}
use Rattle.terms.specs.Below.{both}
use Rattle.interval_store_manager.specs.Calls.{Decided, go, refuse}
use Rattle.store_definitions.specs.declared.Shape.{Shape}
use Rattle.store_definitions.specs.declared.Store.{Store}
use Rattle.store_definitions.specs.Memory.{Memory, point_store}
use Rattle.store_definitions.specs.Answers.{done, refused, opened_means, Outcome, outcome}
use Rattle.store_definitions.specs.Bounds.{bounds_hold, start_allowed}
use Rattle.store_definitions.specs.Decisions.{carried_out}
use Rattle.store_definitions.specs.Opening.{shape_allowed, open_decided, no_record, opened_store, opened, open_spec}
use Rattle.probes_definitions.specs.Memory.{point_probes}
use Rattle.probes_definitions.specs.Answers.{ProbesOutcome, probes_outcome}
use Rattle.probes_definitions.specs.WellFormed.{eight_probes}
use Rattle.probes_definitions.specs.Opening.{probes_open_decided, no_probes, probes_open_carried_out, probes_open_spec}
use Rattle.probes_definitions.proofs.OpeningLaws.{probes_open_other, probes_open_outside, probes_open_store}

-- the test of the code
abbrev pub tested : (dims shingle : ℕ) → Bool → Bool
tested dims shingle internal = leb 1 shingle && eight_probes dims shingle internal

module _ (dims shingle : ℕ) (internal : Bool) where
  pub tested_none : shingle < 1 → false ≡ tested dims shingle internal
  tested_none h = rw (lt-leb 1 shingle h)

  pub tested_some : 1 ≤ shingle → eight_probes dims shingle internal ≡ tested dims shingle internal
  tested_some h = rw (le-leb 1 shingle h)

module _ (s : Shape) (text : List ℕ) (m : Memory ℕ) where
  abbrev eight : Bool
  eight = eight_probes s.dimensions s.shingle_size s.internal_shingling

  abbrev test : Bool
  test = tested s.dimensions s.shingle_size s.internal_shingling

  -- a shingle size of 0 is outside the bounds
  unshaped : leb 1 s.shingle_size ≡ false → shape_allowed s ≡ false
  unfolding bounds_hold
  unshaped e = rw e (some (leb 1 s.dimensions) (leb s.dimensions 64) (start_allowed s.initial_capacity s.capacity))
    where
      some : (a b c : Bool) → (a && (b && false)) && c ≡ false
      some true true c = refl
      some true false c = refl
      some false b c = refl

  pub open_other : test ≡ false → probes_outcome (refused 2) (point_probes no_probes m) ≡ probes_open_spec 0 s text m
  unfolding probes_open_spec
  open_other e = ap (λ (d : Decided). probes_open_carried_out 0 d s text m) (sym (split (leb 1 s.shingle_size) eight refl refl e))
    where
      split : (a b : Bool) → leb 1 s.shingle_size ≡ a → eight ≡ b → a && b ≡ false → probes_open_decided s text m ≡ refuse 2
      split true true f g h = probes_open_other s text m (g ∙ h)
      split true false f g h = probes_open_other s text m g
      split false b f g h = probes_open_outside s text m (unshaped f)

  -- a store's opening as that of the product around it
  abbrev around : Outcome ℕ → ProbesOutcome ℕ
  around o = probes_outcome o.answer (point_probes (record { store = o.after.header; tallies = replicate 8 0 }) o.after.memory)

  carried_around : (d : Decided) → around (carried_out d (point_store no_record m) (outcome done (opened 0 s text m))) ≡ probes_open_carried_out 0 d s text m
  carried_around go = refl
  carried_around (refuse n) = refl

  module _ (e : test ≡ true) (answer : Result Store Refusal) (k : Memory ℕ) (o : outcome (opened_means answer) (point_store (opened_store answer) k) ≡ open_spec 0 s text m) where
    opened_around : around (outcome (opened_means answer) (point_store (opened_store answer) k)) ≡ probes_open_spec 0 s text m
    unfolding probes_open_spec open_spec
    opened_around =
        ap around o
        ∙ carried_around (open_decided s text m)
        ∙ ap (λ (x : Decided). probes_open_carried_out 0 x s text m) (sym (probes_open_store s text m (both (leb 1 s.shingle_size) eight e).1))

    pub open_eight : (r : Store) → answer ≡ Ok r → probes_outcome done (point_probes (record { store = r; tallies = replicate 8 0 }) k) ≡ probes_open_spec 0 s text m
    open_eight r f = sym (ap (λ (x : Result Store Refusal). around (outcome (opened_means x) (point_store (opened_store x) k))) f) ∙ opened_around

    pub open_failed : (why : Refusal) → answer ≡ Err why → probes_outcome (refused (number why)) (point_probes no_probes k) ≡ probes_open_spec 0 s text m
    open_failed why f = sym (ap (λ (x : Result Store Refusal). around (outcome (opened_means x) (point_store (opened_store x) k))) f) ∙ opened_around
