-- Adjust never looks at the elements of the rows: it does the same whatever stands in their place.
use Rattle.std.specs.Prelude.{ℕ, suc, Bool, true, false, ◌≡◌, eqb}
use Rattle.std.proofs.Math.Bool.{cond}
use mathlib.Core.List.{List, [], ◌∷◌}
use Rattle.std.proofs.Math.Path.{refl, sym, ap, ap₂}
use Rattle.std.proofs.Common.{◌∙◌}
use Rattle.interval_store_manager.specs.Calls.{Decided, go, refuse}
use Rattle.labels.specs.Decisions.{none}
use Rattle.store_definitions.specs.declared.Store.{Store}
use Rattle.store_definitions.specs.Memory.{Memory, PointStore, point_store}
use Rattle.store_definitions.specs.Answers.{Answer, Outcome, outcome}
use Rattle.store_definitions.specs.Decisions.{and_then, form_decided, live, touch_decided}
use Rattle.store_definitions.specs.Counting.{Pairing, inc_test, dec_test, incremented, decremented, pair_decided, pair_done, unless_refused, adjust_from, adjust_spec}
use Rattle.store_check.specs.CheckLaws.{elementless}
use Rattle.store_counts.specs.Elements.{refilled, refilled_outcome, branch_refilled, inc_refilled, dec_refilled, form_same}

module _ {E F : Type 0} (store window : List F) where
  abbrev fill : PointStore E → PointStore F
  fill p = refilled store window p

  abbrev filled : Outcome E → Outcome F
  filled o = refilled_outcome store window o

  inc_test_refilled : (p : PointStore E) (i l : ℕ) → inc_test (fill p) i l ≡ inc_test p i l
  unfolding inc_test touch_decided live
  inc_test_refilled p i l = refl

  dec_test_refilled : (p : PointStore E) (i l : ℕ) → dec_test (fill p) i l ≡ dec_test p i l
  unfolding dec_test touch_decided live
  dec_test_refilled p i l = refl

  module _ (p : PointStore E) (q : Pairing) where
    abbrev r : PointStore E
    r = incremented p q.insert_index q.insert_label

    inc_fill : fill r ≡ incremented (fill p) q.insert_index q.insert_label
    inc_fill = inc_refilled store window p q.insert_index q.insert_label

    decided_refilled : pair_decided (fill p) q ≡ pair_decided p q
    unfolding pair_decided
    decided_refilled =
        ap₂ (λ (a b : Decided). and_then a (cond (eqb q.delete_index none) go b))
        (inc_test_refilled p q.insert_index q.insert_label)
        (ap (λ (x : PointStore F). dec_test x q.delete_index q.delete_label) (sym inc_fill)
        ∙ dec_test_refilled r q.delete_index q.delete_label)

    done_refilled : fill (pair_done p q) ≡ pair_done (fill p) q
    unfolding pair_done
    done_refilled =
        branch_refilled store window (eqb q.delete_index none) r (decremented r q.delete_index q.delete_label)
        ∙ ap₂ (λ (x y : PointStore F). cond (eqb q.delete_index none) x y)
        inc_fill
        (dec_refilled store window r q.delete_index q.delete_label
        ∙ ap (λ (x : PointStore F). decremented x q.delete_index q.delete_label) inc_fill)

    module _ (n : ℕ) (qs : List Pairing) (rest : (x : PointStore E) → filled (adjust_from n qs x) ≡ adjust_from n qs (fill x)) where
      pair_refilled : (b : Bool) (k : ℕ) (d : Decided) → filled (cond b (adjust_from n qs p) (unless_refused d k p (adjust_from n qs (pair_done p q)))) ≡ cond b (adjust_from n qs (fill p)) (unless_refused d k (fill p) (adjust_from n qs (pair_done (fill p) q)))
      pair_refilled true k d = rest p
      pair_refilled false k go = rest (pair_done p q) ∙ ap (λ (x : PointStore F). adjust_from n qs x) done_refilled
      pair_refilled false k (refuse j) = refl

  pub from_refilled : (n : ℕ) (qs : List Pairing) (p : PointStore E) → filled (adjust_from n qs p) ≡ adjust_from n qs (fill p)
  unfolding adjust_from
  from_refilled n [] p = refl
  from_refilled n (q ∷ qs) p =
      pair_refilled p q (suc n) qs (λ x. from_refilled (suc n) qs x) (eqb q.insert_index none) n (pair_decided p q)
      ∙ sym (ap (λ (d : Decided). cond (eqb q.insert_index none) (adjust_from (suc n) qs (fill p)) (unless_refused d n (fill p) (adjust_from (suc n) qs (pair_done (fill p) q))))
      (decided_refilled p q))

module _ {F : Type 0} (s : Store) (m : Memory F) (qs : List Pairing) where
  abbrev bare : PointStore (Unit {0})
  bare = point_store s (elementless m)

  abbrev whole : PointStore F
  whole = point_store s m

  carried : (d : Decided) → refilled_outcome m.store m.last_known_shingle (unless_refused d 0 bare (adjust_from 0 qs bare)) ≡ unless_refused d 0 whole (adjust_from 0 qs whole)
  carried go = from_refilled m.store m.last_known_shingle 0 qs bare
  carried (refuse n) = refl

  pub adjust_same : refilled_outcome m.store m.last_known_shingle (adjust_spec bare qs) ≡ adjust_spec whole qs
  unfolding adjust_spec
  adjust_same =
      carried (form_decided bare)
      ∙ ap (λ (d : Decided). unless_refused d 0 whole (adjust_from 0 qs whole)) (form_same s m)

-- so a call on the tables alone, of a store whose elements stay, is the call on the whole
pub adjust_whole : {F : Type 0} (s t : Store) (m n : Memory F) → n.store ≡ m.store → n.last_known_shingle ≡ m.last_known_shingle → (answer : Answer) (qs : List Pairing) → outcome answer (point_store t (elementless n)) ≡ adjust_spec (point_store s (elementless m)) qs → outcome answer (point_store t n) ≡ adjust_spec (point_store s m) qs
adjust_whole {F = F} s t m n rows window answer qs e =
    ap₂ (λ (xs ys : List F). outcome answer (refilled xs ys (point_store t (elementless n)))) rows window
    ∙ ap (λ (o : Outcome (Unit {0})). refilled_outcome m.store m.last_known_shingle o) e
    ∙ adjust_same s m qs
