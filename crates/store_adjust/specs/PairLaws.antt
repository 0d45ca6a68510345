-- A pair's dec is judged on the counts that its inc raised; since the inc's own counts were above 0 already, the counts before
-- it decide alike. Then what a pair's parts come to.
use Rattle.std.specs.Prelude.{ℕ, ◌+◌, ◌<◌, Bool, List, ◌≡◌, length, get_or, set, ltb, eqb, Result, Ok, Err}
use Rattle.std.proofs.Common.{arith, ◌∙◌}
use Rattle.std.proofs.Math.Decide.{dec_lt}
use Rattle.std.proofs.Math.Bool.{true, false, cond}
use Rattle.std.proofs.Math.Path.{refl, sym, ap}
use Rattle.std.proofs.Math.ListN.{get_or-eq_default}
use borrow.Author.Tests.{eq-eqb, ne_eqb, lt-ltb}
use Rattle.terms.specs.declared.Refusal.{Refusal}
use Rattle.terms.specs.Refusals.{number}
use Rattle.interval_store_manager.specs.Calls.{Decided, go, refuse, decision_means}
use Rattle.labels.specs.Counted.{raised}
use Rattle.terms.specs.Entries.{stored}
use Rattle.labels.specs.Decisions.{none, in_use, inc_decided, dec_decided}
use Rattle.labels.specs.Labels.{label_raised}
use Rattle.store_definitions.specs.Memory.{PointStore, point_store}
use Rattle.store_definitions.specs.Answers.{done, refused, outcome}
use Rattle.store_definitions.specs.Parts.{point_table, label_half, with_points, with_labels}
use Rattle.store_definitions.specs.Decisions.{and_then, live, touch_decided, carried_out}
use Rattle.store_definitions.specs.Counting.{Pairing, inc_test, dec_test, incremented, decremented, pair_decided, pair_done}
use Rattle.store_definitions.specs.WellFormed.{well_formed}
use Rattle.store_laws.specs.Sound.{sound, sound_make}
use Rattle.store_laws.specs.Cases.{by_cases}
use Rattle.store_laws.specs.CountingLaws.{inc_accepted, pair_accepted}
use Rattle.store_laws.specs.DecisionLaws.{both_go, touch_go, inc_label_go}
use Rattle.store_counts.specs.Tables.{counts_alone}
use Rattle.store_adjust.specs.Pairs.{pair_of, pair_test, pair_spec}

-- a count above 0 that rises leaves the same counts above 0
still : (xs : List ℕ) (i j : ℕ) → 0 < get_or xs i 0 → ltb 0 (get_or (set xs i (get_or xs i 0 + 1)) j 0) ≡ ltb 0 (get_or xs j 0)
still xs i j u =
    elim (dec_lt i (length xs)) [
      | yes h ↦
          stored (λ x. ltb 0 x ≡ ltb 0 (get_or xs j 0)) xs i (get_or xs i 0 + 1) j h
          (λ e. rw e (lt-ltb 0 (get_or xs i 0 + 1) (omega arith) ∙ sym (lt-ltb 0 (get_or xs i 0) u)))
          (λ d. refl)
      | no g ↦ absurd (let z : get_or xs i 0 ≡ 0 = get_or-eq_default xs 0 (omega arith) in omega arith)
    ]

module _ {E : Type 0} (p : PointStore E) where
  plain : (i j k : ℕ) → 0 < get_or p.memory.reference_count i 0 → dec_test (with_points (raised (point_table p) i) p.memory.location p) j k ≡ dec_test p j k
  unfolding dec_test touch_decided live raised
  plain i j k u = rw (still p.memory.reference_count i j u)

  labelled : (i l j k : ℕ) → 0 < get_or p.memory.reference_count i 0 → 0 < get_or p.memory.label_count l 0 → dec_test (with_labels (label_raised (label_half p) l) (with_points (raised (point_table p) i) p.memory.location p)) j k ≡ dec_test p j k
  unfolding dec_test touch_decided live dec_decided in_use raised label_raised
  labelled i l j k u v = rw (still p.memory.reference_count i j u, still p.memory.label_count l k v)

  raised_dec : (i l j k : ℕ) → inc_test p i l ≡ go → dec_test (incremented p i l) j k ≡ dec_test p j k
  unfolding inc_test incremented
  raised_dec i l j k t =
      let a = both_go (touch_decided p i) _ t in
      let b = both_go (inc_decided p.header.store_labels p.header.capacity p.memory.label_count l) _ a.1 in
      let q = with_points (raised (point_table p) i) p.memory.location p in
      by_cases (λ x. dec_test x j k ≡ dec_test p j k) p.header.store_labels (with_labels (label_raised (label_half p) l) q) q
      (λ on. labelled i l j k (touch_go p i a.0).1 (inc_label_go p.header.capacity p.memory.label_count l (rw on at b.0)).0.counted)
      (λ off. plain i j k (touch_go p i a.0).1)

  pub pair_test_lem : (q : Pairing) → pair_test p q ≡ pair_decided p q
  unfolding pair_test pair_decided
  pair_test_lem q = split (inc_test p q.insert_index q.insert_label) refl
    where
      split : (d : Decided) → inc_test p q.insert_index q.insert_label ≡ d → and_then d (cond (eqb q.delete_index none) go (dec_test p q.delete_index q.delete_label)) ≡ and_then d (cond (eqb q.delete_index none) go (dec_test (incremented p q.insert_index q.insert_label) q.delete_index q.delete_label))
      split go e = ap (λ (d : Decided). cond (eqb q.delete_index none) go d) (sym (raised_dec q.insert_index q.insert_label q.delete_index q.delete_label e))
      split (refuse n) e = refl

  pub test_alone : (q : Pairing) → pair_test (point_store p.header (counts_alone p.memory.reference_count p.memory.label_count)) q ≡ pair_test p q
  unfolding pair_test inc_test dec_test touch_decided live
  test_alone q = refl

  -- the ways out of the test, by the decisions of inc and dec
  module _ (q : Pairing) (a : Result Unit Refusal) (e : decision_means a ≡ inc_test p q.insert_index q.insert_label) where
    pub test_refused : (r : Refusal) → a ≡ Err r → refuse (number r) ≡ pair_test p q
    unfolding pair_test
    test_refused r f = rw (sym e ∙ ap decision_means f)

    pub test_inc : a ≡ Ok tt → q.delete_index ≡ none → go ≡ pair_test p q
    unfolding pair_test
    test_inc f n = rw (sym e ∙ ap decision_means f, eq-eqb q.delete_index none n)

    pub test_dec : a ≡ Ok tt → (q.delete_index ≡ none → ⊥) → (d : Decided) → d ≡ dec_test p q.delete_index q.delete_label → d ≡ pair_test p q
    unfolding pair_test
    test_dec f n d g = g ∙ rw (sym e ∙ ap decision_means f, ne_eqb q.delete_index none n)

  module _ (q : Pairing) (t : pair_decided p q ≡ go) where
    abbrev r : PointStore E
    r = incremented p q.insert_index q.insert_label

    parts : (inc_test p q.insert_index q.insert_label ≡ go) × (cond (eqb q.delete_index none) go (dec_test r q.delete_index q.delete_label) ≡ go)
    unfolding pair_decided
    parts = both_go (inc_test p q.insert_index q.insert_label) _ t

    pub pair_inc : inc_test p q.insert_index q.insert_label ≡ go
    pair_inc = parts.0

    pub pair_inc_keeps : well_formed p ≡ true → (x : PointStore E) → x ≡ r → well_formed x ≡ true
    pair_inc_keeps f x e = ap (λ (y : PointStore E). well_formed y) e ∙ sound_make r (inc_accepted p q.insert_index q.insert_label (sound p f) pair_inc)

    pub pair_dec : (q.delete_index ≡ none → ⊥) → (x : PointStore E) → x ≡ r → dec_test x q.delete_index q.delete_label ≡ go
    pair_dec n x e =
        ap (λ (y : PointStore E). dec_test y q.delete_index q.delete_label) e
        ∙ sym (ap (λ (b : Bool). cond b go (dec_test r q.delete_index q.delete_label)) (ne_eqb q.delete_index none n))
        ∙ parts.1

  -- so both calls may be made
  module _ (i l j k : ℕ) (f : (well_formed p ≡ true) × (pair_decided p (pair_of i l j k) ≡ go)) where
    pub pair_inc_ready : (well_formed p ≡ true) × (inc_test p i l ≡ go)
    pair_inc_ready = (f.0, pair_inc (pair_of i l j k) f.1)

    pub pair_dec_ready : (x : PointStore E) → x ≡ incremented p i l → (j ≡ none → ⊥) → (well_formed x ≡ true) × (dec_test x j k ≡ go)
    pair_dec_ready x e n = (pair_inc_keeps (pair_of i l j k) f.1 f.0 x e, pair_dec (pair_of i l j k) f.1 n x e)

  module _ (q : Pairing) where
    pub pair_alone : q.delete_index ≡ none → (x : PointStore E) → x ≡ incremented p q.insert_index q.insert_label → x ≡ pair_done p q
    unfolding pair_done
    pair_alone n x e =
        e
        ∙ sym (ap (λ (b : Bool). cond b (incremented p q.insert_index q.insert_label) (decremented (incremented p q.insert_index q.insert_label) q.delete_index q.delete_label))
        (eq-eqb q.delete_index none n))

    pub pair_both : (q.delete_index ≡ none → ⊥) → (x y : PointStore E) → y ≡ incremented p q.insert_index q.insert_label → x ≡ decremented y q.delete_index q.delete_label → x ≡ pair_done p q
    unfolding pair_done
    pair_both n x y e f =
        f ∙ ap (λ (z : PointStore E). decremented z q.delete_index q.delete_label) e
        ∙ sym (ap (λ (b : Bool). cond b (incremented p q.insert_index q.insert_label) (decremented (incremented p q.insert_index q.insert_label) q.delete_index q.delete_label))
        (ne_eqb q.delete_index none n))

    pub skipped : q.insert_index ≡ none → outcome done p ≡ pair_spec p q
    unfolding pair_spec
    skipped n = sym (ap (λ (b : Bool). cond b (outcome done p) (carried_out (pair_decided p q) p (outcome done (pair_done p q)))) (eq-eqb q.insert_index none n))

    -- the decision of the test, carried out
    module _ (n : q.insert_index ≡ none → ⊥) (d : Result Unit Refusal) (e : decision_means d ≡ pair_test (point_store p.header (counts_alone p.memory.reference_count p.memory.label_count)) q) where
      decided : (x : Decided) → decision_means d ≡ x → pair_decided p q ≡ x
      decided x f = sym (pair_test_lem q) ∙ sym (test_alone q) ∙ sym e ∙ f

      pub pair_goes : d ≡ Ok tt → pair_decided p q ≡ go
      pair_goes f = decided go (ap decision_means f)

      pub pair_allowed : well_formed p ≡ true → d ≡ Ok tt → (well_formed p ≡ true) × (pair_decided p q ≡ go)
      pair_allowed f g = (f, pair_goes g)

      pub pair_went : d ≡ Ok tt → (x : PointStore E) → x ≡ pair_done p q → outcome done x ≡ pair_spec p q
      unfolding pair_spec
      pair_went f x g =
          ap (λ (y : PointStore E). outcome done y) g
          ∙ sym (ap (λ (b : Bool). cond b (outcome done p) (outcome done (pair_done p q))) (ne_eqb q.insert_index none n))
          ∙ sym (ap (λ (x : Decided). cond (eqb q.insert_index none) (outcome done p) (carried_out x p (outcome done (pair_done p q)))) (pair_goes f))

      pub pair_refused : (r : Refusal) → d ≡ Err r → outcome (refused (number r)) p ≡ pair_spec p q
      unfolding pair_spec
      pair_refused r f =
          sym (ap (λ (b : Bool). cond b (outcome done p) (outcome (refused (number r)) p)) (ne_eqb q.insert_index none n))
          ∙ sym (ap (λ (x : Decided). cond (eqb q.insert_index none) (outcome done p) (carried_out x p (outcome done (pair_done p q)))) (decided (refuse (number r)) (ap decision_means f)))

    pub pair_keeps : well_formed p ≡ true → well_formed (pair_spec p q).after ≡ true
    unfolding pair_spec
    pair_keeps f = split (eqb q.insert_index none) (pair_decided p q) refl
      where
        split : (b : Bool) (d : Decided) → pair_decided p q ≡ d → well_formed (cond b (outcome done p) (carried_out d p (outcome done (pair_done p q)))).after ≡ true
        split true d e = f
        split false go e = sound_make (pair_done p q) (pair_accepted p q (sound p f) e)
        split false (refuse n) e = f
