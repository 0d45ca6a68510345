-- Inc, dec and adjust never look at the elements of the rows: each does the same whatever stands in their place.
use Rattle.std.specs.Prelude.{ℕ, Bool, true, false, List, ◌≡◌}
use Rattle.std.proofs.Math.Bool.{cond}
use Rattle.std.proofs.Math.Path.{refl, ap, ap₂}
use Rattle.std.proofs.Common.{◌∙◌}
use Rattle.interval_store_manager.specs.Calls.{Decided, go, refuse}
use Rattle.store_definitions.specs.declared.Store.{Store}
use Rattle.store_definitions.specs.Memory.{Memory, PointStore, point_store}
use Rattle.store_definitions.specs.Answers.{Answer, done, Outcome, outcome}
use Rattle.store_definitions.specs.Parts.{point_table, label_half, with_points, with_labels}
use Rattle.store_definitions.specs.Decisions.{and_then, form_decided, live, touch_decided, carried_out}
use Rattle.store_definitions.specs.Counting.{inc_test, dec_test, incremented, place_after_dec, decremented, inc_spec, dec_spec}
use Rattle.labels.specs.Counted.{raised, lowered}
use Rattle.labels.specs.Labels.{label_raised, label_lowered}
use Rattle.store_check.specs.CheckLaws.{elementless, well_formed_lengths}

module _ {E F : Type 0} (store window : List F) where
  -- other elements
  abbrev pub refilled : PointStore E → PointStore F
  refilled p =
      record {
        header = p.header;
        memory = record {
          store = store;
          last_known_shingle = window;
          reference_count = p.memory.reference_count;
          location = p.memory.location;
          index_starts = p.memory.index_starts;
          index_ends = p.memory.index_ends;
          labels = p.memory.labels;
          label_attributes = p.memory.label_attributes;
          label_count = p.memory.label_count;
          label_starts = p.memory.label_starts;
          label_ends = p.memory.label_ends;
          attributes = p.memory.attributes;
          attribute_count = p.memory.attribute_count;
          attribute_starts = p.memory.attribute_starts;
          attribute_ends = p.memory.attribute_ends;
        };
      }

  abbrev pub refilled_outcome : Outcome E → Outcome F
  refilled_outcome o = outcome o.answer (refilled o.after)

  pub branch_refilled : (b : Bool) (p q : PointStore E) → refilled (cond b p q) ≡ cond b (refilled p) (refilled q)
  branch_refilled true p q = refl
  branch_refilled false p q = refl

  pub inc_refilled : (p : PointStore E) (i l : ℕ) → refilled (incremented p i l) ≡ incremented (refilled p) i l
  unfolding incremented
  inc_refilled p i l =
      let q = with_points (raised (point_table p) i) p.memory.location p in
      branch_refilled p.header.store_labels (with_labels (label_raised (label_half p) l) q) q

  pub dec_refilled : (p : PointStore E) (i l : ℕ) → refilled (decremented p i l) ≡ decremented (refilled p) i l
  unfolding decremented place_after_dec
  dec_refilled p i l =
      let q = with_points (lowered (point_table p) i) (place_after_dec p i) p in
      branch_refilled p.header.store_labels (with_labels (label_lowered (label_half p) l) q) q

  carried_refilled : (d : Decided) (p : PointStore E) (o : Outcome E) → refilled_outcome (carried_out d p o) ≡ carried_out d (refilled p) (refilled_outcome o)
  carried_refilled go p o = refl
  carried_refilled (refuse n) p o = refl

module _ {F : Type 0} (s : Store) (m : Memory F) where
  abbrev bare : PointStore (Unit {0})
  bare = point_store s (elementless m)

  abbrev whole : PointStore F
  whole = point_store s m

  pub form_same : form_decided bare ≡ form_decided whole
  unfolding form_decided
  form_same = ap (λ (b : Bool). cond b go (refuse 1)) (well_formed_lengths s m)

  inc_test_same : (i l : ℕ) → inc_test bare i l ≡ inc_test whole i l
  unfolding inc_test touch_decided live
  inc_test_same i l = refl

  dec_test_same : (i l : ℕ) → dec_test bare i l ≡ dec_test whole i l
  unfolding dec_test touch_decided live
  dec_test_same i l = refl

  pub inc_same : (i l : ℕ) → refilled_outcome m.store m.last_known_shingle (inc_spec bare i l) ≡ inc_spec whole i l
  unfolding inc_spec
  inc_same i l =
      carried_refilled m.store m.last_known_shingle (and_then (form_decided bare) (inc_test bare i l)) bare (outcome done (incremented bare i l))
      ∙ ap₂ (λ (d : Decided) (q : PointStore F). carried_out d whole (outcome done q))
      (ap₂ (λ (a b : Decided). and_then a b) form_same (inc_test_same i l))
      (inc_refilled m.store m.last_known_shingle bare i l)

  pub dec_same : (i l : ℕ) → refilled_outcome m.store m.last_known_shingle (dec_spec bare i l) ≡ dec_spec whole i l
  unfolding dec_spec
  dec_same i l =
      carried_refilled m.store m.last_known_shingle (and_then (form_decided bare) (dec_test bare i l)) bare (outcome done (decremented bare i l))
      ∙ ap₂ (λ (d : Decided) (q : PointStore F). carried_out d whole (outcome done q))
      (ap₂ (λ (a b : Decided). and_then a b) form_same (dec_test_same i l))
      (dec_refilled m.store m.last_known_shingle bare i l)

-- so a call on the tables alone, of stores whose elements stay, is the call on the whole
module _ {F : Type 0} (s t : Store) (m n : Memory F) (rows : n.store ≡ m.store) (window : n.last_known_shingle ≡ m.last_known_shingle) (answer : Answer) (i l : ℕ) where
  refilled_same : outcome answer (point_store t n) ≡ outcome answer (refilled m.store m.last_known_shingle (point_store t (elementless n)))
  refilled_same =
      ap₂ (λ (xs ys : List F). outcome answer (refilled xs ys (point_store t (elementless n)))) rows window

  pub inc_whole : outcome answer (point_store t (elementless n)) ≡ inc_spec (point_store s (elementless m)) i l → outcome answer (point_store t n) ≡ inc_spec (point_store s m) i l
  inc_whole e =
      refilled_same
      ∙ ap (λ (o : Outcome (Unit {0})). refilled_outcome m.store m.last_known_shingle o) e
      ∙ inc_same s m i l

  pub dec_whole : outcome answer (point_store t (elementless n)) ≡ dec_spec (point_store s (elementless m)) i l → outcome answer (point_store t n) ≡ dec_spec (point_store s m) i l
  dec_whole e =
      refilled_same
      ∙ ap (λ (o : Outcome (Unit {0})). refilled_outcome m.store m.last_known_shingle o) e
      ∙ dec_same s m i l
