-- Laws of taking a label: the label half stays well-formed, and every live label keeps its code and its slot.
use Rattle.std.specs.Prelude.{ℕ, ◌≤◌, ◌<◌, List, ◌≡◌, get_or, set}
use native.Mathlib.Omega.{arith}
use Rattle.std.proofs.Math.Decide.{ℕ_discrete}
use Rattle.std.proofs.Common.{◌∙◌, ap, length-set}
use Rattle.std.proofs.Math.Seq.{get_or-set_same, get_or-set_other}
use Rattle.terms.specs.Entries.{stored}
use Rattle.labels.specs.Classes.{class_of}
use Rattle.interval_store_manager.specs.declared.IntervalStoreManager.{IntervalStoreManager}
use Rattle.interval_store_manager.specs.Answers.{outcome, given}
use Rattle.interval_store_manager.specs.Calls.{taken}
use Rattle.labels.specs.Counted.{Counted, counted, count_at, next_index, index_taken}
use Rattle.labels.specs.CountedLaws.{take_keeps, next_within, next_unused, index_given_lem, index_taken_lem}
use Rattle.labels.specs.Labels.{Labels, code_at, slot_at, label_count_at, slot_count_at, SlotTaken, slot_taken, labelled, label_taken, slot_sum}
use Rattle.labels.specs.Sound.{Stands, Sound}
use Rattle.labels.specs.SlotLaws.{sum_labelled, slot_counts, slot_free}
use Rattle.labels.specs.TakeSlotLaws.{Took, slot_took}

module _ (classes : List ℕ) (c : ℕ) (l : Labels) (w : Sound classes c l) (code : ℕ) (cm : code ≤ 23) (h : 0 < l.label_table.manager.last_in_use) where
  abbrev i : ℕ
  i = next_index l.label_table

  abbrev o : SlotTaken
  o = slot_taken c l.attributes l.attribute_table (class_of classes code)

  slot : Took c l.attributes l.attribute_table (class_of classes code) o
  slot = slot_took c l.attributes l.attribute_table (class_of classes code) w.slot_table w.classes_lent w.distinct (slot_free classes c l w h)

  below : i < c
  below = next_within c l.label_table w.label_table_lem h

  unused : label_count_at l i ≡ 0
  unused = next_unused c l.label_table w.label_table_lem h

  abbrev after : Labels
  after = (label_taken classes c l code).after

  -- another label that is live after it was so before
  was_live : (k : ℕ) → (k ≡ i → ⊥) → 0 < get_or (set l.label_table.counts i 1) k 0 → 0 < label_count_at l k
  was_live k d p = rw (get_or-set_other l.label_table.counts i k 1 0 d) at p

  new_stands : Stands classes c after i
  unfolding label_taken
  new_stands =
      record {
        code_most = rw (get_or-set_same l.labels i code 0 (omega (arith, below, w.codes_lent))) cm;
        slot_below = rw (get_or-set_same l.label_attributes i o.slot 0 (omega (arith, below, w.slots_lent))) slot.below;
        slot_class =
            rw (
              get_or-set_same l.label_attributes i o.slot 0 (omega (arith, below, w.slots_lent)),
              get_or-set_same l.labels i code 0 (omega (arith, below, w.codes_lent)),
            )
            slot.holds;
      }

  old_stands : (k : ℕ) → k < c → (k ≡ i → ⊥) → 0 < label_count_at l k → Stands classes c after k
  unfolding label_taken
  old_stands k m d u =
      let s = w.stands k m u in
      let live : 0 < slot_count_at l (slot_at l k) = omega (arith, slot_counts classes c l w k m u) in
      record {
        code_most = rw (get_or-set_other l.labels i k code 0 d) s.code_most;
        slot_below = rw (get_or-set_other l.label_attributes i k o.slot 0 d) s.slot_below;
        slot_class =
            rw (get_or-set_other l.label_attributes i k o.slot 0 d, get_or-set_other l.labels i k code 0 d)
            (slot.others (slot_at l k) live ∙ s.slot_class);
      }

  sums_after : (s : ℕ) → s < c → count_at o.table s ≡ slot_sum c (set l.label_attributes i o.slot) (set l.label_table.counts i 1) s
  sums_after s m =
      omega (
        arith,
        slot.counts s m,
        w.sums s m,
        sum_labelled c l.label_attributes l.label_table.counts i o.slot s below w.slots_lent w.label_table_lem.lent unused,
      )

  pub label_keeps : Sound classes c after
  unfolding label_taken index_taken
  label_keeps =
      record {
        label_table_lem = take_keeps c l.label_table w.label_table_lem h;
        slot_table = slot.kept;
        codes_lent = rw (length-set l.labels i code) w.codes_lent;
        slots_lent = rw (length-set l.label_attributes i o.slot) w.slots_lent;
        classes_lent = slot.lent;
        count_most = λ k m.
            stored (λ n. n ≤ 65535) l.label_table.counts i 1 k (omega (arith, below, w.label_table_lem.lent)) (λ e. omega arith)
            (λ d. w.count_most k m);
        stands = λ k m p.
            elim (ℕ_discrete k i) [ yes e ↦ rw e new_stands | no d ↦ old_stands k m d (was_live k d p) ];
        distinct = slot.distinct;
        sums = sums_after;
      }

  -- a live label keeps its code and its slot, and the new label has the code that was given
  pub code_kept : (k : ℕ) → k < c → 0 < label_count_at l k → (code_at after k ≡ code_at l k) × (slot_at after k ≡ slot_at l k)
  unfolding label_taken
  code_kept k m u =
      let d : k ≡ i → ⊥ = λ e. let z : label_count_at l k ≡ 0 = rw e unused in omega arith in
      (get_or-set_other l.labels i k code 0 d, get_or-set_other l.label_attributes i k o.slot 0 d)

  pub code_given : code_at after i ≡ code
  unfolding label_taken
  code_given = get_or-set_same l.labels i code 0 (omega (arith, below, w.codes_lent))

-- a label taken part by part
pub taken_label : (classes : List ℕ) (c : ℕ) (l : Labels) (code class : ℕ) → class ≡ class_of classes code → (a : SlotTaken) → a ≡ slot_taken c l.attributes l.attribute_table class → (i free : ℕ) (r : IntervalStoreManager) (ss es : List ℕ) → outcome (given i free) r ss es ≡ taken l.label_table.manager l.label_table.starts l.label_table.ends → labelled l code i a (counted r (set l.label_table.counts i 1) ss es) ≡ label_taken classes c l code
unfolding label_taken
taken_label classes c l code class k a e i free r ss es f =
    ap (λ (t : Counted). labelled l code i a t) (index_taken_lem l.label_table i free r ss es f)
    ∙ (ap (λ (n : ℕ). labelled l code n a (index_taken l.label_table)) (index_given_lem l.label_table i free r ss es f)
    ∙ ap (λ (s : SlotTaken). labelled l code (next_index l.label_table) s (index_taken l.label_table))
    (e ∙ ap (λ (n : ℕ). slot_taken c l.attributes l.attribute_table n) k))
