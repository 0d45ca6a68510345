-- Laws of inc and dec: the label half stays well-formed, and every live label keeps its code, its slot and its class.
use Rattle.std.specs.Prelude.{ℕ, ◌+◌, ◌-◌, ◌≤◌, ◌<◌, List, ◌≡◌, set}
use Rattle.std.proofs.Common.{arith, sym, get_or-set_same, get_or-set_other, eq-eqb, ne_eqb}
use Rattle.std.proofs.Math.Decide.{ℕ_discrete}
use Rattle.std.proofs.Math.Path.{refl}
use Rattle.terms.specs.Entries.{stored}
use Rattle.labels.specs.Counted.{Counted, count_at, raised, lowered}
use Rattle.labels.specs.CountedLaws.{WellCounted, raise_keeps, lower_keeps, lowered_counts}
use Rattle.labels.specs.Labels.{Labels, slot_at, label_count_at, slot_count_at, with_tables, label_raised, label_lowered, slot_sum}
use Rattle.labels.specs.Sound.{Sound}
use Rattle.labels.specs.SlotLaws.{sum_counted, slot_counts}

module _ (classes : List ℕ) (c : ℕ) (l : Labels) (w : Sound classes c l) (i : ℕ) (m : i < c) (u : 0 < label_count_at l i) where
  abbrev a : ℕ
  a = slot_at l i

  -- the slot of a live label is below the capacity, and live
  below : a < c
  below = (w.stands i m u).slot_below

  live : 0 < slot_count_at l a
  live = omega (arith, slot_counts classes c l w i m u)

  -- one label's count and its slot's change by the same number
  module _ (lt st : Counted) (v x : ℕ) (le : lt.counts ≡ set l.label_table.counts i v) (se : st.counts ≡ set l.attribute_table.counts a x) (lw : WellCounted c lt) (sw : WellCounted c st) (vm : v ≤ 65535) (same : v + slot_count_at l a ≡ x + label_count_at l i) where
    was_live : (k : ℕ) → 0 < count_at lt k → 0 < label_count_at l k
    was_live k p =
        stored (λ n. 0 < n → 0 < label_count_at l k) l.label_table.counts i v k (omega (arith, w.label_table_lem.lent)) (λ e q. rw e u)
        (λ d q. q) (rw le at p)

    slot_was_live : (s : ℕ) → 0 < count_at st s → 0 < slot_count_at l s
    slot_was_live s p =
        stored (λ n. 0 < n → 0 < slot_count_at l s) l.attribute_table.counts a x s (omega (arith, below, w.slot_table.lent))
        (λ e q. rw e live) (λ d q. q) (rw se at p)

    sums_after : (s : ℕ) → s < c → count_at st s ≡ slot_sum c l.label_attributes lt.counts s
    sums_after s b =
        rw (se, le)
        (let sum = sum_counted c l.label_attributes l.label_table.counts i v s m w.label_table_lem.lent in
        elim (ℕ_discrete s a) [
          | yes e ↦
              let q = rw (eq-eqb a s (sym e)) at sum in
              rw (e, get_or-set_same l.attribute_table.counts a x 0 (omega (arith, below, w.slot_table.lent)))
              (let z = rw e at q in omega (arith, z, w.sums a below, same))
          | no d ↦
              let q = rw (ne_eqb a s (λ e. d (sym e))) at sum in
              rw (get_or-set_other l.attribute_table.counts a s x 0 d) (omega (arith, q, w.sums s b))
        ])

    recounted : Sound classes c (with_tables l lt st)
    recounted =
        record {
          label_table_lem = lw;
          slot_table = sw;
          codes_lent = w.codes_lent;
          slots_lent = w.slots_lent;
          classes_lent = w.classes_lent;
          count_most = λ k j.
              rw le
              (stored (λ n. n ≤ 65535) l.label_table.counts i v k (omega (arith, w.label_table_lem.lent)) (λ e. vm) (λ d. w.count_most k j));
          stands = λ k j p.
              let s = w.stands k j (was_live k p) in
              record { code_most = s.code_most; slot_below = s.slot_below; slot_class = s.slot_class };
          distinct = λ s t b d p q e. w.distinct s t b d (slot_was_live s p) (slot_was_live t q) e;
          sums = sums_after;
        }

  pub inc_keeps : label_count_at l i < 65535 → Sound classes c (label_raised l i)
  unfolding label_raised raised
  inc_keeps h =
      recounted (raised l.label_table i) (raised l.attribute_table a) (label_count_at l i + 1) (slot_count_at l a + 1) refl refl
      (raise_keeps c l.label_table w.label_table_lem i m u) (raise_keeps c l.attribute_table w.slot_table a below live)
      (omega arith) (omega arith)

  pub dec_keeps : Sound classes c (label_lowered l i)
  unfolding label_lowered
  dec_keeps =
      recounted (lowered l.label_table i) (lowered l.attribute_table a) (label_count_at l i - 1) (slot_count_at l a - 1)
      (lowered_counts l.label_table i) (lowered_counts l.attribute_table a)
      (lower_keeps c l.label_table w.label_table_lem i m u) (lower_keeps c l.attribute_table w.slot_table a below live)
      (omega (arith, w.count_most i m)) (omega (arith, live))
