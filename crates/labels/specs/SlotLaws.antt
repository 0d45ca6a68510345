-- Laws of a slot's count, the sum of its labels' counts: what one label's change does to the sum, its bound, and that live
-- slots are never more than live labels.
use Rattle.std.specs.Prelude.{ℕ, ◌+◌, ◌≤◌, ◌<◌, List, Bool, true, false, cond, ◌&&◌, ◌≡◌, refl, length, get_or, set, ltb, eqb}
use Rattle.std.proofs.Common.{arith, sym, ◌∙◌, get_or-set_same, get_or-set_other, eq-eqb, ne_eqb, lt-ltb, le-ltb}
use Rattle.std.proofs.Math.Decide.{dec_lt, ℕ_discrete}
use Rattle.terms.specs.Below.{one, one_le, sum_below, count_below, sum_same, sum_zeros, sum_le}
use Rattle.terms.specs.Sums.{sum_changed, at_le_sum, sum_most, sum_less, sum_full, sum_swap}
use Rattle.labels.specs.CountedLaws.{capacity_most, unused_stacked, next_within, next_unused}
use Rattle.labels.specs.Counted.{next_index, live_number}
use Rattle.labels.specs.Labels.{Labels, slot_at, label_count_at, slot_count_at, slot_sum}
use Rattle.labels.specs.Sound.{Sound}

-- what label i adds to the sum of slot s
abbrev pub share : List ℕ → List ℕ → ℕ → ℕ → ℕ
share slots counts s i = cond (eqb (get_or slots i 0) s) (get_or counts i 0) 0

pub share_zero : (b : Bool) (n : ℕ) → n ≡ 0 → cond b n 0 ≡ 0
share_zero true n e = e
share_zero false n e = refl

-- label i's count becomes v
pub sum_counted : (c : ℕ) (slots counts : List ℕ) (i v s : ℕ) → i < c → c ≤ length counts → slot_sum c slots (set counts i v) s + share slots counts s i ≡ slot_sum c slots counts s + cond (eqb (get_or slots i 0) s) v 0
unfolding slot_sum
sum_counted c slots counts i v s h g =
    rw (get_or-set_same counts i v 0 (omega arith))
    at (sum_changed c i (share slots counts s) (share slots (set counts i v) s) h
    (λ k l d. rw (get_or-set_other counts i k v 0 d)))

-- label i, whose count was 0, gets slot a and count 1
pub sum_labelled : (c : ℕ) (slots counts : List ℕ) (i a s : ℕ) → i < c → c ≤ length slots → c ≤ length counts → get_or counts i 0 ≡ 0 → slot_sum c (set slots i a) (set counts i 1) s ≡ slot_sum c slots counts s + one (eqb a s)
unfolding slot_sum
sum_labelled c slots counts i a s h g f z =
    let e =
    rw (get_or-set_same counts i 1 0 (omega arith), get_or-set_same slots i a 0 (omega arith))
    at (sum_changed c i (share slots counts s) (share (set slots i a) (set counts i 1) s) h
    (λ k l d. rw (get_or-set_other counts i k 1 0 d, get_or-set_other slots i k a 0 d))) in
    omega (arith, e, share_zero (eqb (get_or slots i 0) s) (get_or counts i 0) z)

module _ (classes : List ℕ) (c : ℕ) (l : Labels) (w : Sound classes c l) where
  abbrev slots : List ℕ
  slots = l.label_attributes

  abbrev counts : List ℕ
  counts = l.label_table.counts

  -- a label's count is at most its slot's, so that the slot of a live label is live
  pub slot_counts : (i : ℕ) → i < c → 0 < label_count_at l i → label_count_at l i ≤ slot_count_at l (slot_at l i)
  unfolding slot_sum
  slot_counts i m u =
      rw (w.sums (slot_at l i) (w.stands i m u).slot_below)
      (let own : share slots counts (slot_at l i) i ≡ label_count_at l i = rw (eq-eqb (slot_at l i) (slot_at l i) refl) in
      omega (arith, own, at_le_sum c (share slots counts (slot_at l i)) i m))

  share_most : (s i : ℕ) → i < c → share slots counts s i ≤ 65535
  share_most s i m =
      elim (ℕ_discrete (slot_at l i) s) [
        | yes e ↦ rw (eq-eqb (slot_at l i) s e) (w.count_most i m)
        | no d ↦ rw (ne_eqb (slot_at l i) s d) (omega arith)
      ]

  -- 'A slot's count, at most 67,107,840'
  pub slot_count_most : (s : ℕ) → s < c → slot_count_at l s ≤ 67107840
  unfolding slot_sum
  slot_count_most s m =
      rw (w.sums s m) (omega (arith, sum_most c 65535 (share slots counts s) (share_most s), capacity_most c l.label_table w.label_table_lem))

  -- label i is live and its slot is s
  abbrev hit : ℕ → ℕ → ℕ
  hit i s = one (ltb 0 (label_count_at l i) && eqb (slot_at l i) s)

  no_hit : (i s : ℕ) → hit i s ≡ 0 → share slots counts s i ≡ 0
  no_hit i s z =
      elim (dec_lt 0 (label_count_at l i)) [
        | no g ↦ share_zero (eqb (slot_at l i) s) (label_count_at l i) (omega arith)
        | yes u ↦
            elim (ℕ_discrete (slot_at l i) s) [
              | no d ↦ rw (ne_eqb (slot_at l i) s d)
              | yes e ↦ absurd (let q = rw (lt-ltb 0 (label_count_at l i) u, eq-eqb (slot_at l i) s e) at z in omega arith)
            ]
      ]

  -- a live slot is the slot of a live label
  slot_hit : (s : ℕ) → s < c → one (ltb 0 (slot_count_at l s)) ≤ sum_below c (λ i. hit i s)
  unfolding slot_sum
  slot_hit s m =
      elim (dec_lt 0 (sum_below c (λ i. hit i s))) [
        | yes p ↦ omega (arith, one_le (ltb 0 (slot_count_at l s)))
        | no g ↦
            let none : slot_count_at l s ≡ 0 =
            w.sums s m
            ∙ (sum_same c (share slots counts s) (λ i. 0) (λ i k. no_hit i s (omega (arith, at_le_sum c (λ j. hit j s) i k)))
            ∙ sum_zeros c) in
            rw (le-ltb 0 (slot_count_at l s) (omega arith)) (omega arith)
      ]

  -- a live label has one slot
  label_hits : (i : ℕ) → i < c → sum_below c (λ s. hit i s) ≤ one (ltb 0 (label_count_at l i))
  label_hits i m =
      elim (dec_lt 0 (label_count_at l i)) [
        | no g ↦ rw (le-ltb 0 (label_count_at l i) (omega arith)) (omega (arith, sum_zeros c))
        | yes u ↦
            let a = slot_at l i in
            let other : (k : ℕ) → k < c → (k ≡ a → ⊥) → one (eqb a k) ≡ 0 = λ k p d. rw (ne_eqb a k (λ e. d (sym e))) in
            let own : one (eqb a a) ≡ 1 = rw (eq-eqb a a refl) in
            rw (lt-ltb 0 (label_count_at l i) u)
            (omega (arith, sum_changed c a (λ s. 0) (λ s. one (eqb a s)) (w.stands i m u).slot_below other, sum_zeros c, own))
      ]

  pub live_slots_le_labels : live_number c l.attribute_table ≤ live_number c l.label_table
  unfolding live_number count_below
  live_slots_le_labels =
      let slotwise = sum_le c (λ s. one (ltb 0 (slot_count_at l s))) (λ s. sum_below c (λ i. hit i s)) slot_hit in
      let labelwise = sum_le c (λ i. sum_below c (λ s. hit i s)) (λ i. one (ltb 0 (label_count_at l i))) label_hits in
      omega (arith, slotwise, sum_swap c c (λ i s. hit i s), labelwise)

  -- where a label index is free, so is a slot
  pub slot_free : 0 < l.label_table.manager.last_in_use → 0 < l.attribute_table.manager.last_in_use
  unfolding live_number count_below
  slot_free h =
      elim (dec_lt 0 l.attribute_table.manager.last_in_use) [
        | yes p ↦ p
        | no g ↦
            let i = next_index l.label_table in
            let dead : one (ltb 0 (label_count_at l i)) ≡ 0 =
            rw (le-ltb 0 (label_count_at l i) (omega (arith, next_unused c l.label_table w.label_table_lem h))) in
            let fewer =
            sum_less c i (λ k. one (ltb 0 (label_count_at l k))) (λ k m. one_le (ltb 0 (label_count_at l k)))
            (next_within c l.label_table w.label_table_lem h) dead in
            let all = sum_full c (λ s. one (ltb 0 (slot_count_at l s))) (all_live g) in
            absurd (omega (arith, live_slots_le_labels, fewer, all))
      ]
    where
      all_live : (0 < l.attribute_table.manager.last_in_use → ⊥) → (s : ℕ) → s < c → one (ltb 0 (slot_count_at l s)) ≡ 1
      all_live g s m =
          elim (dec_lt 0 (slot_count_at l s)) [
            | yes u ↦ rw (lt-ltb 0 (slot_count_at l s) u)
            | no f ↦ absurd (g (unused_stacked c l.attribute_table w.slot_table s m (omega arith)))
          ]
