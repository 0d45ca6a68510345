-- What the check's two passes rely on and leave, and laws of the sums of the slots' counts.
use Rattle.std.specs.Prelude.{ℕ, ◌+◌, ◌≤◌, ◌<◌, ◌^◌, List, Bool, true, false, cond, ◌≡◌, refl, length, get_or, set, eqb}
use Rattle.std.proofs.Common.{arith, add-one, sym, ◌∙◌, ap, eq-eqb, ne_eqb}
use Rattle.std.proofs.Math.Decide.{ℕ_discrete}
use Rattle.terms.specs.Below.{every_below, sum_below}
use Rattle.terms.specs.Sums.{sum_most}
use Rattle.labels.specs.Labels.{slot_sum}
use Rattle.terms.specs.Entries.{stored}
use Rattle.labels.specs.SlotLaws.{share}
use Rattle.label_check.specs.Checks.{label_passes, Summed}

-- the slices of the pass over the labels have an entry for each index
pub record LabelsLent (capacity : ℕ) (labels slots counts attributes marks : List ℕ) : Type 0 where
  pub most : capacity ≤ 1024
  pub codes_lent : capacity ≤ length labels
  pub slots_lent : capacity ≤ length slots
  pub counts_lent : capacity ≤ length counts
  pub classes_lent : capacity ≤ length attributes
  pub marks_lent : capacity ≤ length marks

-- and those of the pass over the slots
pub record SlotsLent (capacity free : ℕ) (attributes counts marks sums : List ℕ) : Type 0 where
  pub classes_lent : capacity ≤ length attributes
  pub counts_lent : capacity ≤ length counts
  pub marks_lent : capacity ≤ length marks
  pub sums_lent : capacity ≤ length sums
  pub free_is : free ≡ sum_below capacity (λ k. get_or marks k 0)

-- after the pass over the labels
pub record LabelsSwept (classes : List ℕ) (capacity : ℕ) (labels slots counts attributes marks sums : List ℕ) (ok : Bool) : Type 0 where
  pub is : ok ≡ every_below capacity (λ i. label_passes classes capacity labels slots counts attributes marks i)
  pub summed : ok ≡ true → Summed capacity slots counts sums
  pub fit : ok ≡ true → (i : ℕ) → get_or counts i 0 ≤ 65535

-- the sums below 0, and with one label more
pub summed_none : (slots counts sums : List ℕ) → ((s : ℕ) → get_or sums s 0 ≡ 0) → Summed 0 slots counts sums
unfolding slot_sum sum_below
summed_none slots counts sums z s l = z s

pub summed_more : (n : ℕ) (slots counts sums after : List ℕ) → length sums ≡ 1024 → Summed n slots counts sums → ((s : ℕ) → s < length sums → get_or after s 0 ≡ get_or sums s 0 + cond (eqb (get_or slots n 0) s) (get_or counts n 0) 0) → Summed (n + 1) slots counts after
unfolding slot_sum sum_below
summed_more n slots counts sums after h e f s l =
    rw (add-one n) (f s (omega arith) ∙ ap (λ (x : ℕ). x + share slots counts s n) (e s l))

-- a sum of counts that fit 16 bits has room for one more
pub summed_most : (n : ℕ) (slots counts sums : List ℕ) → n ≤ 1024 → length sums ≡ 1024 → ((k : ℕ) → get_or counts k 0 < 2 ^ 16) → Summed n slots counts sums → (s : ℕ) → s < length sums → get_or sums s 0 < 2 ^ 31
unfolding slot_sum
summed_most n slots counts sums h g f e s l =
    let most : (i : ℕ) → i < n → share slots counts s i ≤ 65535 = λ i m. share_fits i in
    omega (arith, e s (omega arith), sum_most n 65535 (share slots counts s) most)
  where
    share_fits : (i : ℕ) → share slots counts s i ≤ 65535
    share_fits i =
        elim (ℕ_discrete (get_or slots i 0) s) [
          | yes q ↦ rw (eq-eqb (get_or slots i 0) s q) (omega (arith, f i))
          | no d ↦ rw (ne_eqb (get_or slots i 0) s d) (omega arith)
        ]

-- a count added to the sum of a slot
pub share_added : (sums : List ℕ) (slot count : ℕ) → slot < length sums → (s : ℕ) → s < length sums → get_or (set sums slot (get_or sums slot 0 + count)) s 0 ≡ get_or sums s 0 + cond (eqb slot s) count 0
share_added sums slot count h s l =
    stored (λ x. x ≡ get_or sums s 0 + cond (eqb slot s) count 0) sums slot (get_or sums slot 0 + count) s h
    (λ e. rw (eq-eqb slot s (sym e), e)) (λ d. rw (ne_eqb slot s (λ e. d (sym e))) (omega arith))

-- a count of 0 adds nothing
pub share_none : (sums : List ℕ) (slot count s : ℕ) → count ≡ 0 → get_or sums s 0 ≡ get_or sums s 0 + cond (eqb slot s) count 0
share_none sums slot count s e = rw e (omega (arith, either (eqb slot s)))
  where
    either : (b : Bool) → ◌≡◌ {A = ℕ} (cond b 0 0) 0
    either true = refl
    either false = refl
