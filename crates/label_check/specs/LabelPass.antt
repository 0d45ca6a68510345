-- Laws of the pass over the labels: its two tests together are a label's pass.
use Rattle.std.specs.Prelude.{ℕ, zero, suc, ◌≤◌, ◌<◌, List, Bool, ◌&&◌, ◌||◌, not, ◌≡◌, length, get_or, eqb}
use Rattle.std.proofs.Common.{arith, ◌∙◌, ap, ap₂}
use Rattle.std.proofs.Math.Bool.{true, false, cond, and-true}
use Rattle.std.proofs.Math.Path.{refl, sym}
use Rattle.std.proofs.Math.Dec.{leb, ltb}
use borrow.Author.Tests.{ne_eqb, leb-true, ltb-true}
use Rattle.terms.specs.Below.{one, both, every_below, every_at, every_and}
use Rattle.labels.specs.Classes.{class_of}
use Rattle.label_check.specs.Checks.{label_stands, label_passes, Summed}
use Rattle.label_check.specs.CheckLaws.{LabelsLent, LabelsSwept}
use Rattle.label_check.specs.SlotPass.{live_is}

-- the mark fits; of a live label, the code is one of the table's and the slot is below the capacity
unfoldable pub label_bounded : ℕ → List ℕ → List ℕ → List ℕ → List ℕ → ℕ → Bool
label_bounded capacity labels slots counts marks i =
    eqb (get_or marks i 0) (one (eqb (get_or counts i 0) 0))
    && (eqb (get_or counts i 0) 0 || (leb (get_or labels i 0) 23 && ltb (get_or slots i 0) capacity))

-- of a live label, the slot holds the code's class
unfoldable pub label_classed : List ℕ → List ℕ → List ℕ → List ℕ → List ℕ → ℕ → Bool
label_classed classes labels slots counts attributes i =
    eqb (get_or counts i 0) 0 || eqb (get_or attributes (get_or slots i 0) 0) (class_of classes (get_or labels i 0))

-- tests that agree below n
pub every_same : (n : ℕ) (p q : ℕ → Bool) → ((i : ℕ) → i < n → p i ≡ q i) → every_below n p ≡ every_below n q
unfolding every_below
every_same zero p q h = refl
every_same (suc n) p q h = ap₂ (λ (a b : Bool). a && b) (every_same n p q (λ i l. h i (omega arith))) (h n (omega arith))

-- what adding up the shares relies on
pub record ShareReady (capacity : ℕ) (labels slots counts attributes sums : List ℕ) : Type 0 where
  pub most : capacity ≤ 1024
  pub codes_lent : capacity ≤ length labels
  pub slots_lent : capacity ≤ length slots
  pub counts_lent : capacity ≤ length counts
  pub classes_lent : capacity ≤ length attributes
  pub sums_long : length sums ≡ 1024
  pub sums_none : (s : ℕ) → get_or sums s 0 ≡ 0
  pub bounded : (i : ℕ) → i < capacity → (get_or counts i 0 ≡ 0 → ⊥) → (get_or labels i 0 ≤ 23) × (get_or slots i 0 < capacity)

-- and what it leaves
pub record Shared (classes : List ℕ) (capacity : ℕ) (labels slots counts attributes sums : List ℕ) (ok : Bool) : Type 0 where
  pub is : ok ≡ every_below capacity (λ i. label_classed classes labels slots counts attributes i)
  pub summed : Summed capacity slots counts sums
  pub fit : (i : ℕ) → get_or counts i 0 ≤ 65535

module _ (classes : List ℕ) (c : ℕ) (labels slots counts attributes marks : List ℕ) where
  abbrev bounds : Bool
  bounds = every_below c (λ i. label_bounded c labels slots counts marks i)

  passes_are : every_below c (λ i. label_passes classes c labels slots counts attributes marks i) ≡ (bounds && every_below c (λ i. label_classed classes labels slots counts attributes i))
  unfolding label_passes label_stands label_bounded label_classed
  passes_are =
      every_same c (λ i. label_passes classes c labels slots counts attributes marks i)
      (λ i. label_bounded c labels slots counts marks i && label_classed classes labels slots counts attributes i)
      (λ i l.
      rw (live_is (get_or counts i 0))
      (parts (eqb (get_or marks i 0) (one (eqb (get_or counts i 0) 0))) (eqb (get_or counts i 0) 0) (leb (get_or labels i 0) 23) (ltb (get_or slots i 0) c)
      (eqb (get_or attributes (get_or slots i 0) 0) (class_of classes (get_or labels i 0)))))
      ∙ every_and c (λ i. label_bounded c labels slots counts marks i) (λ i. label_classed classes labels slots counts attributes i)
    where
      parts : (m d l s k : Bool) → (m && cond (not d) (l && (s && k)) true) ≡ (m && (d || (l && s)) && (d || k))
      parts m true l s k = sym (and-true (m && true))
      parts true false true s k = refl
      parts true false false s k = refl
      parts false false l s k = refl

  pub share_ready : (sums : List ℕ) → LabelsLent c labels slots counts attributes marks → length sums ≡ 1024 → ((s : ℕ) → get_or sums s 0 ≡ 0) → bounds ≡ true → ShareReady c labels slots counts attributes sums
  unfolding label_bounded
  share_ready sums h g z e =
      record {
        most = h.most;
        codes_lent = h.codes_lent;
        slots_lent = h.slots_lent;
        counts_lent = h.counts_lent;
        classes_lent = h.classes_lent;
        sums_long = g;
        sums_none = z;
        bounded = λ i l d.
            let known = leb (get_or labels i 0) 23 in
            let below = ltb (get_or slots i 0) c in
            let a = (both (eqb (get_or marks i 0) (one (eqb (get_or counts i 0) 0))) _ (every_at c (λ i. label_bounded c labels slots counts marks i) e i l)).1 in
            let b = both known below (sym (ap (λ (x : Bool). x || (known && below)) (ne_eqb (get_or counts i 0) 0 d)) ∙ a) in
            (leb-true (get_or labels i 0) 23 b.0, ltb-true (get_or slots i 0) c b.1);
      }

  pub swept_bounded : (sums : List ℕ) (ok : Bool) → bounds ≡ true → Shared classes c labels slots counts attributes sums ok → LabelsSwept classes c labels slots counts attributes marks sums ok
  swept_bounded sums ok e s =
      record { is = s.is ∙ sym (passes_are ∙ rw e); summed = λ t. s.summed; fit = λ t. s.fit }

  pub swept_not : (sums : List ℕ) → bounds ≡ false → LabelsSwept classes c labels slots counts attributes marks sums false
  swept_not sums e =
      record {
        is = sym (passes_are ∙ rw e);
        summed = λ t. absurd (let q : ◌≡◌ {A = ℕ} 0 1 = cc in omega arith);
        fit = λ t. absurd (let q : ◌≡◌ {A = ℕ} 0 1 = cc in omega arith);
      }
