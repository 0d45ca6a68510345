-- Document 01, 'Opening': the label half of a fresh store, and that it is well-formed.
use Rattle.std.specs.Prelude.{ℕ, ◌-◌, ◌≤◌, ◌<◌, List, ◌++◌, ◌≡◌, refl, length, get_or, set, drop, replicate, eqb}
use Rattle.std.proofs.Common.{arith, ◌∙◌, length-append, length-drop, eq-eqb}
use Rattle.std.proofs.Math.Path.{sym}
use Rattle.std.proofs.lemmas.List.{length-replicate, get_or-replicate}
use Rattle.std.proofs.Math.ListN.{get_or-append}
use Rattle.terms.specs.Below.{sum_same, sum_zeros}
use Rattle.interval_store_manager.specs.Calls.{manager}
use Rattle.interval_store_manager.specs.ChangeLaws.{new_well_formed, new_free}
use Rattle.labels.specs.Counted.{Counted, counted}
use Rattle.labels.specs.CountedLaws.{WellCounted}
use Rattle.labels.specs.Labels.{Labels, label_count_at, slot_count_at, slot_sum}
use Rattle.labels.specs.Sound.{Sound}
use Rattle.labels.specs.SlotLaws.{share, share_zero}

-- a table's first n entries made 0; a longer slice keeps its rest
abbrev pub cleared : ℕ → List ℕ → List ℕ
cleared n xs = replicate n 0 ++ drop n xs

-- counts 0, and the manager as new makes it
abbrev pub table_opened : ℕ → Counted → Counted
table_opened capacity t = counted (manager capacity 1) (cleared capacity t.counts) (set t.starts 0 0) (set t.ends 0 (capacity - 1))

-- 'counts, label codes, their slots and the slots' classes 0'
unfoldable pub labels_opened : ℕ → Labels → Labels
labels_opened capacity l =
    record {
      labels = cleared capacity l.labels;
      label_attributes = cleared capacity l.label_attributes;
      label_table = table_opened capacity l.label_table;
      attributes = cleared capacity l.attributes;
      attribute_table = table_opened capacity l.attribute_table;
    }

-- a manager may be opened: the capacity is allowed, and both lists have an entry for each index
pub record Openable (capacity : ℕ) (starts ends : List ℕ) : Type 0 where
  pub least : 0 < capacity
  pub most : capacity ≤ 1024
  pub starts_lent : capacity ≤ length starts
  pub ends_lent : capacity ≤ length ends

-- every lent list has an entry for each index
pub record Lent (capacity : ℕ) (t : Counted) : Type 0 where
  pub counts : capacity ≤ length t.counts
  pub starts : capacity ≤ length t.starts
  pub ends : capacity ≤ length t.ends

pub cleared_length : (n : ℕ) (xs : List ℕ) → n ≤ length xs → length (cleared n xs) ≡ length xs
cleared_length n xs h = simp (length-append, length-replicate, length-drop) (omega arith)

cleared_at : (n : ℕ) (xs : List ℕ) (i : ℕ) → i < n → get_or (cleared n xs) i 0 ≡ 0
cleared_at n xs i l =
    get_or-append (replicate n 0) (drop n xs) 0 i (rw (length-replicate {A = ℕ} n 0) l) ∙ get_or-replicate n i 0 0 l

module _ (c : ℕ) (l : 0 < c) (u : c ≤ 1024) where
  pub table_opened_lem : (t : Counted) → Lent c t → WellCounted c (table_opened c t)
  table_opened_lem t e =
      record {
        managed = new_well_formed c t.starts t.ends l u e.starts e.ends;
        whole = refl;
        lent = rw (cleared_length c t.counts e.counts) e.counts;
        free_is = λ i h.
            new_free c t.starts t.ends l u e.starts e.ends i h
            ∙ sym (eq-eqb (get_or (cleared c t.counts) i 0) 0 (cleared_at c t.counts i h));
      }

  pub opened_well : (classes : List ℕ) (s : Labels) → c ≤ length s.labels → c ≤ length s.label_attributes → Lent c s.label_table → c ≤ length s.attributes → Lent c s.attribute_table → Sound classes c (labels_opened c s)
  unfolding labels_opened slot_sum
  opened_well classes s d a lt h st =
      let none : (i : ℕ) → i < c → label_count_at (labels_opened c s) i ≡ 0 = λ i m. cleared_at c s.label_table.counts i m in
      let slot_none : (i : ℕ) → i < c → slot_count_at (labels_opened c s) i ≡ 0 = λ i m. cleared_at c s.attribute_table.counts i m in
      record {
        label_table_lem = table_opened_lem s.label_table lt;
        slot_table = table_opened_lem s.attribute_table st;
        codes_lent = rw (cleared_length c s.labels d) d;
        slots_lent = rw (cleared_length c s.label_attributes a) a;
        classes_lent = rw (cleared_length c s.attributes h) h;
        count_most = λ i m. omega (arith, none i m);
        stands = λ i m p. absurd (omega (arith, none i m));
        distinct = λ i j m n p q e. absurd (omega (arith, slot_none i m));
        sums = λ i m.
            slot_none i m
            ∙ sym (sum_same c (share (labels_opened c s).label_attributes (labels_opened c s).label_table.counts i) (λ k. 0)
            (λ k n. share_zero (eqb (get_or (labels_opened c s).label_attributes k 0) i) (label_count_at (labels_opened c s) k) (none k n))
            ∙ sum_zeros c);
      }
