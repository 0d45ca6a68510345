-- What the check in one linear pass asks of each label and of each slot, given marks of the free indices and the sums of
-- the slots' counts, and that all of it together is well-formedness.
use Rattle.std.specs.Prelude.{ℕ, ◌≤◌, ◌<◌, List, Bool, true, false, cond, ◌&&◌, ◌≡◌, refl, get_or, leb, ltb, eqb}
use Rattle.std.proofs.Common.{arith, ◌∙◌, ap}
use Rattle.std.proofs.Math.Path.{sym}
use borrow.Author.Tests.{eq-eqb, eqb-true, le-leb, leb-true, lt-ltb, ltb-true}
use Rattle.terms.specs.Below.{one, both, and_make, every_below, every_at, every_make}
use Rattle.interval_store_manager.specs.WellFormed.{well_formed}
use Rattle.interval_store_manager.specs.Marks.{Marks}
use Rattle.labels.specs.Classes.{class_of}
use Rattle.labels.specs.Counted.{Counted, count_at, free}
use Rattle.labels.specs.Labels.{Labels, code_at, slot_at, class_at, label_count_at, slot_count_at, slot_sum, differ, tables_lent, classes_distinct, labels_well}
use Rattle.labels.specs.Sound.{Stands, Sound, asked, asked_make, distinct_from, distinct_make, tables_lent_lem, sound_make}

-- index i is marked exactly where its count is 0
abbrev pub mark_fits : List ℕ → List ℕ → ℕ → Bool
mark_fits marks counts i = eqb (get_or marks i 0) (one (eqb (get_or counts i 0) 0))

-- of a live label: its code is at most 23 and its slot holds the code's class
unfoldable pub label_stands : List ℕ → ℕ → List ℕ → List ℕ → List ℕ → ℕ → Bool
label_stands classes capacity labels slots attributes i =
    leb (get_or labels i 0) 23
    && (ltb (get_or slots i 0) capacity && eqb (get_or attributes (get_or slots i 0) 0) (class_of classes (get_or labels i 0)))

label_stands_lem : (classes : List ℕ) (c : ℕ) (l : Labels) (i : ℕ) → label_stands classes c l.labels l.label_attributes l.attributes i ≡ true → Stands classes c l i
unfolding label_stands
label_stands_lem classes c l i e =
    let p = both (leb (code_at l i) 23) _ e in
    let q = both (ltb (slot_at l i) c) (eqb (class_at l (slot_at l i)) (class_of classes (code_at l i))) p.1 in
    record {
      code_most = leb-true (code_at l i) 23 p.0;
      slot_below = ltb-true (slot_at l i) c q.0;
      slot_class = eqb-true (class_at l (slot_at l i)) (class_of classes (code_at l i)) q.1;
    }

label_stands_make : (classes : List ℕ) (c : ℕ) (l : Labels) (i : ℕ) → Stands classes c l i → label_stands classes c l.labels l.label_attributes l.attributes i ≡ true
unfolding label_stands
label_stands_make classes c l i s =
    and_make _ _ (le-leb (code_at l i) 23 s.code_most)
    (and_make _ _ (lt-ltb (slot_at l i) c s.slot_below)
    (eq-eqb (class_at l (slot_at l i)) (class_of classes (code_at l i)) s.slot_class))

unfoldable pub label_passes : List ℕ → ℕ → List ℕ → List ℕ → List ℕ → List ℕ → List ℕ → ℕ → Bool
label_passes classes capacity labels slots counts attributes marks i =
    mark_fits marks counts i && cond (ltb 0 (get_or counts i 0)) (label_stands classes capacity labels slots attributes i) true

-- the slot's count is the sum, and its mark fits
unfoldable pub slot_passes : List ℕ → List ℕ → List ℕ → ℕ → Bool
slot_passes counts marks sums s = eqb (get_or counts s 0) (get_or sums s 0) && mark_fits marks counts s

-- and no live slot before it holds its class
unfoldable pub slot_fits : List ℕ → List ℕ → List ℕ → List ℕ → ℕ → Bool
slot_fits attributes counts marks sums s = slot_passes counts marks sums s && every_below s (λ t. differ attributes counts s t)

-- the sums of the slots' counts below n
abbrev pub Summed : ℕ → List ℕ → List ℕ → List ℕ → Type 0
Summed n slots counts sums = (s : ℕ) → s < 1024 → get_or sums s 0 ≡ slot_sum n slots counts s

-- marks of the free indices of a table
abbrev pub MarksOf : Counted → List ℕ → Type 0
MarksOf t marks = Marks t.manager.last_in_use t.starts t.ends marks

one_same : (a b : Bool) → one a ≡ one b → a ≡ b
one_same true true e = refl
one_same false false e = refl
one_same true false e = absurd (omega arith)
one_same false true e = absurd (omega arith)

-- marks that fit every count say that the free indices are those with count 0
mark_free : (t : Counted) (marks : List ℕ) (i : ℕ) → MarksOf t marks → mark_fits marks t.counts i ≡ true → free t i ≡ eqb (count_at t i) 0
mark_free t marks i m e =
    one_same (free t i) (eqb (count_at t i) 0) (sym (m i) ∙ eqb-true (get_or marks i 0) (one (eqb (count_at t i) 0)) e)

mark_fits_lem : (t : Counted) (marks : List ℕ) (i : ℕ) → MarksOf t marks → free t i ≡ eqb (count_at t i) 0 → mark_fits marks t.counts i ≡ true
mark_fits_lem t marks i m e = eq-eqb (get_or marks i 0) (one (eqb (count_at t i) 0)) (m i ∙ ap one e)

-- a well-formed label half passes
module _ (classes : List ℕ) (c : ℕ) (l : Labels) (label_marks : List ℕ) (lm : MarksOf l.label_table label_marks) where
  abbrev passes : ℕ → Bool
  passes i = label_passes classes c l.labels l.label_attributes l.label_table.counts l.attributes label_marks i

  pub labels_pass : Sound classes c l → every_below c passes ≡ true
  unfolding label_passes
  labels_pass w =
      every_make c passes
      (λ i m.
      and_make _ _ (mark_fits_lem l.label_table label_marks i lm (w.label_table_lem.free_is i m))
      (asked_make (ltb 0 (label_count_at l i)) (label_stands classes c l.labels l.label_attributes l.attributes i)
      (λ u. label_stands_make classes c l i (w.stands i m (ltb-true 0 (label_count_at l i) u)))))

  label_parts : (i : ℕ) → passes i ≡ true → (mark_fits label_marks l.label_table.counts i ≡ true) × (cond (ltb 0 (label_count_at l i)) (label_stands classes c l.labels l.label_attributes l.attributes i) true ≡ true)
  unfolding label_passes
  label_parts i e = both (mark_fits label_marks l.label_table.counts i) _ e

module _ (classes : List ℕ) (c : ℕ) (l : Labels) (slot_marks sums : List ℕ) (sm : MarksOf l.attribute_table slot_marks) where
  abbrev fits : ℕ → Bool
  fits s = slot_fits l.attributes l.attribute_table.counts slot_marks sums s

  pub slots_fit : c ≤ 1024 → Summed c l.label_attributes l.label_table.counts sums → Sound classes c l → every_below c fits ≡ true
  unfolding slot_fits slot_passes classes_distinct
  slots_fit h e w =
      every_make c fits
      (λ s m.
      and_make _ _
      (and_make _ _ (eq-eqb (slot_count_at l s) (get_or sums s 0) (w.sums s m ∙ sym (e s (omega arith))))
      (mark_fits_lem l.attribute_table slot_marks s sm (w.slot_table.free_is s m)))
      (every_at c (λ a. every_below a (λ b. differ l.attributes l.attribute_table.counts a b))
      (distinct_make c l.attributes l.attribute_table.counts w.distinct) s m))

  slot_parts : (s : ℕ) → fits s ≡ true → (eqb (slot_count_at l s) (get_or sums s 0) ≡ true) × ((mark_fits slot_marks l.attribute_table.counts s ≡ true) × (every_below s (λ t. differ l.attributes l.attribute_table.counts s t) ≡ true))
  unfolding slot_fits slot_passes
  slot_parts s e =
      let p = both (slot_passes l.attribute_table.counts slot_marks sums s) _ e in
      let q = both (eqb (slot_count_at l s) (get_or sums s 0)) (mark_fits slot_marks l.attribute_table.counts s) p.0 in
      (q.0, (q.1, p.1))

-- and one that passes is well-formed
module _ (classes : List ℕ) (c : ℕ) (l : Labels) (label_marks slot_marks sums : List ℕ) (lm : MarksOf l.label_table label_marks) (sm : MarksOf l.attribute_table slot_marks) (lw : well_formed l.label_table.manager l.label_table.starts l.label_table.ends ≡ true) (sw : well_formed l.attribute_table.manager l.attribute_table.starts l.attribute_table.ends ≡ true) (lc : l.label_table.manager.capacity ≡ c) (sc : l.attribute_table.manager.capacity ≡ c) (most : (i : ℕ) → label_count_at l i ≤ 65535) (h : c ≤ 1024) where
  pub passed : tables_lent c l.labels l.label_attributes l.label_table.counts l.attributes l.attribute_table.counts ≡ true → every_below c (passes classes c l label_marks lm) ≡ true → Summed c l.label_attributes l.label_table.counts sums → every_below c (fits classes c l slot_marks sums sm) ≡ true → labels_well classes c l ≡ true
  unfolding classes_distinct
  passed t p e f =
      let lent = tables_lent_lem c l t in
      sound_make classes c l
      (record {
        label_table_lem = record {
          managed = lw;
          whole = lc;
          lent = lent.counts_lent;
          free_is = λ i m. mark_free l.label_table label_marks i lm (label_parts classes c l label_marks lm i (every_at c (passes classes c l label_marks lm) p i m)).0;
        };
        slot_table = record {
          managed = sw;
          whole = sc;
          lent = lent.slot_counts_lent;
          free_is = λ s m. mark_free l.attribute_table slot_marks s sm (slot_parts classes c l slot_marks sums sm s (every_at c (fits classes c l slot_marks sums sm) f s m)).1.0;
        };
        codes_lent = lent.codes_lent;
        slots_lent = lent.slots_lent;
        classes_lent = lent.classes_lent;
        count_most = λ i m. most i;
        stands = λ i m u.
            label_stands_lem classes c l i
            (asked (ltb 0 (label_count_at l i)) (label_stands classes c l.labels l.label_attributes l.attributes i)
            (label_parts classes c l label_marks lm i (every_at c (passes classes c l label_marks lm) p i m)).1 (lt-ltb 0 (label_count_at l i) u));
        distinct =
            distinct_from c l.attributes l.attribute_table.counts
            (every_make c (λ a. every_below a (λ b. differ l.attributes l.attribute_table.counts a b)) (λ s m. (slot_parts classes c l slot_marks sums sm s (every_at c (fits classes c l slot_marks sums sm) f s m)).1.1));
        sums = λ s m.
            eqb-true (slot_count_at l s) (get_or sums s 0) (slot_parts classes c l slot_marks sums sm s (every_at c (fits classes c l slot_marks sums sm) f s m)).0 ∙ e s (omega arith);
      })
