-- The label half's well-formedness as a record of named facts, for every class table and capacity.
use Rattle.std.specs.Prelude.{ℕ, ◌≤◌, ◌<◌, List, Bool, true, false, not, ◌&&◌, ◌≡◌, refl, length, get_or, leb, ltb}
use Rattle.std.proofs.Common.{arith, sym, ◌∙◌}
use Rattle.std.proofs.Math.Decide.{dec_lt}
use Rattle.std.proofs.Math.Bool.{cond}
use Rattle.std.proofs.Math.Dec.{eqb}
use borrow.Author.Tests.{eq-eqb, eqb-true, le-leb, leb-true, lt-ltb, ltb-true}
use Rattle.terms.specs.Below.{both, and_make, every_below, every_at, every_make}
use Rattle.labels.specs.Classes.{class_of}
use Rattle.labels.specs.CountedLaws.{WellCounted, well_counted, managed_make, free_make, counts_fit_lem, counts_fit_make}
use Rattle.labels.specs.Labels.{Labels, code_at, slot_at, class_at, label_count_at, slot_count_at, slot_sum, differ, tables_lent, codes_allowed, slots_hold_classes, classes_distinct, slots_summed, labels_well}

-- what holds of a live label
pub record Stands (classes : List ℕ) (capacity : ℕ) (l : Labels) (i : ℕ) : Type 0 where
  pub code_most : code_at l i ≤ 23
  pub slot_below : slot_at l i < capacity
  pub slot_class : class_at l (slot_at l i) ≡ class_of classes (code_at l i)

-- no two live slots hold the same class
abbrev pub Distinct : ℕ → List ℕ → List ℕ → Type 0
Distinct capacity attributes counts =
    (s t : ℕ) → s < capacity → t < capacity → 0 < get_or counts s 0 → 0 < get_or counts t 0 → get_or attributes s 0 ≡ get_or attributes t 0 → s ≡ t

pub record Sound (classes : List ℕ) (capacity : ℕ) (l : Labels) : Type 0 where
  pub label_table_lem : WellCounted capacity l.label_table
  pub slot_table : WellCounted capacity l.attribute_table
  pub codes_lent : capacity ≤ length l.labels
  pub slots_lent : capacity ≤ length l.label_attributes
  pub classes_lent : capacity ≤ length l.attributes
  pub count_most : (i : ℕ) → i < capacity → label_count_at l i ≤ 65535
  pub stands : (i : ℕ) → i < capacity → 0 < label_count_at l i → Stands classes capacity l i
  pub distinct : Distinct capacity l.attributes l.attribute_table.counts
  pub sums : (s : ℕ) → s < capacity → slot_count_at l s ≡ slot_sum capacity l.label_attributes l.label_table.counts s

-- a test that is asked only where another holds
pub asked : (a b : Bool) → cond a b true ≡ true → a ≡ true → b ≡ true
asked true b e h = e
asked false b e h = absurd (let z : ◌≡◌ {A = ℕ} 0 1 = cc in omega arith)

pub asked_make : (a b : Bool) → (a ≡ true → b ≡ true) → cond a b true ≡ true
asked_make true b f = f refl
asked_make false b f = refl

pub differ_no : (held cs : List ℕ) (s t : ℕ) → 0 < get_or cs s 0 → 0 < get_or cs t 0 → get_or held s 0 ≡ get_or held t 0 → differ held cs s t ≡ false
unfolding differ
differ_no held cs s t u v e = rw (lt-ltb 0 (get_or cs s 0) u, lt-ltb 0 (get_or cs t 0) v, eq-eqb (get_or held s 0) (get_or held t 0) e)

pub differ_yes : (held cs : List ℕ) (s t : ℕ) → (0 < get_or cs s 0 → 0 < get_or cs t 0 → get_or held s 0 ≡ get_or held t 0 → ⊥) → differ held cs s t ≡ true
unfolding differ
differ_yes held cs s t f = when (ltb 0 (get_or cs s 0)) (ltb 0 (get_or cs t 0)) (eqb (get_or held s 0) (get_or held t 0)) (λ a b e. f (ltb-true 0 (get_or cs s 0) a) (ltb-true 0 (get_or cs t 0) b) (eqb-true (get_or held s 0) (get_or held t 0) e))
  where
    when : (a b e : Bool) → (a ≡ true → b ≡ true → e ≡ true → ⊥) → not (a && (b && e)) ≡ true
    when true true true g = absurd (g refl refl refl)
    when true true false g = refl
    when true false e g = refl
    when false b e g = refl

pub distinct_from : (c : ℕ) (held cs : List ℕ) → classes_distinct c held cs ≡ true → Distinct c held cs
unfolding classes_distinct
distinct_from c held cs e s t l m u v q =
    let clash : (a b : ℕ) → a < c → b < a → 0 < get_or cs a 0 → 0 < get_or cs b 0 → get_or held a 0 ≡ get_or held b 0 → ⊥ = λ a b k j x y z.
    let yes : differ held cs a b ≡ true =
    every_at a (λ t. differ held cs a t) (every_at c (λ s. every_below s (λ t. differ held cs s t)) e a k) b j in
    let no : differ held cs a b ≡ false = differ_no held cs a b x y z in
    let w : true ≡ false = sym yes ∙ no in
    let r : ◌≡◌ {A = ℕ} 0 1 = cc in
    omega arith in
    elim (dec_lt s t) [
      | yes h ↦ absurd (clash t s m h v u (sym q))
      | no g ↦ elim (dec_lt t s) [ yes h ↦ absurd (clash s t l h u v q) | no f ↦ omega arith ]
    ]

pub distinct_make : (c : ℕ) (held cs : List ℕ) → Distinct c held cs → classes_distinct c held cs ≡ true
unfolding classes_distinct
distinct_make c held cs d =
    every_make c (λ s. every_below s (λ t. differ held cs s t))
    (λ s l. every_make s (λ t. differ held cs s t) (λ t m. differ_yes held cs s t (λ u v q. omega (arith, d s t l (omega arith) u v q))))

module _ (c : ℕ) (l : Labels) where
  -- how long the lent tables are
  pub record TablesLent : Type 0 where
    pub codes_lent : c ≤ length l.labels
    pub slots_lent : c ≤ length l.label_attributes
    pub counts_lent : c ≤ length l.label_table.counts
    pub classes_lent : c ≤ length l.attributes
    pub slot_counts_lent : c ≤ length l.attribute_table.counts

  pub tables_lent_lem : tables_lent c l.labels l.label_attributes l.label_table.counts l.attributes l.attribute_table.counts ≡ true → TablesLent
  unfolding tables_lent
  tables_lent_lem t =
      let t1 = both (leb c (length l.labels)) _ t in
      let t2 = both (leb c (length l.label_attributes)) _ t1.1 in
      let t3 = both (leb c (length l.label_table.counts)) _ t2.1 in
      let t4 = both (leb c (length l.attributes)) (leb c (length l.attribute_table.counts)) t3.1 in
      record {
        codes_lent = leb-true c (length l.labels) t1.0;
        slots_lent = leb-true c (length l.label_attributes) t2.0;
        counts_lent = leb-true c (length l.label_table.counts) t3.0;
        classes_lent = leb-true c (length l.attributes) t4.0;
        slot_counts_lent = leb-true c (length l.attribute_table.counts) t4.1;
      }

  pub tables_lent_make : TablesLent → tables_lent c l.labels l.label_attributes l.label_table.counts l.attributes l.attribute_table.counts ≡ true
  unfolding tables_lent
  tables_lent_make t =
      and_make _ _ (le-leb c (length l.labels) t.codes_lent)
      (and_make _ _ (le-leb c (length l.label_attributes) t.slots_lent)
      (and_make _ _ (le-leb c (length l.label_table.counts) t.counts_lent)
      (and_make _ _ (le-leb c (length l.attributes) t.classes_lent) (le-leb c (length l.attribute_table.counts) t.slot_counts_lent))))

module _ (classes : List ℕ) (c : ℕ) (l : Labels) where
  abbrev coded : ℕ → Bool
  coded i = leb (code_at l i) 23

  abbrev classed : ℕ → Bool
  classed i = ltb (slot_at l i) c && eqb (class_at l (slot_at l i)) (class_of classes (code_at l i))

  stands_from : codes_allowed c l ≡ true → slots_hold_classes classes c l ≡ true → (i : ℕ) → i < c → 0 < label_count_at l i → Stands classes c l i
  unfolding codes_allowed slots_hold_classes
  stands_from e f i m u =
      let live = lt-ltb 0 (label_count_at l i) u in
      let a = asked (ltb 0 (label_count_at l i)) (coded i) (every_at c (λ k. cond (ltb 0 (label_count_at l k)) (coded k) true) e i m) live in
      let b = asked (ltb 0 (label_count_at l i)) (classed i) (every_at c (λ k. cond (ltb 0 (label_count_at l k)) (classed k) true) f i m) live in
      let d = both (ltb (slot_at l i) c) (eqb (class_at l (slot_at l i)) (class_of classes (code_at l i))) b in
      record {
        code_most = leb-true (code_at l i) 23 a;
        slot_below = ltb-true (slot_at l i) c d.0;
        slot_class = eqb-true (class_at l (slot_at l i)) (class_of classes (code_at l i)) d.1;
      }

  module _ (f : (i : ℕ) → i < c → 0 < label_count_at l i → Stands classes c l i) where
    codes_make : codes_allowed c l ≡ true
    unfolding codes_allowed
    codes_make =
        every_make c (λ k. cond (ltb 0 (label_count_at l k)) (coded k) true)
        (λ i m. asked_make (ltb 0 (label_count_at l i)) (coded i) (λ u. le-leb (code_at l i) 23 (f i m (ltb-true 0 (label_count_at l i) u)).code_most))

    classes_make : slots_hold_classes classes c l ≡ true
    unfolding slots_hold_classes
    classes_make =
        every_make c (λ k. cond (ltb 0 (label_count_at l k)) (classed k) true)
        (λ i m.
        asked_make (ltb 0 (label_count_at l i)) (classed i)
        (λ u.
        let s = f i m (ltb-true 0 (label_count_at l i) u) in
        and_make _ _ (lt-ltb (slot_at l i) c s.slot_below) (eq-eqb (class_at l (slot_at l i)) (class_of classes (code_at l i)) s.slot_class)))

  pub sound : labels_well classes c l ≡ true → Sound classes c l
  unfolding labels_well slots_summed
  sound e =
      let p1 = both _ _ e in
      let p2 = both _ _ p1.1 in
      let p3 = both _ _ p2.1 in
      let p4 = both _ _ p3.1 in
      let p5 = both _ _ p4.1 in
      let p6 = both _ _ p5.1 in
      let p7 = both _ _ p6.1 in
      let p8 = both _ _ p7.1 in
      let p9 = both _ _ p8.1 in
      let t = tables_lent_lem c l p1.0 in
      record {
        label_table_lem = well_counted c l.label_table p2.0 t.counts_lent p9.0;
        slot_table = well_counted c l.attribute_table p3.0 t.slot_counts_lent p9.1;
        codes_lent = t.codes_lent;
        slots_lent = t.slots_lent;
        classes_lent = t.classes_lent;
        count_most = counts_fit_lem c l.label_table.counts p4.0;
        stands = stands_from p5.0 p6.0;
        distinct = distinct_from c l.attributes l.attribute_table.counts p7.0;
        sums = λ s m.
            eqb-true (slot_count_at l s) (slot_sum c l.label_attributes l.label_table.counts s)
            (every_at c (λ k. eqb (slot_count_at l k) (slot_sum c l.label_attributes l.label_table.counts k)) p8.0 s m);
      }

  pub lent_of : Sound classes c l → TablesLent c l
  lent_of s =
      record {
        codes_lent = s.codes_lent;
        slots_lent = s.slots_lent;
        counts_lent = s.label_table_lem.lent;
        classes_lent = s.classes_lent;
        slot_counts_lent = s.slot_table.lent;
      }

  pub sound_make : Sound classes c l → labels_well classes c l ≡ true
  unfolding labels_well slots_summed
  sound_make s =
      and_make _ _ (tables_lent_make c l (lent_of s))
      (and_make _ _ (managed_make c l.label_table s.label_table_lem)
      (and_make _ _ (managed_make c l.attribute_table s.slot_table)
      (and_make _ _ (counts_fit_make c l.label_table.counts s.count_most)
      (and_make _ _ (codes_make s.stands)
      (and_make _ _ (classes_make s.stands)
      (and_make _ _ (distinct_make c l.attributes l.attribute_table.counts s.distinct)
      (and_make _ _
      (every_make c (λ k. eqb (slot_count_at l k) (slot_sum c l.label_attributes l.label_table.counts k))
      (λ i m. eq-eqb (slot_count_at l i) (slot_sum c l.label_attributes l.label_table.counts i) (s.sums i m)))
      (and_make _ _ (free_make c l.label_table s.label_table_lem) (free_make c l.attribute_table s.slot_table)))))))))
