-- The list pass, with the number of live points, is what well-formedness asks of a hold's list.
use Rattle.std.specs.Prelude.{◌≡◌, ℕ, ◌<◌, ◌≤◌, Bool, true, false, cond, not, ◌&&◌, List, length, take, ◌==◌, nat_le, nat_lt, slice_index}
use Rattle.std.proofs.Math.Decide.{dec_lt, ℕ_discrete}
use Rattle.std.proofs.Common.{arith, ◌∙◌}
use Rattle.std.proofs.Math.Path.{refl, sym, ap}
use Rattle.std.proofs.Math.Seq.{length-take-le}
use borrow.Author.Tests.{eq-eqb, ne_eqb, eqb-true, ltb-true, leb-true}
use Rattle.terms.specs.Below.{one, both, and_make, count_below, sum_same, sum_tight}
use Rattle.store_definitions.specs.Memory.{PointStore}
use Rattle.store_definitions.specs.Parts.{table_length}
use Rattle.store_definitions.specs.WellFormed.{well_formed}
use Rattle.store_laws.specs.Cases.{asked}
use Rattle.store_laws.specs.Sound.{sound}
use Rattle.store_check.specs.Entries.{counts_live}
use Rattle.hold_definitions.specs.Memory.{PointHold, store_of, indices_of, labels_of}
use Rattle.hold_definitions.specs.Listed.{times, sum_times}
use Rattle.hold_definitions.specs.WellFormed.{width_allowed, tables_lent, names_live_points, counted_once, own_labels, hold_well_formed}
use Rattle.hold_definitions.specs.CountsAfter.{count_now, counted_below, counted_past, counted_inside}
use Rattle.hold_definitions.proofs.Sound.{names_counts, names_once, names_make, counted_make, own_sound, own_make}
use Rattle.hold_check.specs.ListedOnce.{listed_once, same_test, Once, listed_sound, listed_make}

module _ {E : Type 0} (p : PointStore E) (xs : List ℕ) where
  abbrev n : ℕ
  n = table_length p.header

  abbrev counts : List ℕ
  counts = p.memory.reference_count

  abbrev alive : ℕ → ℕ
  alive i = one (not (slice_index counts i == 0))

  -- found by the pass
  module _ (once : (i : ℕ) → 0 < times i xs → Once n counts xs i) where
    at_most : (i : ℕ) → times i xs ≤ 1
    at_most i = elim (dec_lt 0 (times i xs)) [ yes h ↦ omega (arith, (once i h).once) | no g ↦ omega arith ]

    named_alive : (i : ℕ) → times i xs ≤ alive i
    named_alive i =
        elim (dec_lt 0 (times i xs)) [
          | yes h ↦ rw (ne_eqb (slice_index counts i) 0 (λ e. omega (arith, (once i h).counted))) (at_most i)
          | no g ↦ omega arith
        ]

    all_named : length xs ≡ counts_live n counts → (i : ℕ) → i < n → times i xs ≡ alive i
    unfolding counts_live count_below
    all_named e i h =
        sum_tight n (λ k. times k xs) alive (λ k l. named_alive k) (sum_times n xs (λ k l. (once k l).below) ∙ e) i h

    none_alive : (c : ℕ) → 0 ≡ one (not (c == 0)) → c ≡ 0
    none_alive c e =
        elim (ℕ_discrete c 0) [ yes q ↦ q | no d ↦ absurd (let z = rw (ne_eqb c 0 d) at e in omega (arith, z)) ]

    counts_are : length xs ≡ counts_live n counts → (i : ℕ) → count_now p i ≡ times i xs
    counts_are e i =
        elim (dec_lt i n) [
          | yes h ↦
              counted_below p i h
              ∙ elim (dec_lt 0 (times i xs)) [
                | yes t ↦ omega (arith, (once i t).counted, (once i t).once)
                | no t ↦
                    let none : times i xs ≡ 0 = omega arith in
                    none_alive (slice_index counts i) (sym none ∙ all_named e i h) ∙ sym none
              ]
          | no g ↦
              counted_past p i (omega arith)
              ∙ elim (dec_lt 0 (times i xs)) [ yes t ↦ absurd (omega (arith, (once i t).below)) | no t ↦ omega arith ]
        ]

  -- asked by the definition
  module _ (are : (i : ℕ) → count_now p i ≡ times i xs) (most : (i : ℕ) → times i xs ≤ 1) where
    once_each : (i : ℕ) → 0 < times i xs → Once n counts xs i
    once_each i h =
        let inside = counted_inside p i (omega (arith, are i)) in
        record { below = inside; counted = sym (counted_below p i inside) ∙ are i ∙ (let z : times i xs ≡ 1 = omega (arith, most i) in z); once = omega (arith, most i) }

    small : (c t : ℕ) → c ≡ t → t ≤ 1 → t ≡ one (not (c == 0))
    small c t e l =
        elim (ℕ_discrete c 0) [ yes q ↦ rw (eq-eqb c 0 q) (omega arith) | no d ↦ rw (ne_eqb c 0 d) (omega arith) ]

    number_is : length xs ≡ counts_live n counts
    unfolding counts_live count_below
    number_is =
        sym (sum_times n xs (λ i h. (once_each i h).below))
        ∙ sum_same n (λ i. times i xs) alive (λ i h. small (slice_index counts i) (times i xs) (sym (counted_below p i h) ∙ are i) (most i))

  pub points_listed : (listed_once n counts xs && length xs == counts_live n counts) ≡ (names_live_points p xs && counted_once p xs)
  points_listed =
      same_test (listed_once n counts xs && length xs == counts_live n counts) (names_live_points p xs && counted_once p xs)
      (λ e.
      let a = both (listed_once n counts xs) (length xs == counts_live n counts) e in
      let once = listed_sound n counts xs a.0 in
      let are = counts_are once (eqb-true (length xs) (counts_live n counts) a.1) in
      and_make (names_live_points p xs) (counted_once p xs) (names_make p xs are (at_most once)) (counted_make p xs are (at_most once)))
      (λ e.
      let a = both (names_live_points p xs) (counted_once p xs) e in
      let are = names_counts p xs a.0 a.1 in
      let most = names_once p xs a.0 a.1 in
      and_make (listed_once n counts xs) (length xs == counts_live n counts) (listed_make n counts xs (once_each are most))
      (eq-eqb (length xs) (counts_live n counts) (number_is are most)))

  pub labels_listed : p.header.store_labels ≡ true → listed_once p.header.capacity p.memory.label_count xs ≡ own_labels p xs
  labels_listed on =
      same_test (listed_once p.header.capacity p.memory.label_count xs) (own_labels p xs)
      (λ e.
      own_make p on xs
      (λ l h.
      let o = listed_sound p.header.capacity p.memory.label_count xs e l h in
      record { below = o.below; counted = o.counted; once = o.once }))
      (λ e.
      listed_make p.header.capacity p.memory.label_count xs
      (λ l h.
      let o = own_sound p on xs e l h in
      record { below = o.below; counted = o.counted; once = o.once }))

-- ---- the whole

-- the record's own clauses and how long the two tables are
unfoldable pub record_holds : (width held capacity : ℕ) → Bool → (indices labels : ℕ) → Bool
record_holds width held capacity on indices labels =
    width_allowed width capacity && (nat_le capacity indices && cond on (nat_le capacity labels) true && nat_le held width)

-- the list, once all of it can be read
unfoldable pub list_holds : (live held n capacity : ℕ) → Bool → (counts label_counts indices labels : List ℕ) → Bool
list_holds live held n capacity on counts label_counts indices labels =
    listed_once n counts (take held indices) && held == live
    && cond on (listed_once capacity label_counts (take held labels)) true

module _ {E : Type 0} (h : PointHold E) where
  abbrev p : PointStore E
  p = store_of h

  abbrev pub recorded : Bool
  recorded =
      record_holds h.header.width h.header.held p.header.capacity p.header.store_labels (length h.memory.held_indices) (length h.memory.held_labels)

  pub hold_ill_store : well_formed p ≡ false → false ≡ hold_well_formed h
  unfolding hold_well_formed
  hold_ill_store e = rw e

  regroup : (w a b c d e f : Bool) → (a && (b && c)) ≡ false → (w && (a && (b && (c && (d && (e && f)))))) ≡ false
  regroup false a b c d e f z = refl
  regroup true true true true d e f z = absurd (let t : ◌≡◌ {A = ℕ} 0 1 = let u : true ≡ false = z in cc in omega arith)
  regroup true true true false d e f z = refl
  regroup true true false c d e f z = refl
  regroup true false b c d e f z = refl

  pub hold_ill_record : recorded ≡ false → false ≡ hold_well_formed h
  unfolding hold_well_formed record_holds tables_lent
  hold_ill_record e =
      sym
      (regroup (well_formed p) (width_allowed h.header.width p.header.capacity)
      (nat_le p.header.capacity (length h.memory.held_indices) && cond p.header.store_labels (nat_le p.header.capacity (length h.memory.held_labels)) true)
      (nat_le h.header.held h.header.width)
      (names_live_points p (indices_of h)) (counted_once p (indices_of h))
      (cond p.header.store_labels (own_labels p (labels_of h)) true) e)

  -- what the list pass may rely on
  pub record Readable : Type 0 where
    pub wide : h.header.width < p.header.capacity
    pub indices_lent : h.header.held ≤ length h.memory.held_indices
    pub labels_lent_lem : p.header.store_labels ≡ true → h.header.held ≤ length h.memory.held_labels

  pub readable : recorded ≡ true → Readable
  unfolding record_holds width_allowed
  readable e =
      let c = p.header.capacity in
      let on = p.header.store_labels in
      let a = both (width_allowed h.header.width c) _ e in
      let w = both (nat_le 1 h.header.width) (nat_lt h.header.width c) a.0 in
      let b = both (nat_le c (length h.memory.held_indices) && cond on (nat_le c (length h.memory.held_labels)) true) (nat_le h.header.held h.header.width) a.1 in
      let d = both (nat_le c (length h.memory.held_indices)) (cond on (nat_le c (length h.memory.held_labels)) true) b.0 in
      let wide = ltb-true h.header.width c w.1 in
      let most = leb-true h.header.held h.header.width b.1 in
      record {
        wide = wide;
        indices_lent = omega (arith, leb-true c (length h.memory.held_indices) d.0);
        labels_lent_lem = λ q. omega (arith, leb-true c (length h.memory.held_labels) (asked on (nat_le c (length h.memory.held_labels)) d.1 q));
      }

  abbrev pub listed : ℕ → Bool
  listed live =
      list_holds live h.header.held (table_length p.header) p.header.capacity p.header.store_labels p.memory.reference_count p.memory.label_count h.memory.held_indices h.memory.held_labels

  labels_part : (b : Bool) → p.header.store_labels ≡ b → cond b (listed_once p.header.capacity p.memory.label_count (labels_of h)) true ≡ cond b (own_labels p (labels_of h)) true
  labels_part true on = labels_listed p (labels_of h) on
  labels_part false off = refl

  assemble : (w a b c d e f : Bool) → w ≡ true → (a && (b && c)) ≡ true → (w && (a && (b && (c && (d && (e && f)))))) ≡ (d && e && f)
  assemble w true true true true e f q z = rw q
  assemble w true true true false e f q z = rw q
  assemble w true true false d e f q z = absurd (let t : ◌≡◌ {A = ℕ} 0 1 = let u : true ≡ false = sym z in cc in omega arith)
  assemble w true false c d e f q z = absurd (let t : ◌≡◌ {A = ℕ} 0 1 = let u : true ≡ false = sym z in cc in omega arith)
  assemble w false b c d e f q z = absurd (let t : ◌≡◌ {A = ℕ} 0 1 = let u : true ≡ false = sym z in cc in omega arith)

  pub hold_listed : well_formed p ≡ true → recorded ≡ true → (live : ℕ) → live ≡ counts_live (table_length p.header) p.memory.reference_count → listed live ≡ hold_well_formed h
  unfolding hold_well_formed record_holds tables_lent list_holds
  hold_listed w e live q =
      let r = readable e in
      let sized : length (indices_of h) ≡ h.header.held = length-take-le h.header.held h.memory.held_indices r.indices_lent in
      let n = table_length p.header in
      let counts = p.memory.reference_count in
      let points : (listed_once n counts (indices_of h) && h.header.held == live) ≡ (names_live_points p (indices_of h) && counted_once p (indices_of h)) =
      ap (λ (k : ℕ). listed_once n counts (indices_of h) && k == live) (sym sized)
      ∙ ap (λ (k : ℕ). listed_once n counts (indices_of h) && length (indices_of h) == k) q
      ∙ points_listed p (indices_of h) in
      rw (labels_part p.header.store_labels refl, points)
      (sym
      (assemble (well_formed p) (width_allowed h.header.width p.header.capacity)
      (nat_le p.header.capacity (length h.memory.held_indices) && cond p.header.store_labels (nat_le p.header.capacity (length h.memory.held_labels)) true)
      (nat_le h.header.held h.header.width)
      (names_live_points p (indices_of h)) (counted_once p (indices_of h))
      (cond p.header.store_labels (own_labels p (labels_of h)) true) w e))

  -- what the pass may rely on, in a well-formed store
  pub list_ready : well_formed p ≡ true → recorded ≡ true
      → ((table_length p.header ≤ 1024) × ((table_length p.header ≤ length p.memory.reference_count) × (h.header.held ≤ length h.memory.held_indices)))
      × ((p.header.store_labels ≡ true → (p.header.capacity ≤ 1024) × ((p.header.capacity ≤ length p.memory.label_count) × (h.header.held ≤ length h.memory.held_labels))))
  list_ready w e =
      let r = readable e in
      let s = sound p w in
      let most = s.bounds.capacity_most in (
        (omega (arith, s.table_within, most), (omega (arith, s.table_within, s.lent.counts_lent), r.indices_lent)),
        λ on. (most, ((s.labels on).label_table_lem.lent, r.labels_lent_lem on)),
      )
