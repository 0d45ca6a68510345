-- A hold's well-formedness as a record of named facts.
use Rattle.std.specs.Prelude.{ℕ, ◌≤◌, ◌<◌, Bool, true, false, cond, ◌&&◌, List, ◌≡◌, refl, length, get_or, leb}
use Rattle.std.proofs.Math.Decide.{dec_lt}
use native.Mathlib.Omega.{arith}
use Rattle.std.proofs.Math.Path.{sym, ap}
use Rattle.std.proofs.Common.{◌∙◌}
use Rattle.std.proofs.Math.Dec.{ltb, eqb}
use borrow.Author.Tests.{eq-eqb, eqb-true, le-leb, leb-true, lt-ltb, le-ltb, ltb-true}
use Rattle.terms.specs.Below.{one, one_le, both, and_make, every_at, every_make}
use Rattle.labels.specs.Decisions.{in_use}
use Rattle.store_definitions.specs.Memory.{PointStore}
use Rattle.store_definitions.specs.Parts.{table_length}
use Rattle.store_definitions.specs.Decisions.{live}
use Rattle.store_definitions.specs.WellFormed.{well_formed}
use Rattle.store_laws.specs.Cases.{asked, asked_make}
use Rattle.hold_definitions.specs.Memory.{PointHold, store_of, indices_of, labels_of}
use Rattle.hold_definitions.specs.Listed.{times, every_named, named_at, named_make}
use Rattle.hold_definitions.specs.WellFormed.{width_allowed, tables_lent, names_live_points, counted_once, own_labels, hold_well_formed}
use Rattle.hold_definitions.specs.CountsAfter.{count_now, counted_live, counted_below, counted_past, counted_inside, label_count_now}

pub width_sound : (width capacity : ℕ) → width_allowed width capacity ≡ true → (1 ≤ width) × (width < capacity)
unfolding width_allowed
width_sound width capacity e =
    let b = both (leb 1 width) (ltb width capacity) e in
    (leb-true 1 width b.0, ltb-true width capacity b.1)

pub width_make : (width capacity : ℕ) → 1 ≤ width → width < capacity → width_allowed width capacity ≡ true
unfolding width_allowed
width_make width capacity l m = and_make (leb 1 width) (ltb width capacity) (le-leb 1 width l) (lt-ltb width capacity m)

-- a label index of its own, in use with count 1
pub record Own {E : Type 0} (p : PointStore E) (labels : List ℕ) (l : ℕ) : Type 0 where
  pub below : l < p.header.capacity
  pub counted : label_count_now p l ≡ 1
  pub once : times l labels ≡ 1

-- a list that names the live points of a store
pub record Names {E : Type 0} (p : PointStore E) (indices labels : List ℕ) : Type 0 where
  -- the count of every index is how often it is named, and that is at most once
  pub counts : (i : ℕ) → count_now p i ≡ times i indices
  pub once : (i : ℕ) → times i indices ≤ 1
  pub own : p.header.store_labels ≡ true → (l : ℕ) → 0 < times l labels → Own p labels l

module _ {E : Type 0} where
  pub record HoldSound (h : PointHold E) : Type 0 where
    pub well : well_formed (store_of h) ≡ true
    pub width_least : 1 ≤ h.header.width
    pub width_most : h.header.width < h.header.store.capacity
    pub indices_lent : h.header.store.capacity ≤ length h.memory.held_indices
    pub labels_lent_lem : h.header.store.store_labels ≡ true → h.header.store.capacity ≤ length h.memory.held_labels
    pub held_most : h.header.held ≤ h.header.width
    pub names : Names (store_of h) (indices_of h) (labels_of h)

  module _ (p : PointStore E) (xs : List ℕ) where
    count_of_live : (b : Bool) (c : ℕ) → b ≡ ltb 0 c → (b ≡ true → c ≡ 1) → c ≡ one b
    count_of_live true c e f = f refl
    count_of_live false c e f =
        elim (dec_lt 0 c) [
          | yes l ↦ absurd (let z : ◌≡◌ {A = ℕ} 0 1 = let t : false ≡ true = e ∙ lt-ltb 0 c l in cc in omega arith)
          | no g ↦ omega arith
        ]

    module _ (e : names_live_points p xs ≡ true) (f : counted_once p xs ≡ true) where
      named : (i : ℕ) → 0 < times i xs → live p i ≡ true
      unfolding names_live_points
      named i h = named_at (live p) xs (both (every_named (live p) xs) _ e).0 i h

      each : (i : ℕ) → i < table_length p.header → times i xs ≡ one (live p i)
      unfolding names_live_points
      each i h =
          eqb-true (times i xs) (one (live p i))
          (every_at (table_length p.header) (λ k. eqb (times k xs) (one (live p k))) (both (every_named (live p) xs) _ e).1 i h)

      inside : (i : ℕ) → live p i ≡ true → i < table_length p.header
      inside i q = counted_inside p i (ltb-true 0 (count_now p i) (sym (counted_live p i) ∙ q))

      pub names_counts : (i : ℕ) → count_now p i ≡ times i xs
      unfolding counted_once
      names_counts i =
          elim (dec_lt i (table_length p.header)) [
            | yes h ↦
                count_of_live (live p i) (count_now p i) (counted_live p i)
                (λ q.
                counted_below p i h
                ∙ eqb-true (get_or p.memory.reference_count i 0) 1
                (named_at (λ k. eqb (get_or p.memory.reference_count k 0) 1) xs f i (rw (each i h, q) (omega arith))))
                ∙ sym (each i h)
            | no g ↦
                counted_past p i (omega arith)
                ∙ elim (dec_lt 0 (times i xs)) [
                  | yes t ↦ absurd (omega (arith, inside i (named i t)))
                  | no t ↦ omega arith
                ]
          ]

      pub names_once : (i : ℕ) → times i xs ≤ 1
      names_once i =
          elim (dec_lt i (table_length p.header)) [
            | yes h ↦ rw (each i h) (one_le (live p i))
            | no g ↦
                elim (dec_lt 0 (times i xs)) [
                  | yes t ↦ absurd (omega (arith, inside i (named i t)))
                  | no t ↦ omega arith
                ]
          ]

    module _ (counts : (i : ℕ) → count_now p i ≡ times i xs) (once : (i : ℕ) → times i xs ≤ 1) where
      one_time : (i : ℕ) → 0 < times i xs → count_now p i ≡ 1
      one_time i h = omega (arith, counts i, once i)

      lives : (i : ℕ) → live p i ≡ ltb 0 (times i xs)
      lives i = counted_live p i ∙ ap (λ (n : ℕ). ltb 0 n) (counts i)

      small : (n : ℕ) → n ≤ 1 → n ≡ one (ltb 0 n)
      small n h =
          elim (dec_lt 0 n) [
            | yes l ↦ rw (lt-ltb 0 n l) (omega arith)
            | no g ↦ rw (le-ltb 0 n (omega arith)) (omega arith)
          ]

      pub names_make : names_live_points p xs ≡ true
      unfolding names_live_points
      names_make =
          and_make _ _ (named_make (live p) xs (λ i h. lives i ∙ lt-ltb 0 (times i xs) h))
          (every_make (table_length p.header) (λ k. eqb (times k xs) (one (live p k)))
          (λ i h. eq-eqb (times i xs) (one (live p i)) (small (times i xs) (once i) ∙ ap one (sym (lives i)))))

      pub counted_make : counted_once p xs ≡ true
      unfolding counted_once
      counted_make =
          named_make (λ k. eqb (get_or p.memory.reference_count k 0) 1) xs
          (λ i h.
          let c = one_time i h in
          eq-eqb (get_or p.memory.reference_count i 0) 1
          (sym (counted_below p i (counted_inside p i (omega arith))) ∙ c))

  module _ (p : PointStore E) (on : p.header.store_labels ≡ true) (ls : List ℕ) where
    abbrev test : ℕ → Bool
    test l =
        in_use p.header.store_labels p.header.capacity p.memory.label_count l
        && (eqb (get_or p.memory.label_count l 0) 1 && eqb (times l ls) 1)

    pub own_sound : own_labels p ls ≡ true → (l : ℕ) → 0 < times l ls → Own p ls l
    unfolding own_labels in_use
    own_sound e l h =
        let t = named_at test ls e l h in
        let a = both (p.header.store_labels && (ltb l p.header.capacity && ltb 0 (get_or p.memory.label_count l 0))) (eqb (get_or p.memory.label_count l 0) 1 && eqb (times l ls) 1) t in
        let b = both (eqb (get_or p.memory.label_count l 0) 1) (eqb (times l ls) 1) a.1 in
        let c = both (ltb l p.header.capacity) (ltb 0 (get_or p.memory.label_count l 0)) (rw on at a.0) in
        record {
          below = ltb-true l p.header.capacity c.0;
          counted = eqb-true (get_or p.memory.label_count l 0) 1 b.0;
          once = eqb-true (times l ls) 1 b.1;
        }

    pub own_make : ((l : ℕ) → 0 < times l ls → Own p ls l) → own_labels p ls ≡ true
    unfolding own_labels in_use
    own_make f =
        named_make test ls
        (λ l h.
        let o = f l h in
        rw (on, lt-ltb l p.header.capacity o.below, lt-ltb 0 (get_or p.memory.label_count l 0) (omega (arith, o.counted)), eq-eqb (get_or p.memory.label_count l 0) 1 o.counted, eq-eqb (times l ls) 1 o.once))

  module _ (h : PointHold E) where
    abbrev p : PointStore E
    p = store_of h

    pub hold_sound : hold_well_formed h ≡ true → HoldSound h
    unfolding hold_well_formed tables_lent
    hold_sound e =
        let c = p.header.capacity in
        let on = p.header.store_labels in
        let p1 = both _ _ e in
        let p2 = both _ _ p1.1 in
        let p3 = both _ _ p2.1 in
        let p4 = both _ _ p3.1 in
        let p5 = both _ _ p4.1 in
        let p6 = both _ _ p5.1 in
        let wide = width_sound h.header.width c p2.0 in
        let lent = both (leb c (length h.memory.held_indices)) (cond on (leb c (length h.memory.held_labels)) true) p3.0 in
        record {
          well = p1.0;
          width_least = wide.0;
          width_most = wide.1;
          indices_lent = leb-true c (length h.memory.held_indices) lent.0;
          labels_lent_lem = λ q. leb-true c (length h.memory.held_labels) (asked on (leb c (length h.memory.held_labels)) lent.1 q);
          held_most = leb-true h.header.held h.header.width p4.0;
          names = record {
            counts = names_counts p (indices_of h) p5.0 p6.0;
            once = names_once p (indices_of h) p5.0 p6.0;
            own = λ q. own_sound p q (labels_of h) (asked on (own_labels p (labels_of h)) p6.1 q);
          };
        }

    pub hold_sound_make : HoldSound h → hold_well_formed h ≡ true
    unfolding hold_well_formed tables_lent
    hold_sound_make s =
        let c = p.header.capacity in
        let on = p.header.store_labels in
        let n = s.names in
        and_make _ _ s.well
        (and_make _ _ (width_make h.header.width c s.width_least s.width_most)
        (and_make _ _
        (and_make _ _ (le-leb c (length h.memory.held_indices) s.indices_lent)
        (asked_make on (leb c (length h.memory.held_labels)) (λ q. le-leb c (length h.memory.held_labels) (s.labels_lent_lem q))))
        (and_make _ _ (le-leb h.header.held h.header.width s.held_most)
        (and_make _ _ (names_make p (indices_of h) n.counts n.once)
        (and_make _ _ (counted_make p (indices_of h) n.counts n.once)
        (asked_make on (own_labels p (labels_of h)) (λ q. own_make p q (labels_of h) (n.own q))))))))
