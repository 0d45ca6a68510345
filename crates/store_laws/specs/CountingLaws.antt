-- Inc, dec and adjust keep a store well-formed, refused or not.
use Rattle.std.specs.Prelude.{ℕ, suc, ◌+◌, ◌-◌, ◌≤◌, ◌<◌, Bool, ◌≡◌, set}
use native.Mathlib.Omega.{arith}
use Rattle.std.proofs.Math.Decide.{ℕ_discrete}
use Rattle.std.proofs.Math.Bool.{true, false, cond}
use mathlib.Core.List.{List, [], ◌∷◌}
use Rattle.std.proofs.Math.Path.{refl, sym}
use Rattle.std.proofs.Common.{◌∙◌, length-set, get_or-set_other}
use Rattle.std.proofs.Math.ListN.{length, get_or}
use Rattle.std.proofs.Math.Seq.{get_or-set_same}
use Rattle.std.proofs.Math.Dec.{eqb}
use borrow.Author.Tests.{eq-eqb, ne_eqb, eqb-false}
use Rattle.terms.specs.Entries.{stored}
use Rattle.interval_store_manager.specs.Calls.{Decided, go, refuse}
use Rattle.labels.specs.Counted.{raised, lowered}
use Rattle.labels.specs.CountedLaws.{raise_keeps, lower_keeps, lowered_counts}
use Rattle.labels.specs.Decisions.{none, inc_decided, dec_decided}
use Rattle.labels.specs.Labels.{label_raised, label_lowered}
use Rattle.labels.specs.CountLaws.{inc_keeps as label_inc_keeps, dec_keeps as label_dec_keeps}
use Rattle.store_definitions.specs.Memory.{PointStore}
use Rattle.store_definitions.specs.Answers.{done, Outcome, outcome}
use Rattle.store_definitions.specs.Parts.{table_length, point_table, label_half, with_points, with_labels}
use Rattle.store_definitions.specs.Decisions.{and_then, form_decided, touch_decided}
use Rattle.store_definitions.specs.Counting.{Pairing, inc_test, dec_test, incremented, place_after_dec, decremented, inc_spec, dec_spec, pair_decided, pair_done, unless_refused, adjust_from, adjust_spec}
use Rattle.store_definitions.specs.WellFormed.{well_formed}
use Rattle.store_laws.specs.Sound.{Sound, sound, sound_make}
use Rattle.store_laws.specs.Cases.{either, by_cases}
use Rattle.store_laws.specs.Lengths.{raised_lengths, lowered_lengths}
use Rattle.store_laws.specs.PointsLaws.{rows_fewer, with_points_lem, with_labels_lem}
use Rattle.store_laws.specs.DecisionLaws.{both_go, not_refused, touch_go, Used, inc_label_go, dec_label_go, carried}

module _ {E : Type 0} where
  module _ (p : PointStore E) (w : Sound p) (i : ℕ) (h : i < table_length p.header) (u : 0 < get_or p.memory.reference_count i 0) where
    abbrev counts : List ℕ
    counts = p.memory.reference_count

    abbrev location : List ℕ
    location = p.memory.location

    abbrev n : ℕ
    n = table_length p.header

    -- a live index has a place
    not_empty : eqb (get_or location i 65535) 65535 ≡ false
    not_empty = sym (w.empty_is i h) ∙ ne_eqb (get_or counts i 0) 0 (λ z. omega arith)

    raised_sound : (get_or counts i 0 ≡ 65535 → ⊥) → Sound (with_points (raised (point_table p) i) location p)
    unfolding raised
    raised_sound f =
        with_points_lem p w n (raised (point_table p) i) location w.table_within (raise_keeps n (point_table p) w.points i h u) (raised_lengths (point_table p) i) w.rows
        (λ k m.
        stored (λ x. eqb x 0 ≡ eqb (get_or location k 65535) 65535) counts i (get_or counts i 0 + 1) k (omega (arith, w.points.lent))
        (λ e. rw e (ne_eqb (get_or counts i 0 + 1) 0 (λ z. omega arith) ∙ sym not_empty))
        (λ d. w.empty_is k m))
        (λ k m.
        stored (λ x. x ≤ 65535) counts i (get_or counts i 0 + 1) k (omega (arith, w.points.lent)) (λ e. omega (arith, w.counts_most i h)) (λ d. w.counts_most k m))

    pub inc_sound : (l : ℕ) → (get_or counts i 0 ≡ 65535 → ⊥) → (p.header.store_labels ≡ true → Used p.header.capacity p.memory.label_count l × (get_or p.memory.label_count l 0 ≡ 65535 → ⊥)) → Sound (incremented p i l)
    unfolding incremented
    inc_sound l g f =
        by_cases Sound p.header.store_labels (with_labels (label_raised (label_half p) l) (with_points (raised (point_table p) i) location p)) (with_points (raised (point_table p) i) location p)
        (λ on.
        with_labels_lem (with_points (raised (point_table p) i) location p) (raised_sound g) (label_raised (label_half p) l)
        (let v = f on in
        label_inc_keeps p.header.classes p.header.capacity (label_half p) (w.labels on) l v.0.below v.0.counted
        (less (get_or p.memory.label_count l 0) ((w.labels on).count_most l v.0.below) v.1)))
        (λ off. raised_sound g)
      where
        less : (k : ℕ) → k ≤ 65535 → (k ≡ 65535 → ⊥) → k < 65535
        less k a b = omega arith

    -- the place of index i is emptied with its last count, and no other place changes
    place_length : length (place_after_dec p i) ≡ length location
    unfolding place_after_dec
    place_length = either (λ x. length x ≡ length location) (eqb (get_or counts i 0) 1) (set location i 65535) location (length-set location i 65535) refl

    place_other : (k : ℕ) → (k ≡ i → ⊥) → get_or (place_after_dec p i) k 65535 ≡ get_or location k 65535
    unfolding place_after_dec
    place_other k d = either (λ x. get_or x k 65535 ≡ get_or location k 65535) (eqb (get_or counts i 0) 1) (set location i 65535) location (get_or-set_other location i k 65535 65535 d) refl

    place_own : eqb (get_or counts i 0 - 1) 0 ≡ eqb (get_or (place_after_dec p i) i 65535) 65535
    unfolding place_after_dec
    place_own =
        elim (ℕ_discrete (get_or counts i 0) 1) [
          | yes e ↦
              let z : get_or counts i 0 - 1 ≡ 0 = omega arith in
              rw (eq-eqb (get_or counts i 0) 1 e, eq-eqb (get_or counts i 0 - 1) 0 z, get_or-set_same location i 65535 65535 (omega (arith, w.rows.places_lent, w.table_within)))
          | no d ↦ rw (ne_eqb (get_or counts i 0) 1 d, ne_eqb (get_or counts i 0 - 1) 0 (λ z. d (omega arith)), not_empty)
        ]

    place_own_same : (get_or (place_after_dec p i) i 65535 ≡ 65535 → ⊥) → get_or (place_after_dec p i) i 65535 ≡ get_or location i 65535
    unfolding place_after_dec
    place_own_same =
        either (λ x. (get_or x i 65535 ≡ 65535 → ⊥) → get_or x i 65535 ≡ get_or location i 65535) (eqb (get_or counts i 0) 1) (set location i 65535) location
        (λ d. absurd (d (get_or-set_same location i 65535 65535 (omega (arith, w.rows.places_lent, w.table_within)))))
        (λ d. refl)

    abbrev lower : PointStore E
    lower = with_points (lowered (point_table p) i) (place_after_dec p i) p

    lowered_sound : Sound lower
    lowered_sound =
        with_points_lem p w n (lowered (point_table p) i) (place_after_dec p i) w.table_within (lower_keeps n (point_table p) w.points i h u) (lowered_lengths (point_table p) i)
        (rows_fewer _ _ _ n _ w.rows w.table_within n (place_after_dec p i) w.table_within place_length
        (λ k m d. (m, elim (ℕ_discrete k i) [ yes e ↦ rw e (place_own_same (rw e at d)) | no f ↦ place_other k f ])))
        (λ k m.
        rw (lowered_counts (point_table p) i)
        (stored (λ x. eqb x 0 ≡ eqb (get_or (place_after_dec p i) k 65535) 65535) counts i (get_or counts i 0 - 1) k (omega (arith, w.points.lent))
        (λ e. rw e place_own)
        (λ d. w.empty_is k m ∙ (rw (place_other k d)))))
        (λ k m.
        rw (lowered_counts (point_table p) i)
        (stored (λ x. x ≤ 65535) counts i (get_or counts i 0 - 1) k (omega (arith, w.points.lent)) (λ e. omega (arith, w.counts_most i h)) (λ d. w.counts_most k m)))

    pub dec_sound : (l : ℕ) → (p.header.store_labels ≡ true → Used p.header.capacity p.memory.label_count l) → Sound (decremented p i l)
    unfolding decremented
    dec_sound l f =
        by_cases Sound p.header.store_labels (with_labels (label_lowered (label_half p) l) lower) lower
        (λ on.
        with_labels_lem lower lowered_sound (label_lowered (label_half p) l)
        (label_dec_keeps p.header.classes p.header.capacity (label_half p) (w.labels on) l (f on).below (f on).counted))
        (λ off. lowered_sound)

  -- what an accepted inc and an accepted dec leave
  pub inc_accepted : (p : PointStore E) (i l : ℕ) → Sound p → inc_test p i l ≡ go → Sound (incremented p i l)
  unfolding inc_test
  inc_accepted p i l w e =
      let a = both_go (touch_decided p i) _ e in
      let b = both_go (inc_decided p.header.store_labels p.header.capacity p.memory.label_count l) _ a.1 in
      let t = touch_go p i a.0 in
      inc_sound p w i t.0 t.1 l (eqb-false (get_or p.memory.reference_count i 0) 65535 (not_refused _ 7 b.1))
      (λ on. inc_label_go p.header.capacity p.memory.label_count l (rw on at b.0))

  pub dec_accepted : (p : PointStore E) (i l : ℕ) → Sound p → dec_test p i l ≡ go → Sound (decremented p i l)
  unfolding dec_test
  dec_accepted p i l w e =
      let a = both_go (touch_decided p i) (dec_decided p.header.store_labels p.header.capacity p.memory.label_count l) e in
      let t = touch_go p i a.0 in
      dec_sound p w i t.0 t.1 l
      (λ on. dec_label_go p.header.capacity p.memory.label_count l (rw on at a.1))

  pub pair_accepted : (p : PointStore E) (q : Pairing) → Sound p → pair_decided p q ≡ go → Sound (pair_done p q)
  unfolding pair_decided pair_done
  pair_accepted p q w e =
      let r : PointStore E = incremented p q.insert_index q.insert_label in
      let a = both_go (inc_test p q.insert_index q.insert_label) (cond (eqb q.delete_index none) go (dec_test r q.delete_index q.delete_label)) e in
      split (eqb q.delete_index none) (inc_accepted p q.insert_index q.insert_label w a.0) a.1
    where
      split : (b : Bool) → Sound (incremented p q.insert_index q.insert_label) → cond b go (dec_test (incremented p q.insert_index q.insert_label) q.delete_index q.delete_label) ≡ go → Sound (cond b (incremented p q.insert_index q.insert_label) (decremented (incremented p q.insert_index q.insert_label) q.delete_index q.delete_label))
      split true s d = s
      split false s d = dec_accepted (incremented p q.insert_index q.insert_label) q.delete_index q.delete_label s d

  pair_carried : (P : PointStore E → Type 0) (d : Decided) (p : PointStore E) (before : ℕ) (rest : PointStore E → Outcome E) (r : PointStore E) → P p → (d ≡ go → P (rest r).after) → P (unless_refused d before p (rest r)).after
  pair_carried P go p before rest r h f = f refl
  pair_carried P (refuse n) p before rest r h f = h

  -- 'A refused pair changes nothing and ends the call': what the pairs before it left is sound
  pub adjust_sound : (before : ℕ) (qs : List Pairing) (p : PointStore E) → Sound p → Sound (adjust_from before qs p).after
  unfolding adjust_from
  adjust_sound before [] p w = w
  adjust_sound before (q ∷ qs) p w =
      either (λ o. Sound o.after) (eqb q.insert_index none) (adjust_from (suc before) qs p) (unless_refused (pair_decided p q) before p (adjust_from (suc before) qs (pair_done p q)))
      (adjust_sound (suc before) qs p w)
      (pair_carried Sound (pair_decided p q) p before (adjust_from (suc before) qs) (pair_done p q) w
      (λ e. adjust_sound (suc before) qs (pair_done p q) (pair_accepted p q w e)))

  -- each call, refused or not
  pub inc_keeps : (p : PointStore E) (i l : ℕ) → well_formed p ≡ true → well_formed (inc_spec p i l).after ≡ true
  unfolding inc_spec
  inc_keeps p i l e =
      carried (λ q. well_formed q ≡ true) (and_then (form_decided p) (inc_test p i l)) p (outcome done (incremented p i l)) e
      (λ g. sound_make (incremented p i l) (inc_accepted p i l (sound p e) (both_go (form_decided p) (inc_test p i l) g).1))

  pub dec_keeps : (p : PointStore E) (i l : ℕ) → well_formed p ≡ true → well_formed (dec_spec p i l).after ≡ true
  unfolding dec_spec
  dec_keeps p i l e =
      carried (λ q. well_formed q ≡ true) (and_then (form_decided p) (dec_test p i l)) p (outcome done (decremented p i l)) e
      (λ g. sound_make (decremented p i l) (dec_accepted p i l (sound p e) (both_go (form_decided p) (dec_test p i l) g).1))

  pub adjust_keeps : (p : PointStore E) (qs : List Pairing) → well_formed p ≡ true → well_formed (adjust_spec p qs).after ≡ true
  unfolding adjust_spec form_decided
  adjust_keeps p qs e = rw e (sound_make (adjust_from 0 qs p).after (adjust_sound 0 qs p (sound p e)))
