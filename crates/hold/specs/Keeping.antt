-- What a hold does with its store's answer, and what that may rely on.
use Rattle.std.specs.Prelude.{ℕ, zero, suc, ◌+◌, ◌-◌, ◌≤◌, ◌<◌, Bool, true, false, cond, List, [], ◌∷◌, ◌++◌, ◌≡◌, get_or, take, drop, Option, Some, None, Result, Ok, Err}
use Rattle.terms.specs.Refusals.{number}
use Rattle.terms.specs.declared.Refusal.{Refusal}
use Rattle.store_definitions.specs.declared.Kept.{Kept}
use native.Mathlib.Omega.{arith}
use Rattle.std.proofs.Math.Path.{refl, ap, ap₂}
use Rattle.std.proofs.Common.{sym, subst, ◌∙◌, length-take-le}
use Rattle.std.proofs.Math.ListN.{length, length-drop}
use borrow.Author.Tests.{eq-eqb, lt-ltb, le-ltb}
use Rattle.interval_store_manager.specs.Calls.{go}
use Rattle.labels.specs.Decisions.{none}
use Rattle.labels.specs.Labels.{label_lowered}
use Rattle.labels.specs.Counted.{lowered}
use Rattle.store_definitions.specs.Memory.{PointStore}
use Rattle.store_definitions.specs.Answers.{Answer, refused, added_means, Outcome, outcome}
use Rattle.store_definitions.specs.Adding.{add_spec}
use Rattle.store_definitions.specs.Counting.{dec_test, place_after_dec, decremented}
use Rattle.store_definitions.specs.Parts.{point_table, label_half, with_points, with_labels}
use Rattle.store_definitions.specs.WellFormed.{well_formed}
use Rattle.store_laws.specs.Cases.{by_cases}
use Rattle.store_laws.specs.Sound.{sound}
use Rattle.store_laws.specs.AddingLaws.{add_keeps}
use Rattle.hold_definitions.specs.Memory.{PointHold, point_hold, store_of, indices_of, labels_of}
use Rattle.hold_definitions.specs.Answers.{hold_outcome}
use Rattle.hold_definitions.specs.WellFormed.{hold_well_formed}
use Rattle.hold_definitions.specs.Adding.{written_to, with_store, oldest_label, gave_up, holding, hold_added}
use Rattle.hold_definitions.specs.CountsAfter.{Gained, Leaves, add_leaves, counted_inside, count_now}
use Rattle.hold_definitions.proofs.Sound.{HoldSound, hold_sound}
use Rattle.hold_definitions.proofs.NamesLaws.{gained_names, oldest_decided}
use Rattle.hold_definitions.proofs.AddingLaws.{length_more}

-- the first of a list that has one
first_of : (held : ℕ) (xs : List ℕ) (i : ℕ) → 0 < held → held ≤ length xs → get_or (take held xs ++ i ∷ []) 0 0 ≡ get_or xs 0 0
first_of held [] i h l = absurd (omega arith)
first_of zero (x ∷ xs) i h l = absurd (omega arith)
first_of (suc held) (x ∷ xs) i h l = refl

module _ {E : Type 0} where
  -- the hold once its store has kept a point: the point joins the list, and the oldest may go
  unfoldable pub point_kept : Kept → PointHold E → PointHold E
  point_kept k h = holding h (indices_of h ++ k.index.0 ∷ []) (labels_of h ++ k.label.0 ∷ []) (store_of h)

  -- the oldest point and its label, as the tables have them
  abbrev pub oldest_in : PointHold E → ℕ
  oldest_in h = get_or h.memory.held_indices 0 0

  abbrev pub oldest_label_in : PointHold E → ℕ
  oldest_label_in h = cond h.header.store.store_labels (get_or h.memory.held_labels 0 0) none

  -- what a hold relies on whose store has kept a point
  pub record PointReady (k : Kept) (h : PointHold E) : Type 0 where
    pub room : h.header.held < length h.memory.held_indices
    pub label_room : h.header.store.store_labels ≡ true → h.header.held < length h.memory.held_labels
    pub index_small : k.index.0 < 65536
    pub label_small : h.header.store.store_labels ≡ true → k.label.0 < 65536
    pub held_small : h.header.held < 1024
    -- with as many as the hold is wide, the oldest can go
    pub some : h.header.width ≤ h.header.held → 0 < h.header.held
    pub well : well_formed (store_of h) ≡ true
    pub decided : h.header.width ≤ h.header.held → dec_test (store_of h) (oldest_in h) (oldest_label_in h) ≡ go

  -- ---- the ways out

  flag_after : (q : PointStore E) (i l : ℕ) → (decremented q i l).header.store_labels ≡ q.header.store_labels
  unfolding decremented
  flag_after q i l =
      let r = with_points (lowered (point_table q) i) (place_after_dec q i) q in
      by_cases (λ x. x.header.store_labels ≡ q.header.store_labels) q.header.store_labels (with_labels (label_lowered (label_half q) l) r) r (λ on. refl) (λ off. refl)

  module _ (k : Kept) (h : PointHold E) (r : PointReady k h) where
    abbrev xs : List ℕ
    xs = indices_of h ++ k.index.0 ∷ []

    abbrev ls : List ℕ
    ls = labels_of h ++ k.label.0 ∷ []

    longer : length xs ≡ h.header.held + 1
    longer = length_more (indices_of h) k.index.0 ∙ ap (λ (n : ℕ). n + 1) (length-take-le h.header.held h.memory.held_indices (omega (arith, r.room)))

    -- there was room for one more
    pub kept_more : h.header.held < h.header.width → (indices labels : List ℕ) → indices ≡ written_to h.memory.held_indices xs → labels ≡ cond h.header.store.store_labels (written_to h.memory.held_labels ls) h.memory.held_labels
        → point_hold (record { store = h.header.store; width = h.header.width; held = h.header.held + 1 }) (record { store = h.memory.store; held_indices = indices; held_labels = labels }) ≡ point_kept k h
    unfolding point_kept holding
    kept_more few indices labels a b = rw (le-ltb h.header.width (length xs) (omega (arith, longer)), a, b, ← longer)

    -- the oldest is gone
    module _ (full : h.header.width ≤ h.header.held) where
      same_oldest : oldest_in h ≡ get_or xs 0 0
      same_oldest = sym (first_of h.header.held h.memory.held_indices k.index.0 (r.some full) (omega (arith, r.room)))

      same_label : (b : Bool) → h.header.store.store_labels ≡ b → cond b (get_or h.memory.held_labels 0 0) none ≡ cond b (get_or ls 0 0) none
      same_label true on = sym (first_of h.header.held h.memory.held_labels k.label.0 (r.some full) (omega (arith, r.label_room on)))
      same_label false off = refl

      pub kept_full : (p : PointStore E) → p ≡ decremented (store_of h) (oldest_in h) (oldest_label_in h) → (indices labels : List ℕ) → indices ≡ written_to h.memory.held_indices (drop 1 xs) → labels ≡ cond h.header.store.store_labels (written_to h.memory.held_labels (drop 1 ls)) h.memory.held_labels
          → point_hold (record { store = p.header; width = h.header.width; held = h.header.held }) (record { store = p.memory; held_indices = indices; held_labels = labels }) ≡ point_kept k h
      unfolding point_kept holding gave_up
      kept_full p d indices labels a b =
          let fewer : length (drop 1 xs) ≡ h.header.held = length-drop 1 xs ∙ ap (λ (n : ℕ). n - 1) longer ∙ (let z : h.header.held + 1 - 1 ≡ h.header.held = omega arith in z) in
          let gone : p ≡ decremented (store_of h) (get_or xs 0 0) (oldest_label (store_of h) ls) = d ∙ ap₂ (λ (i l : ℕ). decremented (store_of h) i l) same_oldest (same_label h.header.store.store_labels refl) in
          ap (λ (n : ℕ). point_hold (record { store = p.header; width = h.header.width; held = n }) (record { store = p.memory; held_indices = indices; held_labels = labels })) (sym fewer)
          ∙ (rw (lt-ltb h.header.width (length xs) (omega (arith, longer)), a, b, gone, flag_after (store_of h) (get_or xs 0 0) (oldest_label (store_of h) ls)))

  -- ---- what the store's add leaves is ready

  module _ (h : PointHold E) (s : HoldSound h) (q : PointStore E) (f : well_formed q ≡ true) where
    point_ready : (k : Kept) → Gained (store_of h) q k.index.0 k.label.0 → PointReady k (with_store q h)
    point_ready k g =
        let i = k.index.0 in
        let l = k.label.0 in
        let capacity = (sound (store_of h) s.well).bounds.capacity_most in
        let w = sound q f in
        let n = gained_names (store_of h) q i l (indices_of h) (labels_of h) s.names g in
        let xs = indices_of h ++ i ∷ [] in
        let ls = labels_of h ++ l ∷ [] in
        let inside = counted_inside q i (let c : count_now q i ≡ 1 = g.counts i ∙ (rw (eq-eqb i i refl)) in omega (arith, c)) in
        let was : q.header.store_labels ≡ true → h.header.store.store_labels ≡ true = λ on. sym g.shape.flag_same ∙ on in
        let long = length_more (indices_of h) i in
        record {
          room = omega (arith, s.held_most, s.width_most, s.indices_lent);
          label_room = λ on. omega (arith, s.held_most, s.width_most, s.labels_lent_lem (was on));
          index_small = omega (arith, inside, w.table_within, w.bounds.capacity_most);
          label_small = λ on. omega (arith, g.label_below (was on), capacity);
          held_small = omega (arith, s.held_most, s.width_most, capacity);
          some = λ full. omega (arith, full, s.width_least);
          well = f;
          decided = λ full.
              let positive : 0 < h.header.held = omega (arith, full, s.width_least) in
              let a : get_or xs 0 0 ≡ oldest_in h = first_of h.header.held h.memory.held_indices i positive (omega (arith, s.held_most, s.width_most, s.indices_lent)) in
              let label : (b : Bool) → q.header.store_labels ≡ b → cond b (get_or ls 0 0) none ≡ cond b (get_or h.memory.held_labels 0 0) none = λ b. by_flag l g.shape.flag_same b positive in
              subst (λ (n : ℕ). dec_test q n (oldest_label_in (with_store q h)) ≡ go) a
              (subst (λ (n : ℕ). dec_test q (get_or xs 0 0) n ≡ go) (label q.header.store_labels refl)
              (oldest_decided q w xs ls n (omega (arith, long)) (λ on. omega (arith, length_more (labels_of h) l))));
        }
      where
        by_flag : (l : ℕ) → q.header.store_labels ≡ h.header.store.store_labels → (b : Bool) → 0 < h.header.held → q.header.store_labels ≡ b → cond b (get_or (labels_of h ++ l ∷ []) 0 0) none ≡ cond b (get_or h.memory.held_labels 0 0) none
        by_flag l same true positive on = first_of h.header.held h.memory.held_labels l positive (omega (arith, s.held_most, s.width_most, s.labels_lent_lem (sym same ∙ on)))
        by_flag l same false positive off = refl

  module _ (eq : E → E → Bool) (zero_element : E) (h : PointHold E) (point : List E) (code : ℕ) (answer : Result (Option Kept) Refusal) (q : PointStore E) (d : outcome (added_means answer) q ≡ add_spec eq zero_element (store_of h) point code) where
    answer_is : (add_spec eq zero_element (store_of h) point code).answer ≡ added_means answer
    answer_is = ap (λ (o : Outcome E). o.answer) (sym d)

    after_is : (add_spec eq zero_element (store_of h) point code).after ≡ q
    after_is = ap (λ (o : Outcome E). o.after) (sym d)

    pub added_ready : hold_well_formed h ≡ true → (k : Kept) → answer ≡ Ok (Some k) → PointReady k (with_store q h)
    added_ready e k f =
        let s = hold_sound h e in
        point_ready h s q
        (subst (λ (x : PointStore E). well_formed x ≡ true) after_is (add_keeps eq zero_element (store_of h) point code s.well))
        k
        (subst (λ (x : Result (Option Kept) Refusal). Leaves (store_of h) (added_means x) q) f
        (subst (λ (x : Answer). Leaves (store_of h) x q) answer_is
        (subst (λ (x : PointStore E). Leaves (store_of h) (add_spec eq zero_element (store_of h) point code).answer x) after_is
        (add_leaves eq zero_element (store_of h) (sound (store_of h) s.well) point code))))

    -- ---- the hold after each answer

    hold_after : (r : Result (Option Kept) Refusal) → answer ≡ r → hold_added h (outcome (added_means r) q) ≡ hold_added h (add_spec eq zero_element (store_of h) point code)
    hold_after r f = ap (λ (x : Result (Option Kept) Refusal). hold_added h (outcome (added_means x) q)) (sym f) ∙ ap (λ (o : Outcome E). hold_added h o) d

    pub added_kept : (k : Kept) → answer ≡ Ok (Some k) → (r : PointHold E) → r ≡ point_kept k (with_store q h) → hold_outcome (added_means (Ok (Some k))) r ≡ hold_added h (add_spec eq zero_element (store_of h) point code)
    unfolding point_kept holding
    added_kept k f r b = ap (λ (x : PointHold E). hold_outcome (added_means (Ok (Some k))) x) b ∙ hold_after (Ok (Some k)) f

    pub added_waits : answer ≡ Ok None → hold_outcome (added_means (Ok None)) (with_store q h) ≡ hold_added h (add_spec eq zero_element (store_of h) point code)
    added_waits f = hold_after (Ok None) f

    pub added_refused : (why : Refusal) → answer ≡ Err why → hold_outcome (refused (number why)) (with_store q h) ≡ hold_added h (add_spec eq zero_element (store_of h) point code)
    added_refused why f = hold_after (Err why) f
