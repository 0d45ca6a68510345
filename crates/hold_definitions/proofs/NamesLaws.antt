-- A list goes on naming the live points: with the point of a kept add at its end, and without its oldest once that is given up.
use Rattle.std.specs.Prelude.{ℕ, ◌+◌, ◌-◌, ◌≤◌, ◌<◌, Bool, List, [], ◌∷◌, ◌++◌, ◌≡◌, length, get_or, drop, eqb}
use Rattle.std.proofs.Math.Decide.{dec_lt, ℕ_discrete}
use Rattle.std.proofs.Common.{arith, sym, ◌∙◌, get_or-set_other, eq-eqb, ne_eqb, lt-ltb}
use Rattle.std.proofs.Math.Bool.{true, false, cond}
use Rattle.std.proofs.Math.Path.{refl}
use Rattle.terms.specs.Below.{one}
use Rattle.interval_store_manager.specs.Calls.{go, refuse}
use Rattle.labels.specs.Decisions.{none, in_use, dec_decided}
use Rattle.store_definitions.specs.Memory.{PointStore}
use Rattle.store_definitions.specs.Parts.{table_length}
use Rattle.store_definitions.specs.Decisions.{touch_decided}
use Rattle.store_definitions.specs.Counting.{dec_test, decremented}
use Rattle.store_laws.specs.Sound.{Sound}
use Rattle.store_laws.specs.CountingLaws.{dec_accepted}
use Rattle.hold_definitions.specs.Listed.{times, times_first, times_self, times_more, times_other, times_itself}
use Rattle.hold_definitions.specs.Adding.{oldest_label, gave_up}
use Rattle.hold_definitions.specs.CountsAfter.{count_now, counted_live, counted_below, counted_inside, label_count_now, SameShape, SameCounts, Gained, dec_shape, dec_length, dec_counts, dec_label_counts}
use Rattle.hold_definitions.proofs.Sound.{Own, Names}

module _ {E : Type 0} where
  -- what leaves the counts leaves the names
  pub names_same : (p q : PointStore E) (xs ls : List ℕ) → Names p xs ls → SameCounts p q → Names q xs ls
  names_same p q xs ls n s =
      record {
        counts = λ j. s.counts j ∙ n.counts j;
        once = n.once;
        own = λ on l h.
            let o = n.own (sym s.shape.flag_same ∙ on) l h in
            record { below = rw s.shape.capacity_same o.below; counted = s.label_counts_lem l ∙ o.counted; once = o.once };
      }

  module _ (p q : PointStore E) (i l : ℕ) (xs ls : List ℕ) (n : Names p xs ls) (g : Gained p q i l) where
    new_counts : (j : ℕ) → count_now q j ≡ times j (xs ++ i ∷ [])
    new_counts j =
        g.counts j
        ∙ elim (ℕ_discrete j i) [
          | yes e ↦ rw (eq-eqb j i e, e, times_more i i xs, times_self i) (omega (arith, n.counts i, g.was_free))
          | no d ↦ rw (ne_eqb j i d, times_more j i xs, times_other i j d) (omega (arith, n.counts j))
        ]

    new_once : (j : ℕ) → times j (xs ++ i ∷ []) ≤ 1
    new_once j =
        elim (ℕ_discrete j i) [
          | yes e ↦ rw (e, times_more i i xs, times_self i) (omega (arith, n.counts i, g.was_free))
          | no d ↦ rw (times_more j i xs, times_other i j d) (omega (arith, n.once j))
        ]

    module _ (on : p.header.store_labels ≡ true) where
      -- the new label is on no list yet
      label_new : times l ls ≡ 0
      label_new =
          elim (dec_lt 0 (times l ls)) [
            | yes h ↦ absurd (omega (arith, (n.own on l h).counted, g.label_was_free on))
            | no f ↦ omega arith
          ]

      new_own : (k : ℕ) → 0 < times k (ls ++ l ∷ []) → Own q (ls ++ l ∷ []) k
      new_own k h =
          elim (ℕ_discrete k l) [
            | yes e ↦
                record {
                  below = rw (e, g.shape.capacity_same) (g.label_below on);
                  counted = g.label_counts_lem on k ∙ (rw (eq-eqb k l e));
                  once = rw (e, times_more l l ls, times_self l) (omega (arith, label_new));
                }
            | no d ↦
                let t = times_more k l ls in
                let z = times_other l k d in
                let o = n.own on k (omega (arith, t, z, h)) in
                record {
                  below = rw g.shape.capacity_same o.below;
                  counted = g.label_counts_lem on k ∙ (rw (ne_eqb k l d) o.counted);
                  once = omega (arith, t, z, o.once);
                }
          ]

    pub gained_names : Names q (xs ++ i ∷ []) (ls ++ l ∷ [])
    gained_names =
        record {
          counts = new_counts;
          once = new_once;
          own = λ on. new_own (sym g.shape.flag_same ∙ on);
        }

  module _ (q : PointStore E) (w : Sound q) (xs ls : List ℕ) (n : Names q xs ls) (some : 0 < length xs) (labelled : q.header.store_labels ≡ true → 0 < length ls) where
    abbrev oldest : ℕ
    oldest = get_or xs 0 0

    abbrev label : ℕ
    label = oldest_label q ls

    first : (j : ℕ) → times j xs ≡ one (eqb oldest j) + times j (drop 1 xs)
    first j = times_first j 0 xs some

    counted_one : count_now q oldest ≡ 1
    counted_one = omega (arith, n.counts oldest, n.once oldest, first oldest, times_self oldest)

    inside : oldest < table_length q.header
    inside = counted_inside q oldest (omega (arith, counted_one))

    used : 0 < get_or q.memory.reference_count oldest 0
    used = omega (arith, counted_below q oldest inside, counted_one)

    touched : touch_decided q oldest ≡ go
    unfolding touch_decided
    touched = rw (counted_live q oldest, counted_one)

    -- with labels on, the oldest point's label
    module _ (on : q.header.store_labels ≡ true) where
      abbrev own_label : ℕ
      own_label = get_or ls 0 0

      first_label : (j : ℕ) → times j ls ≡ one (eqb own_label j) + times j (drop 1 ls)
      first_label j = times_first j 0 ls (labelled on)

      its_own : Own q ls own_label
      its_own = n.own on own_label (omega (arith, first_label own_label, times_self own_label))

      label_is : label ≡ own_label
      label_is = rw on

      in_use_lem : in_use true q.header.capacity q.memory.label_count own_label ≡ true
      unfolding in_use
      in_use_lem = rw (lt-ltb own_label q.header.capacity its_own.below, its_own.counted)

      own_after : (k : ℕ) → 0 < times k (drop 1 ls) → Own (decremented q oldest label) (drop 1 ls) k
      own_after k h =
          let t = first_label k in
          let o = n.own on k (omega (arith, t, h)) in
          let d : k ≡ own_label → ⊥ = λ e. omega (arith, t, h, o.once, times_itself own_label k e) in
          record {
            below = rw (dec_shape q w oldest label inside used).capacity_same o.below;
            counted =
                dec_label_counts q w oldest label inside used on k
                ∙ get_or-set_other q.memory.label_count label k (label_count_now q label - 1) 0 (λ e. d (e ∙ label_is))
                ∙ o.counted;
            once = omega (arith, t, o.once, times_other own_label k d);
          }

    label_decided : dec_decided q.header.store_labels q.header.capacity q.memory.label_count label ≡ go
    unfolding dec_decided
    label_decided = split q.header.store_labels refl
      where
        split : (b : Bool) → q.header.store_labels ≡ b → cond b (cond (in_use b q.header.capacity q.memory.label_count (cond b (get_or ls 0 0) none)) go (refuse 6)) (cond (eqb (cond b (get_or ls 0 0) none) none) go (refuse 6)) ≡ go
        split true on = rw (in_use_lem on)
        split false off = refl

    -- the dec of the oldest is never refused
    pub oldest_decided : dec_test q oldest label ≡ go
    unfolding dec_test
    oldest_decided = rw (touched, label_decided)

    pub given_up_sound : Sound (gave_up xs ls q)
    unfolding gave_up
    given_up_sound = dec_accepted q oldest label w oldest_decided

    pub given_up_shape : SameShape q (gave_up xs ls q)
    unfolding gave_up
    given_up_shape = dec_shape q w oldest label inside used

    pub given_up_length : table_length (gave_up xs ls q).header ≡ table_length q.header
    unfolding gave_up
    given_up_length = dec_length q w oldest label inside used

    counts_after : (j : ℕ) → count_now (decremented q oldest label) j ≡ times j (drop 1 xs)
    counts_after j =
        dec_counts q w oldest label inside used j
        ∙ elim (ℕ_discrete j oldest) [
          | yes e ↦ rw (eq-eqb j oldest e) (omega (arith, counted_one, n.once j, first j, times_itself oldest j e))
          | no d ↦ rw (ne_eqb j oldest d) (omega (arith, n.counts j, first j, times_other oldest j d))
        ]

    pub given_up_names : Names (gave_up xs ls q) (drop 1 xs) (drop 1 ls)
    unfolding gave_up
    given_up_names =
        record {
          counts = counts_after;
          once = λ j. omega (arith, first j, n.once j);
          own = λ on. own_after (sym (dec_shape q w oldest label inside used).flag_same ∙ on);
        }
