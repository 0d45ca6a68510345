-- Inc and dec keep the invariant.
use Rattle.std.specs.Prelude.{ℕ, ◌+◌, ◌-◌, ◌<◌, Bool, cond, List, ◌≡◌, eqb}
use Rattle.std.proofs.Math.Decide.{ℕ_discrete}
use Rattle.std.proofs.Common.{arith, sym, ap, ◌∙◌, eq-eqb, ne_eqb}
use Rattle.std.proofs.Math.Bool.{true, false}
use lib.ListN.{get_or, set}
use Rattle.std.proofs.Math.Seq.{get_or-set_same, get_or-set_other}
use Rattle.terms.specs.Below.{sum_below}
use Rattle.terms.specs.Sums.{sum_changed}
use Rattle.labels.specs.Counted.{raised, lowered}
use Rattle.labels.specs.CountedLaws.{lower_keeps, lowered_counts}
use Rattle.labels.specs.Labels.{Labels}
use Rattle.store_definitions.specs.declared.Shape.{Shape}
use Rattle.store_definitions.specs.Memory.{PointStore}
use Rattle.store_definitions.specs.Parts.{table_length, point_table, with_labels}
use Rattle.store_definitions.specs.Counting.{incremented, decremented, place_after_dec}
use Rattle.store_definitions.specs.Rows.{copy_of}
use Rattle.store_laws.specs.Sound.{Sound}
use Rattle.guarantee.specs.History.{Given, alive, count, is_live, History, inced, deced, deced_life, changed}
use Rattle.guarantee.specs.LifeLaws.{inced_count, inced_live, inced_counted, inced_since, deced_count, deced_live, deced_was_live, deced_counted, deced_since}
use Rattle.guarantee.specs.Relates.{Relates}

module _ {E : Type 0} (eq : E → E → Bool) (h : Shape) (then : Given E → PointStore E) where
  -- the label half plays no part
  pub labels_aside : (b : Bool) (s : History E) (l : Labels) (p : PointStore E) → Relates eq h then s p → Relates eq h then s (cond b (with_labels l p) p)
  unfolding copy_of
  labels_aside true s l p r =
      record {
        fits = record {
          dimensions = r.fits.dimensions;
          shingle = r.fits.shingle;
          capacity = r.fits.capacity;
          internal = r.fits.internal;
          rotation = r.fits.rotation;
        };
        counts = r.counts;
        live_below_lem = r.live_below_lem;
        live_counted = r.live_counted;
        sum = r.sum;
        copies = r.copies;
        sequence = r.sequence;
        window = r.window;
      }
  labels_aside false s l p r = r

  module _ (s : History E) (p : PointStore E) (w : Sound p) (r : Relates eq h then s p) (g : Given E) (i : ℕ) (listed : i < table_length p.header) (counted : 0 < get_or p.memory.reference_count i 0) where
    abbrev n : ℕ
    n = table_length p.header

    abbrev cs : List ℕ
    cs = p.memory.reference_count

    some : 0 < count (s.life i)
    some = rw (sym (r.counts i listed)) (counted)

    inside : i < lib.ListN.length cs
    inside = omega (arith, listed, w.points.lent)

    -- the counts with another one at i, and their sum
    others : (v : ℕ) → sum_below n (λ k. get_or (set cs i v) k 0) + get_or cs i 0 ≡ sum_below n (λ k. get_or cs k 0) + v
    others v =
        sum_changed n i (λ k. get_or cs k 0) (λ k. get_or (set cs i v) k 0) listed (λ k m d. get_or-set_other cs i k v 0 d)
        ∙ ap (λ (x : ℕ). sum_below n (λ k. get_or cs k 0) + x) (get_or-set_same cs i v 0 inside)

    pub inc_kept : (label : ℕ) → Relates eq h then (changed g (inced i) s) (incremented p i label)
    unfolding incremented raised copy_of
    inc_kept label =
        labels_aside p.header.store_labels (changed g (inced i) s) _ _
        (record {
          fits = record {
            dimensions = r.fits.dimensions;
            shingle = r.fits.shingle;
            capacity = r.fits.capacity;
            internal = r.fits.internal;
            rotation = r.fits.rotation;
          };
          counts = λ k m.
              elim (ℕ_discrete k i) [
                | yes e ↦ rw (eq-eqb k i e, e, get_or-set_same cs i (get_or cs i 0 + 1) 0 inside, r.counts i listed) (sym (inced_count (s.life i) some))
                | no d ↦ rw (ne_eqb k i d, get_or-set_other cs i k (get_or cs i 0 + 1) 0 d) (r.counts k m)
              ];
          live_below_lem = λ k e. r.live_below_lem k (sym (inced_live (eqb k i) (s.life k)) ∙ e);
          live_counted = λ k e. inced_counted (eqb k i) (s.life k) (r.live_counted k (sym (inced_live (eqb k i) (s.life k)) ∙ e));
          sum = omega (arith, others (get_or cs i 0 + 1), r.sum);
          copies = λ k f since. r.copies k f (inced_since (eqb k i) (s.life k) since.0 since.1 f since.2);
          sequence = r.sequence;
          window = r.window;
        })

    whole : (lowered (point_table p) i).manager.capacity ≡ n
    whole = (lower_keeps n (point_table p) w.points i listed (counted)).whole

    -- the places of the other indices stay, and the index's own while it lives
    place_stays : (k : ℕ) → (k ≡ i → 1 < get_or cs i 0) → get_or (place_after_dec p i) k 65535 ≡ get_or p.memory.location k 65535
    unfolding place_after_dec
    place_stays k more =
        elim (ℕ_discrete (get_or cs i 0) 1) [
          | yes e ↦ rw (eq-eqb (get_or cs i 0) 1 e) (get_or-set_other p.memory.location i k 65535 65535 (λ q. omega (arith, more q)))
          | no d ↦ rw (ne_eqb (get_or cs i 0) 1 d)
        ]

    -- an index that is live afterwards, and was meant, had more than one count
    more_than_one : (k x y : ℕ) (f : Given E) → cond (eqb k i) (deced_life (s.life k)) (s.life k) ≡ alive x y f → k ≡ i → 1 < get_or cs i 0
    more_than_one k x y f e q =
        rw (r.counts i listed) (deced_live (s.life i) (ap is_live (rw (eq-eqb k i q, q) at e)))

    pub dec_kept : (label : ℕ) → Relates eq h then (changed g (deced i) s) (decremented p i label)
    unfolding decremented copy_of
    dec_kept label =
        labels_aside p.header.store_labels (changed g (deced i) s) _ _
        (record {
          fits = record {
            dimensions = r.fits.dimensions;
            shingle = r.fits.shingle;
            capacity = r.fits.capacity;
            internal = r.fits.internal;
            rotation = r.fits.rotation;
          };
          counts = λ k m.
              rw (lowered_counts (point_table p) i)
              (elim (ℕ_discrete k i) [
                | yes e ↦ rw (eq-eqb k i e, e, get_or-set_same cs i (get_or cs i 0 - 1) 0 inside, r.counts i listed) (sym (deced_count (s.life i) some))
                | no d ↦ rw (ne_eqb k i d, get_or-set_other cs i k (get_or cs i 0 - 1) 0 d) (r.counts k (rw whole at m))
              ]);
          live_below_lem = λ k e. rw whole (r.live_below_lem k (deced_was_live (eqb k i) (s.life k) e));
          live_counted = λ k e.
              deced_counted (eqb k i) (s.life k) (r.live_counted k (deced_was_live (eqb k i) (s.life k) e)) e;
          sum = simp (whole, lowered_counts (point_table p) i) (omega (arith, others (get_or cs i 0 - 1), r.sum, counted));
          copies = λ k f since.
              rw (place_stays k (more_than_one k since.0 since.1 f since.2))
              (r.copies k f (deced_since (eqb k i) (s.life k) since.0 since.1 f since.2));
          sequence = r.sequence;
          window = r.window;
        })
