-- Compact, and a refusal for float space, keep the invariant; the live indices' number.
use Rattle.std.specs.Prelude.{ℕ, ◌<◌, Bool, true, false, ◌≡◌, refl, get_or, take, ltb}
use Rattle.std.proofs.Common.{arith, sym, ◌∙◌, lt-ltb, le-ltb}
use Rattle.std.proofs.Math.Path.{ap, subst}
use Rattle.terms.specs.Below.{count_below, one, fails, sum_same, sum_beyond}
use Rattle.placement.specs.Places.{Live}
use Rattle.labels.specs.Counted.{live_number}
use Rattle.store_definitions.specs.declared.Shape.{Shape}
use Rattle.store_definitions.specs.Memory.{PointStore}
use Rattle.store_definitions.specs.Parts.{table_length, point_table, Rows, rows_of, with_rows}
use Rattle.store_definitions.specs.Rows.{compacted_rows, room_made, copy_of}
use Rattle.store_laws.specs.Sound.{Sound, counted_live}
use Rattle.guarantee.specs.History.{Given, is_live, History}
use Rattle.guarantee.specs.LifeLaws.{dead_count}
use Rattle.guarantee.specs.Guarantee.{live_indices}
use Rattle.guarantee.specs.Relates.{CopyStands, Relates}
use Rattle.guarantee.specs.RoomLaws.{copy_in, compact_copy, room_copy}

module _ {E : Type 0} (eq : E → E → Bool) (h : Shape) (then : Given E → PointStore E) where
  -- other rows, in which the live indices have their copies
  pub rows_kept : (s : History E) (p : PointStore E) (x : Rows E) → Relates eq h then s p → ((i : ℕ) → is_live (s.life i) ≡ true → copy_in p.header x i ≡ copy_of p i) → Relates eq h then s (with_rows x p)
  unfolding copy_of
  rows_kept s p x r same =
      record {
        fits = record {
          dimensions = r.fits.dimensions;
          shingle = r.fits.shingle;
          capacity = r.fits.capacity;
          internal = r.fits.internal;
          rotation = r.fits.rotation;
        };
        counts = r.counts;
        live_below_lem = r.live_below_lem;
        live_counted = r.live_counted;
        sum = r.sum;
        copies = λ i g since. subst (CopyStands eq h then i g) (sym (same i (ap is_live since.2))) (r.copies i g since);
        sequence = r.sequence;
        window = r.window;
      }

  module _ (s : History E) (p : PointStore E) (w : Sound p) (r : Relates eq h then s p) where
    abbrev n : ℕ
    n = table_length p.header

    -- a live index has a point
    pub live_point : (i : ℕ) → is_live (s.life i) ≡ true → Live (take n p.memory.location) i
    live_point i e =
        counted_live p w i (r.live_below_lem i e) (rw (r.counts i (r.live_below_lem i e)) (r.live_counted i e))

    pub compact_kept : (zero_element : E) → Relates eq h then s (with_rows (compacted_rows zero_element p.header (rows_of p)) p)
    unfolding copy_of compacted_rows
    compact_kept zero_element =
        rows_kept s p (compacted_rows zero_element p.header (rows_of p)) r
        (λ i e. compact_copy zero_element p.header w.table_within (rows_of p) w.rows i (r.live_below_lem i e) (live_point i e))

    pub room_kept : (zero_element : E) → Relates eq h then s (with_rows (room_made zero_element p.header (rows_of p)) p)
    unfolding copy_of
    room_kept zero_element =
        rows_kept s p (room_made zero_element p.header (rows_of p)) r
        (λ i e. room_copy zero_element p.header w.table_within (rows_of p) w.rows i (r.live_below_lem i e) (live_point i e))

    -- the history's live indices are the store's
    live_test : (i : ℕ) → i < n → is_live (s.life i) ≡ ltb 0 (get_or p.memory.reference_count i 0)
    live_test i l = go (is_live (s.life i)) refl
      where
        go : (b : Bool) → is_live (s.life i) ≡ b → b ≡ ltb 0 (get_or p.memory.reference_count i 0)
        go true e = sym (lt-ltb 0 (get_or p.memory.reference_count i 0) (rw (r.counts i l) (r.live_counted i e)))
        go false e = sym (le-ltb 0 (get_or p.memory.reference_count i 0) (omega (arith, r.counts i l, dead_count (s.life i) e)))

    pub live_number_is : live_indices h.capacity s ≡ live_number n (point_table p)
    unfolding live_indices count_below live_number
    live_number_is =
        sum_beyond n h.capacity (λ i. one (is_live (s.life i)))
        (λ i far. ap one (fails (is_live (s.life i)) (λ e. omega (arith, r.live_below_lem i e))))
        (omega (arith, r.fits.capacity, w.table_within))
        ∙ sum_same n (λ i. one (is_live (s.life i))) (λ i. one (ltb 0 (get_or p.memory.reference_count i 0))) (λ i l. ap one (live_test i l))
