-- The table of points before an add takes an index of it: as it is, or grown. In both an index is free, and no point is new.
use Rattle.std.specs.Prelude.{ℕ, ◌+◌, ◌-◌, ◌≤◌, ◌<◌, List, ◌++◌, ◌≡◌, refl, take, drop, replicate, eqb}
use Rattle.std.proofs.Math.Decide.{dec_lt}
use Rattle.std.proofs.Common.{arith, ◌∙◌, length-append, length-take-le}
use Rattle.std.proofs.Math.Bool.{or-true, or-false}
use Rattle.std.proofs.Math.Path.{ap}
use Rattle.std.proofs.Math.ListN.{length, get_or, length-drop, get_or-append, get_or-replicate}
use Rattle.std.proofs.lemmas.List.{length-replicate}
use Rattle.std.proofs.Math.Seq.{get_or-take, get_or-append-add}
use Rattle.interval_store_manager.specs.Answers.{Outcome}
use Rattle.interval_store_manager.specs.Calls.{pushed, changed}
use Rattle.interval_store_manager.specs.IntervalLaws.{inside_left, inside_yes}
use Rattle.interval_store_manager.specs.ChangeLaws.{changed_up, change_keeps, change_free}
use Rattle.labels.specs.Counted.{Counted, counted, count_at, free}
use Rattle.labels.specs.CountedLaws.{WellCounted}
use Rattle.store_definitions.specs.Memory.{PointStore}
use Rattle.store_definitions.specs.Parts.{table_length, point_table}
use Rattle.store_definitions.specs.Adding.{entries_filled}
use Rattle.store_laws.specs.Sound.{Sound}
use Rattle.store_laws.specs.Lengths.{SameLengths, changed_lengths}
use Rattle.store_laws.specs.PointsLaws.{NoneNew}

-- entries filled up to a length
module _ (from to x : ℕ) (xs : List ℕ) (h : from ≤ to) (g : to ≤ length xs) where
  abbrev old : List ℕ
  old = take from xs

  abbrev new : List ℕ
  new = replicate (to - from) x

  old_length : length old ≡ from
  old_length = length-take-le from xs (omega arith)

  filled_front : length (old ++ new) ≡ to
  filled_front = rw (length-append old new, old_length, length-replicate {A = ℕ} (to - from) x) (omega arith)

  pub filled_length : length (entries_filled from to x xs) ≡ length xs
  unfolding entries_filled
  filled_length = rw (length-append (old ++ new) (drop to xs), filled_front, length-drop to xs) (omega arith)

  pub filled_before : (i d : ℕ) → i < from → get_or (entries_filled from to x xs) i d ≡ get_or xs i d
  unfolding entries_filled
  filled_before i d l =
      get_or-append (old ++ new) (drop to xs) d i (omega (arith, filled_front))
      ∙ get_or-append old new d i (omega (arith, old_length))
      ∙ get_or-take from xs i d l

  pub filled_new : (i d : ℕ) → from ≤ i → i < to → get_or (entries_filled from to x xs) i d ≡ x
  unfolding entries_filled
  filled_new i d l m =
      let at : i ≡ length old + (i - from) = omega (arith, old_length) in
      get_or-append (old ++ new) (drop to xs) d i (omega (arith, filled_front))
      ∙ ap (λ (k : ℕ). get_or (old ++ new) k d) at
      ∙ get_or-append-add old new (i - from) d
      ∙ get_or-replicate (to - from) (i - from) x d (omega arith)

-- a table of n indices with its places, of which an index can be taken
pub record Ready {E : Type 0} (p : PointStore E) (n : ℕ) (t : Counted) (location : List ℕ) : Type 0 where
  pub within : n ≤ p.header.capacity
  pub well : WellCounted n t
  pub lengths : SameLengths (point_table p) t
  pub some : 0 < t.manager.last_in_use
  pub places_length : length location ≡ length p.memory.location
  pub none_new : NoneNew (table_length p.header) p.memory.location n location
  pub empty_is : (i : ℕ) → i < n → eqb (count_at t i) 0 ≡ eqb (get_or location i 65535) 65535
  pub counts_most : (i : ℕ) → i < n → count_at t i ≤ 65535

module _ {E : Type 0} (p : PointStore E) (w : Sound p) where
  abbrev n : ℕ
  n = table_length p.header

  abbrev t : Counted
  t = point_table p

  pub as_it_is : 0 < t.manager.last_in_use → Ready p n t p.memory.location
  as_it_is h =
      record {
        within = w.table_within;
        well = w.points;
        lengths = record { counts_same = refl; starts_same = refl; ends_same = refl };
        some = h;
        places_length = refl;
        none_new = λ i l d. (l, refl);
        empty_is = w.empty_is;
        counts_most = w.counts_most;
      }

  module _ (longer : ℕ) (l : n < longer) (m : longer ≤ p.header.capacity) where
    abbrev o : Outcome
    o = changed t.manager t.starts t.ends longer

    abbrev grown_table : Counted
    grown_table = counted o.manager (entries_filled n longer 0 t.counts) o.starts o.ends

    counts_lent : longer ≤ length t.counts
    counts_lent = omega (arith, w.lent.counts_lent)

    places_lent : longer ≤ length p.memory.location
    places_lent = omega (arith, w.rows.places_lent)

    -- exactly the old free indices and the new indices are free
    free_after : (i : ℕ) → i < longer → free grown_table i ≡ eqb (count_at grown_table i) 0
    free_after i h =
        change_free t.manager t.starts t.ends longer w.points.managed l (omega (arith, w.bounds.capacity_most)) (omega (arith, w.lent.starts_lent)) (omega (arith, w.lent.ends_lent)) i
        ∙ elim (dec_lt i n) [
          | yes b ↦
              rw (inside_left n (longer - 1) i b, filled_before n longer 0 t.counts (omega arith) counts_lent i 0 b)
              (or-false (free t i) ∙ w.points.free_is i b)
          | no b ↦
              rw (inside_yes n (longer - 1) i (omega arith) (omega arith), filled_new n longer 0 t.counts (omega arith) counts_lent i 0 (omega arith) h)
              (or-true (free t i))
        ]

    grown_well : WellCounted longer grown_table
    unfolding pushed
    grown_well =
        record {
          managed = change_keeps t.manager t.starts t.ends longer w.points.managed l (omega (arith, w.bounds.capacity_most)) (omega (arith, w.lent.starts_lent)) (omega (arith, w.lent.ends_lent));
          whole = rw (changed_up n t.manager.last_in_use t.starts t.ends longer l);
          lent = rw (filled_length n longer 0 t.counts (omega arith) counts_lent) counts_lent;
          free_is = free_after;
        }

    pub grown_ready : Ready p longer grown_table (entries_filled n longer 65535 p.memory.location)
    unfolding pushed
    grown_ready =
        let s = changed_lengths t.manager t.starts t.ends longer in
        let before = filled_before n longer 65535 p.memory.location (omega arith) places_lent in
        let new = filled_new n longer 65535 p.memory.location (omega arith) places_lent in
        record {
          within = m;
          well = grown_well;
          lengths = record { counts_same = filled_length n longer 0 t.counts (omega arith) counts_lent; starts_same = s.starts_same; ends_same = s.ends_same };
          some = rw (changed_up n t.manager.last_in_use t.starts t.ends longer l) (omega arith);
          places_length = filled_length n longer 65535 p.memory.location (omega arith) places_lent;
          none_new = λ i h d.
              elim (dec_lt i n) [
                | yes b ↦ (b, before i 65535 b)
                | no b ↦ absurd (d (new i 65535 (omega arith) h))
              ];
          empty_is = λ i h.
              elim (dec_lt i n) [
                | yes b ↦ rw (before i 65535 b, filled_before n longer 0 t.counts (omega arith) counts_lent i 0 b) (w.empty_is i b)
                | no b ↦ rw (new i 65535 (omega arith) h, filled_new n longer 0 t.counts (omega arith) counts_lent i 0 (omega arith) h)
              ];
          counts_most = λ i h.
              elim (dec_lt i n) [
                | yes b ↦ rw (filled_before n longer 0 t.counts (omega arith) counts_lent i 0 b) (w.counts_most i b)
                | no b ↦ rw (filled_new n longer 0 t.counts (omega arith) counts_lent i 0 (omega arith) h) (omega arith)
              ];
        }
