-- An add keeps a store well-formed: kept, waiting or refused.
use Prim.Native.Nat.{ℕ, ◌≤◌, ◌<◌}
use Rattle.std.proofs.Math.Decide.{ℕ_discrete}
use Rattle.std.proofs.Common.{arith, sym, ◌∙◌, get_or-set_same, get_or-set_other, eq-eqb, ne_eqb, eqb-true}
use Rattle.std.specs.Prelude.{Bool, true, false, ◌≡◌, length, get_or, set, eqb}
use mathlib.Core.List.{List}
use Rattle.std.proofs.Math.Path.{refl}
use Rattle.std.proofs.lemmas.Bool.{eqb-false}
use Rattle.terms.specs.Below.{positive}
use Rattle.terms.specs.Entries.{stored}
use Rattle.interval_store_manager.specs.Calls.{changed}
use Rattle.placement.specs.Growth.{grown, grown_within_lem}
use Rattle.placement.specs.Laying.{place_of}
use Rattle.labels.specs.Counted.{Counted, counted, next_index, index_taken}
use Rattle.labels.specs.CountedLaws.{next_within, take_keeps}
use Rattle.labels.specs.Labels.{Labels, label_taken}
use Rattle.labels.proofs.TakeLaws.{label_keeps}
use Rattle.store_definitions.specs.declared.Store.{Store}
use Rattle.store_definitions.specs.Memory.{PointStore}
use Rattle.store_definitions.specs.Answers.{kept, refused, outcome}
use Rattle.store_definitions.specs.Parts.{base_of, table_length, point_table, label_half, Rows, rows_of, with_rows, with_points, with_labels}
use Rattle.store_definitions.specs.Rows.{room_made}
use Rattle.store_definitions.specs.Adding.{point_length, table_full, entries_filled, AddDecided, keep, wait, refuse_add, add_decided, sequenced, row_of, label_given, labelled, table_grown, placed, overflows, laid_rows, laid_how, kept_after, index_given, free_left, keeps, add_carried_out, add_spec}
use Rattle.store_definitions.specs.WellFormed.{well_formed}
use Rattle.store_laws.specs.Sound.{RowsSound, Sound, sound, sound_make}
use Rattle.store_laws.specs.RowsLaws.{RowsOf, with_rows_lem, room_sound, room_empty}
use Rattle.store_laws.specs.Cases.{by_cases}
use Rattle.store_laws.specs.Lengths.{index_taken_lengths}
use Rattle.store_laws.specs.PointsLaws.{with_places, rows_fewer, with_points_lem, with_labels_lem}
use Rattle.store_laws.specs.TableLaws.{Ready, as_it_is, grown_ready}
use Rattle.store_laws.specs.LaidLaws.{laid_sound, laid_place, laid_placed}
use Rattle.store_laws.specs.AddDecisionLaws.{Kept, waits_on, keeps_on}
use Rattle.store_laws.specs.WindowLaws.{row_length, sequenced_sound}

-- the next index of a table, with a row's place
module _ {E : Type 0} (p : PointStore E) (w : Sound p) (n : ℕ) (t : Counted) (location : List ℕ) (ready : Ready p n t location) (place : ℕ) (some : place ≡ 65535 → ⊥) where
  abbrev i : ℕ
  i = next_index t

  below : i < n
  below = next_within n t ready.well ready.some

  empty_after : (k : ℕ) → k < n → eqb (get_or (set t.counts i 1) k 0) 0 ≡ eqb (get_or (set location i place) k 65535) 65535
  empty_after k h =
      elim (ℕ_discrete k i) [
        | yes e ↦
            rw (e, get_or-set_same t.counts i 1 0 (omega (arith, below, ready.well.lent)), get_or-set_same location i place 65535 (omega (arith, below, ready.within, ready.places_length, w.rows.places_lent)))
            (sym (ne_eqb place 65535 some))
        | no d ↦ rw (get_or-set_other t.counts i k 1 0 d, get_or-set_other location i k place 65535 d) (ready.empty_is k h)
      ]

  pub index_placed_lem : RowsSound p.header.dimensions (base_of p.header) p.header.capacity n (with_places (set location i place) (rows_of p)) → Sound (placed (with_points t location p) place)
  unfolding placed index_taken
  index_placed_lem r =
      let l = index_taken_lengths t in
      with_points_lem p w n (index_taken t) (set location i place) ready.within (take_keeps n t ready.well ready.some)
      (record {
        counts_same = l.counts_same ∙ ready.lengths.counts_same;
        starts_same = l.starts_same ∙ ready.lengths.starts_same;
        ends_same = l.ends_same ∙ ready.lengths.ends_same;
      })
      r empty_after
      (λ k h.
      stored (λ x. x ≤ 65535) t.counts i 1 k (omega (arith, below, ready.well.lent)) (λ e. omega arith) (λ d. ready.counts_most k h))

-- a table that is empty and not full can grow
pub can_grow : (s : Store) → table_length s ≤ s.capacity → table_full s ≡ false → s.index_manager.last_in_use ≡ 0 → table_length s < grown (table_length s) 1 s.capacity
unfolding table_full
can_grow s h f e =
    let n : ℕ = table_length s in
    let g = grown_within_lem n 1 s.capacity h in
    let d : grown n 1 s.capacity ≡ n → ⊥ = eqb-false (grown n 1 s.capacity) n (rw (eq-eqb s.index_manager.last_in_use 0 e) at f) in
    elim (ℕ_discrete (grown n 1 s.capacity) n) [ yes q ↦ absurd (d q) | no q ↦ omega arith ]

module _ {E : Type 0} (eq : E → E → Bool) (zero_element : E) (p : PointStore E) (w : Sound p) (point : List E) (code : ℕ) (k : Kept p point code) where
  abbrev h : Store
  h = p.header

  abbrev r : Rows E
  r = room_made zero_element h (rows_of p)

  abbrev row : List E
  row = row_of p point

  rows_made : RowsOf h r
  rows_made = room_sound zero_element h w.table_within (rows_of p) w.rows

  -- refused with 10
  pub room_kept : Sound (with_rows r p)
  room_kept = with_rows_lem p r w rows_made (room_empty zero_element h w.table_within (rows_of p) w.rows)

  module _ (fits : overflows eq h r row ≡ false) where
    sized : length row ≡ h.dimensions
    sized = row_length p point w k.accepted.sized

    abbrev place : ℕ
    place = place_of (laid_how eq h r row)

    -- the label half after the add
    module _ (l : Labels) (v : Sound (with_labels l p)) where
      abbrev laid : PointStore E
      laid = with_rows (laid_rows eq h r row) (sequenced (with_labels l p) point)

      laid_well : Sound laid
      unfolding sequenced point_length laid_rows
      laid_well =
          with_rows_lem (sequenced (with_labels l p) point) (laid_rows eq h r row) (sequenced_sound (with_labels l p) point v k.accepted.sized k.accepted.unfinished)
          (laid_sound eq h r row w.bounds rows_made sized fits)
          (room_empty zero_element h w.table_within (rows_of p) w.rows)

      -- of a table that is ready, whatever it is
      placed_well : (n : ℕ) (t : Counted) (location : List ℕ) → Ready laid n t location → Sound (placed (with_points t location laid) place)
      unfolding sequenced laid_rows
      placed_well n t location ready =
          index_placed_lem laid laid_well n t location ready place (laid_place eq h r row w.bounds rows_made sized fits)
          (laid_placed eq h r row w.bounds rows_made sized fits n location (next_index t)
          (rows_fewer h.dimensions (base_of h) h.capacity (table_length h) r rows_made w.table_within n location ready.within ready.places_length ready.none_new)
          (next_within n t ready.well ready.some))

      table_well : Sound (placed (table_grown laid) place)
      unfolding table_grown sequenced
      table_well =
          let n : ℕ = table_length h in
          let longer : ℕ = grown n 1 h.capacity in
          let o = changed h.index_manager p.memory.index_starts p.memory.index_ends longer in
          let t : Counted = counted o.manager (entries_filled n longer 0 p.memory.reference_count) o.starts o.ends in
          let location : List ℕ = entries_filled n longer 65535 laid.memory.location in
          by_cases (λ q. Sound (placed q place)) (eqb h.index_manager.last_in_use 0) (with_points t location laid) laid
          (λ e.
          placed_well longer t location
          (grown_ready laid laid_well longer (can_grow h w.table_within k.not_full (eqb-true h.index_manager.last_in_use 0 e)) (grown_within_lem n 1 h.capacity w.table_within).1))
          (λ e.
          placed_well n (point_table laid) laid.memory.location
          (as_it_is laid laid_well (positive h.index_manager.last_in_use (eqb-false h.index_manager.last_in_use 0 e))))

    pub kept_sound : Sound (kept_after eq (room_made zero_element p.header (rows_of p)) (row_of p point) p point code)
    unfolding kept_after labelled
    kept_sound =
        let l : Labels = (label_taken h.classes h.capacity (label_half p) code).after in
        by_cases (λ q. Sound (placed (table_grown (with_rows (laid_rows eq h r row) (sequenced q point))) place)) h.store_labels (with_labels l p) p
        (λ on.
        table_well l
        (with_labels_lem p w l (label_keeps h.classes h.capacity (label_half p) (w.labels on) code (k.accepted.coded on) (k.label_free on))))
        (λ off. table_well (label_half p) w)

module _ {E : Type 0} (eq : E → E → Bool) (zero_element : E) (p : PointStore E) (point : List E) (code : ℕ) where
  pub add_sound : Sound p → Sound (add_spec eq zero_element p point code).after
  unfolding add_spec keeps
  add_sound w = split (add_decided p point code) refl
    where
      split : (d : AddDecided) → add_decided p point code ≡ d → Sound (add_carried_out eq zero_element d p point code).after
      split keep e =
          let k = keeps_on p point code e in
          let r : Rows E = room_made zero_element p.header (rows_of p) in
          let row : List E = row_of p point in
          by_cases (λ o. Sound o.after) (overflows eq p.header r row) (outcome (refused 10) (with_rows r p))
          (outcome (kept (index_given p) (label_given p) (laid_how eq p.header r row) (free_left p)) (kept_after eq (room_made zero_element p.header (rows_of p)) (row_of p point) p point code))
          (λ full. room_kept eq zero_element p w point code k)
          (λ fits. kept_sound eq zero_element p w point code k fits)
      split wait e = let a = waits_on p point code e in sequenced_sound p point w a.sized a.unfinished
      split (refuse_add n) e = w

  pub add_keeps : well_formed p ≡ true → well_formed (add_spec eq zero_element p point code).after ≡ true
  add_keeps e = sound_make (add_spec eq zero_element p point code).after (add_sound (sound p e))
