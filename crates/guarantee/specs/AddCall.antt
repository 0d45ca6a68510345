-- Add keeps the invariant: waiting, refused for float space, or kept.
use Rattle.std.specs.Prelude.{ℕ, ◌+◌, ◌*◌, ◌-◌, ◌/◌, ◌≤◌, ◌<◌, Bool, not, ◌&&◌, List, ◌∷◌, ◌≡◌, get_or, take, eqb}
use Rattle.std.proofs.Math.Nat.{mul_comm}
use Rattle.std.proofs.Common.{arith, sym, subst, ◌∙◌, get_or-take}
use Rattle.std.proofs.Math.Bool.{true, false, cond}
use Rattle.std.proofs.Math.Path.{refl, ap}
use Rattle.std.proofs.Math.ListN.{length}
use Rattle.std.proofs.Math.Dec.{ltb}
use borrow.Author.Tests.{ne_eqb, eqb-true, eqb-false, ltb-false}
use Rattle.terms.specs.Below.{positive}
use Rattle.terms.specs.Rows.{Exact}
use Rattle.interval_store_manager.specs.Calls.{Decided, go, refuse, changed}
use Rattle.placement.specs.Copying.{turn, turned, copied}
use Rattle.placement.specs.Growth.{grown, grown_within_lem}
use Rattle.placement.specs.Laying.{place_of}
use Rattle.placement.proofs.LayingLaws.{copy_laid, copy_before}
use Rattle.placement.specs.Row.{row_to_lay}
use Rattle.labels.specs.Counted.{Counted, counted, next_index}
use Rattle.labels.specs.Decisions.{code_decided, room_decided}
use Rattle.labels.specs.Labels.{Labels, label_taken}
use Rattle.labels.proofs.TakeLaws.{label_keeps}
use Rattle.store_definitions.specs.declared.Shape.{Shape}
use Rattle.store_definitions.specs.declared.Store.{Store}
use Rattle.store_definitions.specs.Memory.{PointStore}
use Rattle.store_definitions.specs.Parts.{base_of, table_length, point_table, label_half, Rows, rows_of, with_rows, with_points, with_labels}
use Rattle.store_definitions.specs.Decisions.{and_then, refuse_if, form_decided}
use Rattle.store_definitions.specs.Rows.{room_made, copy_of}
use Rattle.store_definitions.specs.Adding.{point_length, waits, table_full, entries_filled, AddDecided, keep, wait, then_add, add_decided, window_after, sequenced, row_of, labelled, table_grown, placed, joins, overflows, laid_rows, laid_how, kept_after, index_given}
use Rattle.store_laws.specs.BoundsLaws.{dims_product}
use Rattle.store_laws.specs.Sound.{Sound}
use Rattle.store_laws.specs.PlacesLaws.{live_make, live_placed}
use Rattle.store_laws.specs.RowsLaws.{RowsOf, room_sound, room_empty}
use Rattle.store_laws.specs.PointsLaws.{with_labels_lem}
use Rattle.store_laws.specs.Cases.{by_cases}
use Rattle.store_laws.specs.TableLaws.{filled_length, filled_before, filled_new, grown_ready}
use Rattle.store_laws.specs.LaidLaws.{laying}
use Rattle.store_laws.specs.AddDecisionLaws.{Kept}
use Rattle.store_laws.specs.WindowLaws.{row_length}
use Rattle.store_laws.specs.AddingLaws.{can_grow, kept_sound}
use Rattle.guarantee.specs.History.{Given, History, is_live, gave, changed as changed_history, joined_points, row_of_add, with_points as with_accepted}
use Rattle.guarantee.specs.Relates.{Relates}
use Rattle.guarantee.specs.RoomLaws.{copy_in, room_copy}
use Rattle.guarantee.specs.CountCalls.{labels_aside}
use Rattle.guarantee.specs.RowCalls.{rows_kept, live_point}
use Rattle.guarantee.specs.WindowLaws.{window_ends, sequenced_kept}
use Rattle.guarantee.specs.TableCalls.{Grown, index_kept}

keep_not_wait : (d : Decided) (b : Bool) (a : AddDecided) → then_add d (cond b wait a) ≡ keep → b ≡ false
keep_not_wait go true a e = absurd (let z : ◌≡◌ {A = ℕ} 0 1 = cc in omega arith)
keep_not_wait go false a e = refl
keep_not_wait (refuse n) b a e = absurd (let z : ◌≡◌ {A = ℕ} 0 1 = cc in omega arith)

-- an add that is kept does not wait
pub kept_full : {E : Type 0} (p : PointStore E) (point : List E) (code : ℕ) → add_decided p point code ≡ keep → waits p.header ≡ false
unfolding add_decided
kept_full p point code e =
    keep_not_wait
    (and_then (form_decided p)
    (and_then (refuse_if (not (eqb (length point) (point_length p.header))) 3)
    (and_then (refuse_if (eqb p.header.next_sequence_index 4294967295) 12) (code_decided p.header.store_labels code))))
    (waits p.header)
    (then_add (and_then (room_decided p.header.store_labels p.header.label_manager) (refuse_if (table_full p.header) 9)) keep)
    e

pub sized_base : (s : Store) → s.internal_shingling ≡ true → point_length s ≡ base_of s
unfolding point_length
sized_base s e = ap (λ (b : Bool). cond b (base_of s) s.dimensions) e

-- a turn by another name of the same shape
turned_as : {E : Type 0} (d e s t : ℕ) (a b : Bool) → d ≡ e → s ≡ t → a ≡ b → (place : ℕ) (row : List E) → turned d (turn a d (d / s) place) row ≡ turned e (turn b e (e / t) place) row
turned_as d e s t a b p q r place row = rw (p, q, r)

module _ {E : Type 0} (eq : E → E → Bool) (zero_element : E) (h : Shape) (then : Given E → PointStore E) (s : History E) (p : PointStore E) (w : Sound p) (r : Relates eq h then s p) (point : List E) (code : ℕ) where
  abbrev u : Store
  u = p.header

  sized_point : length point ≡ point_length u → u.internal_shingling ≡ true → length point ≡ base_of u
  sized_point sized on = sized ∙ sized_base u on

  -- the row is that of the history
  row_is : length point ≡ point_length u → waits u ≡ false → row_of p point ≡ row_of_add h (point ∷ s.points)
  unfolding row_of row_to_lay row_of_add waits joined_points
  row_is sized e = go u.internal_shingling refl (sym r.fits.internal) e
    where
      go : (b : Bool) → u.internal_shingling ≡ b → h.internal_shingling ≡ b → (b && ltb (u.next_sequence_index + 1) u.shingle_size) ≡ false → cond b (take u.dimensions (window_after p point)) point ≡ cond h.internal_shingling (joined_points h.shingle_size (point ∷ s.points)) (joined_points 1 (point ∷ s.points))
      go true on same e =
          let many : u.shingle_size ≤ length (point ∷ s.points) = omega (arith, ltb-false (u.next_sequence_index + 1) u.shingle_size e, r.sequence) in
          let none : u.dimensions - u.shingle_size * base_of u ≡ 0 = omega (arith, mul_comm u.shingle_size (base_of u), dims_product u.dimensions u.shingle_size u.capacity w.bounds) in
          let all = window_ends eq h then s p w r point (sized_point sized) on u.shingle_size (omega arith) many in
          rw (same, ← r.fits.shingle) (rw none at all)
      go false off same e = rw same

  abbrev accepted : History E
  accepted = with_accepted (point ∷ s.points) s

  -- 'while the sequence .. is below shingle size the result is Waiting'
  pub wait_kept : length point ≡ point_length u → Relates eq h then accepted (sequenced p point)
  wait_kept sized = sequenced_kept eq h then s p w r point (sized_point sized)

  abbrev room : Rows E
  room = room_made zero_element u (rows_of p)

  abbrev row : List E
  row = row_of p point

  abbrev place : ℕ
  place = place_of (laid_how eq u room row)

  module _ (k : Kept p point code) (full : waits u ≡ false) (fits : overflows eq u room row ≡ false) where
    room_rows : RowsOf u room
    room_rows = room_sound zero_element u w.table_within (rows_of p) w.rows

    sized : length row ≡ u.dimensions
    sized = row_length p point w k.accepted.sized

    -- a live index ends before the row that is laid
    room_ends : (i : ℕ) → is_live (s.life i) ≡ true → get_or room.location i 65535 * base_of u + u.dimensions ≤ room.free
    room_ends i e =
        let below = r.live_below_lem i e in
        let point = live_point eq h then s p w r i e in
        let lent : table_length u ≤ length p.memory.location = omega (arith, w.rows.places_lent, w.table_within) in
        let long : table_length u ≤ length room.location = omega (arith, room_rows.places_lent, w.table_within) in
        rw (get_or-take (table_length u) room.location i 65535 below) at
        (room_rows.well_placed.ends i
        (live_make (table_length u) room.location long i below
        (eqb-false (get_or room.location i 65535) 65535
        (sym (room_empty zero_element u w.table_within (rows_of p) w.rows i below)
        ∙ ne_eqb (get_or p.memory.location i 65535) 65535 (live_placed (table_length u) p.memory.location lent i point)))))

    laid_copy : (i : ℕ) → is_live (s.life i) ≡ true → copy_in u (laid_rows eq u room row) i ≡ copy_of p i
    unfolding laid_rows copy_of
    laid_copy i e =
        copy_before eq u.dimensions (base_of u) (joins eq u room row) room.free room.elements row _ (laying eq u room row w.bounds room_rows sized fits) u.internal_rotation (get_or room.location i 65535) (room_ends i e)
        ∙ room_copy zero_element u w.table_within (rows_of p) w.rows i (r.live_below_lem i e) (live_point eq h then s p w r i e)

    -- the new row's copy
    new_copy : Exact eq → copied u.internal_rotation u.dimensions (base_of u) place (laid_rows eq u room row).elements ≡ turned h.dimensions (turn h.internal_rotation h.dimensions (h.dimensions / h.shingle_size) place) (row_of_add h (point ∷ s.points))
    unfolding laid_rows laid_how
    new_copy exact =
        copy_laid eq u.dimensions (base_of u) (joins eq u room row) room.free room.elements row _ (laying eq u room row w.bounds room_rows sized fits) u.internal_rotation exact
        ∙ turned_as u.dimensions h.dimensions u.shingle_size h.shingle_size u.internal_rotation h.internal_rotation r.fits.dimensions r.fits.shingle r.fits.rotation place row
        ∙ ap (turned h.dimensions (turn h.internal_rotation h.dimensions (h.dimensions / h.shingle_size) place)) (row_is k.accepted.sized full)

    module _ (l : Labels) (v : Sound (with_labels l p)) where
      abbrev laid : PointStore E
      laid = with_rows (laid_rows eq u room row) (sequenced (with_labels l p) point)

      laid_kept : Relates eq h then accepted laid
      unfolding sequenced laid_rows copy_of
      laid_kept =
          rows_kept eq h then accepted (sequenced (with_labels l p) point) (laid_rows eq u room row)
          (sequenced_kept eq h then s (with_labels l p) v (labels_aside eq h then true s l p r) point (sized_point k.accepted.sized))
          laid_copy

      same_table : 0 < u.index_manager.last_in_use → Grown laid (table_length u) (point_table laid) laid.memory.location
      unfolding sequenced laid_rows
      same_table some =
          record {
            well = w.points;
            some = some;
            more = omega arith;
            old_counts = λ i l. refl;
            new_counts = λ i l m. absurd (omega arith);
            old_places = λ i l. refl;
            places_lent = omega (arith, room_rows.places_lent, w.table_within);
          }

      abbrev longer : ℕ
      longer = grown (table_length u) 1 u.capacity

      abbrev grown_table : Counted
      grown_table =
          let o = changed u.index_manager p.memory.index_starts p.memory.index_ends longer in
          counted o.manager (entries_filled (table_length u) longer 0 p.memory.reference_count) o.starts o.ends

      grown_table_lem : u.index_manager.last_in_use ≡ 0 → Grown laid longer grown_table (entries_filled (table_length u) longer 65535 laid.memory.location)
      unfolding sequenced laid_rows
      grown_table_lem none =
          let n = table_length u in
          let up : n < longer = can_grow u w.table_within k.not_full none in
          let most : longer ≤ u.capacity = (grown_within_lem n 1 u.capacity w.table_within).1 in
          let ready = grown_ready p w longer up most in
          let counts : longer ≤ length p.memory.reference_count = omega (arith, w.lent.counts_lent) in
          let places : longer ≤ length room.location = omega (arith, room_rows.places_lent) in
          record {
            well = ready.well;
            some = ready.some;
            more = omega arith;
            old_counts = λ i l. filled_before n longer 0 p.memory.reference_count (omega arith) counts i 0 l;
            new_counts = λ i l m. filled_new n longer 0 p.memory.reference_count (omega arith) counts i 0 l m;
            old_places = λ i l. filled_before n longer 65535 room.location (omega arith) places i 65535 l;
            places_lent = rw (filled_length n longer 65535 room.location (omega arith) places) places;
          }

      module _ (g : Given E) (of_row : g.row ≡ row_of_add h (point ∷ s.points)) (of_place : g.place ≡ place) where
        -- with any table that is ready for it
        table_kept : (n : ℕ) (t : Counted) (location : List ℕ) → Grown laid n t location → then g ≡ placed (with_points t location laid) place → Sound (placed (with_points t location laid) place) → Relates eq h then (changed_history g (gave (next_index t)) accepted) (placed (with_points t location laid) place)
        unfolding laid_rows sequenced
        table_kept n t location ready now sound =
            index_kept eq h then accepted laid laid_kept n t location ready g place now sound (rw (of_row, of_place) new_copy)

        -- with the table as it was, or grown
        grown_kept : then g ≡ placed (table_grown laid) place → Sound (placed (table_grown laid) place) → Relates eq h then (changed_history g (gave (next_index (point_table (table_grown laid)))) accepted) (placed (table_grown laid) place)
        unfolding table_grown sequenced
        grown_kept =
            by_cases (λ q. then g ≡ placed q place → Sound (placed q place) → Relates eq h then (changed_history g (gave (next_index (point_table q))) accepted) (placed q place))
            (eqb u.index_manager.last_in_use 0)
            (with_points grown_table (entries_filled (table_length u) longer 65535 laid.memory.location) laid)
            laid
            (λ e. table_kept longer grown_table (entries_filled (table_length u) longer 65535 laid.memory.location) (grown_table_lem (eqb-true u.index_manager.last_in_use 0 e)))
            (λ e. table_kept (table_length u) (point_table laid) laid.memory.location (same_table (positive u.index_manager.last_in_use (eqb-false u.index_manager.last_in_use 0 e))))

        -- the index is the one in the answer
        given : next_index (point_table (table_grown laid)) ≡ index_given p
        unfolding table_grown sequenced index_given
        given = go (eqb u.index_manager.last_in_use 0)
          where
            go : (b : Bool) → next_index (point_table (cond b (with_points grown_table (entries_filled (table_length u) longer 65535 laid.memory.location) laid) laid)) ≡ next_index (point_table (cond b (with_points grown_table (entries_filled (table_length u) longer 65535 p.memory.location) p) p))
            go true = refl
            go false = refl

        laid_given : then g ≡ placed (table_grown laid) place → Sound (placed (table_grown laid) place) → Relates eq h then (changed_history g (gave (index_given p)) accepted) (placed (table_grown laid) place)
        laid_given now sound =
            subst (λ (i : ℕ). Relates eq h then (changed_history g (gave i) accepted) (placed (table_grown laid) place)) given (grown_kept now sound)

    -- a kept add, with its label or without one
    pub add_kept : (g : Given E) → g.row ≡ row_of_add h (point ∷ s.points) → g.place ≡ place → then g ≡ kept_after eq (room_made zero_element p.header (rows_of p)) (row_of p point) p point code
        → Relates eq h then (changed_history g (gave (index_given p)) accepted) (kept_after eq (room_made zero_element p.header (rows_of p)) (row_of p point) p point code)
    unfolding kept_after labelled
    add_kept g of_row of_place now =
        by_cases (λ q. then g ≡ placed (table_grown (with_rows (laid_rows eq u room row) (sequenced q point))) place → Sound (placed (table_grown (with_rows (laid_rows eq u room row) (sequenced q point))) place) → Relates eq h then (changed_history g (gave (index_given p)) accepted) (placed (table_grown (with_rows (laid_rows eq u room row) (sequenced q point))) place))
        u.store_labels (with_labels (label_taken u.classes u.capacity (label_half p) code).after p) p
        (λ on.
        laid_given (label_taken u.classes u.capacity (label_half p) code).after
        (with_labels_lem p w (label_taken u.classes u.capacity (label_half p) code).after (label_keeps u.classes u.capacity (label_half p) (w.labels on) code (k.accepted.coded on) (k.label_free on)))
        g of_row of_place)
        (λ off. laid_given (label_half p) w g of_row of_place)
        now
        (kept_sound eq zero_element p w point code k fits)
