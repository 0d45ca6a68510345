-- How many indices remain free. Document 02: 'For points the figure is the table's length less the live points', of every table and of
-- every kept add.
use Rattle.std.specs.Prelude.{ℕ, zero, suc, ◌+◌, ◌-◌, ◌≤◌, ◌<◌, Bool, true, false, cond, List, refl, length, get_or, eqb}
use Rattle.std.proofs.Math.Decide.{dec_lt}
use native.Mathlib.Omega.{arith}
use Rattle.std.proofs.Math.Bool.{not}
use Rattle.std.proofs.Math.Path.{◌≡◌, sym, ap}
use Rattle.std.proofs.Common.{◌∙◌, ne_eqb, lt-ltb, le-ltb}
use Rattle.std.proofs.Math.Dec.{ltb}
use Rattle.terms.specs.Below.{one, sum_below, count_below, sum_same}
use Rattle.interval_store_manager.specs.Intervals.{free_number}
use Rattle.interval_store_manager.specs.Calls.{pushed, changed}
use Rattle.placement.specs.declared.Laid.{Laid}
use Rattle.placement.specs.Growth.{grown, grown_within_lem}
use Rattle.labels.specs.Counted.{Counted, counted, count_at, free, free_indices, index_taken, live_number}
use Rattle.labels.specs.CountedLaws.{WellCounted}
use Rattle.labels.specs.Labels.{label_taken}
use Rattle.store_definitions.specs.Memory.{PointStore}
use Rattle.store_definitions.specs.Answers.{kept, refused, Outcome, outcome}
use Rattle.store_definitions.specs.Parts.{table_length, point_table, label_half, Rows, rows_of, with_rows, with_points, with_labels}
use Rattle.store_definitions.specs.Rows.{room_made}
use Rattle.store_definitions.specs.Adding.{entries_filled, AddDecided, keep, wait, refuse_add, add_decided, sequenced, row_of, label_given, labelled, table_grown, placed, overflows, laid_rows, laid_how, kept_after, index_given, free_left, keeps, add_carried_out, add_spec}
use Rattle.store_definitions.specs.WellFormed.{well_formed}
use Rattle.store_laws.specs.Sound.{sound}
use Rattle.store_laws.specs.Cases.{by_cases}
use Rattle.store_laws.specs.TableLaws.{filled_before, filled_new}
use Rattle.store_laws.specs.AddingLaws.{add_sound}

-- ---- a table

-- each number passes one of two tests
pub one_of_two : (n : ℕ) (p q : ℕ → Bool) → ((i : ℕ) → i < n → p i ≡ not (q i)) → count_below n p + count_below n q ≡ n
unfolding count_below sum_below
one_of_two zero p q h = refl
one_of_two (suc n) p q h =
    omega (arith, one_of_two n p q (λ i l. h i (omega arith)), ap one (h n (omega arith)), not_one (q n))
  where
    not_one : (b : Bool) → one (not b) + one b ≡ 1
    not_one true = refl
    not_one false = refl

pub above_zero : (n : ℕ) → ltb 0 n ≡ not (eqb n 0)
above_zero zero = refl
above_zero (suc n) = rw (ne_eqb (suc n) 0 (λ e. omega arith), lt-ltb 0 (suc n) (omega arith))

module _ (c : ℕ) (t : Counted) (w : WellCounted c t) where
  pub free_and_live : free_indices t + live_number c t ≡ c
  unfolding free_number live_number
  free_and_live =
      let both : live_number c t + free_indices t ≡ c = rw w.whole (one_of_two c (λ i. ltb 0 (count_at t i)) (free t) (λ i l. above_zero (count_at t i) ∙ ap not (sym (w.free_is i l)))) in
      omega arith

  pub free_is_rest : free_indices t ≡ c - live_number c t
  free_is_rest = omega (arith, free_and_live)

-- ---- a table before an index of it is taken: as it is, or grown where no index is free

-- what is 0 from n up to d adds nothing there
pub sum_grown : (n d : ℕ) (f : ℕ → ℕ) → ((i : ℕ) → n ≤ i → i < d → f i ≡ 0) → n ≤ d → sum_below d f ≡ sum_below n f
unfolding sum_below
sum_grown n zero f z h = let e : n ≡ 0 = omega arith in rw e
sum_grown n (suc d) f z h =
    elim (dec_lt d n) [
      | yes l ↦ let e : n ≡ suc d = omega arith in rw e
      | no g ↦ omega (arith, sum_grown n d f (λ i a b. z i a (omega arith)) (omega arith), z d (omega arith) (omega arith))
    ]

-- growth makes no index live
pub grown_live : (n longer : ℕ) (t u : Counted) → n ≤ longer → longer ≤ length t.counts → u.counts ≡ entries_filled n longer 0 t.counts → live_number longer u ≡ live_number n t
unfolding live_number count_below
grown_live n longer t u h g e =
    rw e
    (sum_grown n longer (λ i. one (ltb 0 (get_or (entries_filled n longer 0 t.counts) i 0)))
    (λ i a b. rw (filled_new n longer 0 t.counts h g i 0 a b)) h
    ∙ sum_same n (λ i. one (ltb 0 (get_or (entries_filled n longer 0 t.counts) i 0))) (λ i. one (ltb 0 (count_at t i)))
    (λ i l. rw (filled_before n longer 0 t.counts h g i 0 l)))

abbrev pub grown_to : ℕ → Counted → Counted
grown_to longer t =
    let o = changed t.manager t.starts t.ends longer in
    counted o.manager (entries_filled t.manager.capacity longer 0 t.counts) o.starts o.ends

-- the table that table_grown leaves
abbrev pub grown_within : ℕ → Counted → Counted
grown_within capacity t = cond (eqb t.manager.last_in_use 0) (grown_to (grown t.manager.capacity 1 capacity) t) t

grown_length : (longer : ℕ) (t : Counted) → t.manager.capacity ≤ longer → (grown_to longer t).manager.capacity ≡ longer
unfolding changed pushed
grown_length longer t h =
    elim (dec_lt t.manager.capacity longer) [
      | yes l ↦ rw (lt-ltb t.manager.capacity longer l)
      | no g ↦ rw (le-ltb t.manager.capacity longer (omega arith)) (omega arith)
    ]

-- so the figure can be had from the live points counted before growth
module _ (capacity live : ℕ) (t : Counted) (h : t.manager.capacity ≤ capacity) (lent : capacity ≤ length t.counts) where
  pub grown_figure : live ≡ live_number t.manager.capacity t → WellCounted (grown_within capacity t).manager.capacity (grown_within capacity t) → free_indices (grown_within capacity t) ≡ (grown_within capacity t).manager.capacity - live
  grown_figure e =
      by_cases (λ u. WellCounted u.manager.capacity u → free_indices u ≡ u.manager.capacity - live)
      (eqb t.manager.last_in_use 0) (grown_to longer t) t
      (λ none w. omega (arith, free_and_live _ (grown_to longer t) w, same, e))
      (λ some w. omega (arith, free_and_live _ t w, e))
    where
      longer : ℕ
      longer = grown t.manager.capacity 1 capacity

      same : live_number (grown_to longer t).manager.capacity (grown_to longer t) ≡ live_number t.manager.capacity t
      same =
          let g = grown_within_lem t.manager.capacity 1 capacity h in
          rw (grown_length longer t g.0) (grown_live t.manager.capacity longer t (grown_to longer t) g.0 (omega (arith, g.1)) refl)

-- ---- a store

pub grown_table_lem : {E : Type 0} (p : PointStore E) → point_table (table_grown p) ≡ grown_within p.header.capacity (point_table p)
unfolding table_grown
grown_table_lem p = go (eqb p.header.index_manager.last_in_use 0)
  where
    go : (b : Bool) → point_table (cond b (with_points (grown_to (grown (table_length p.header) 1 p.header.capacity) (point_table p)) (entries_filled (table_length p.header) (grown (table_length p.header) 1 p.header.capacity) 65535 p.memory.location) p) p) ≡ cond b (grown_to (grown (table_length p.header) 1 p.header.capacity) (point_table p)) (point_table p)
    go true = refl
    go false = refl

module _ {E : Type 0} (eq : E → E → Bool) (zero_element : E) (p : PointStore E) (point : List E) (code : ℕ) where
  -- growth looks at no row, window or label
  pub table_after : (r : Rows E) (row : List E) → point_table (kept_after eq r row p point code) ≡ index_taken (point_table (table_grown p))
  unfolding kept_after labelled sequenced placed
  table_after r row =
      by_cases (λ q. index_taken (point_table (table_grown (with_rows (laid_rows eq p.header r row) (sequenced q point)))) ≡ index_taken (point_table (table_grown p)))
      p.header.store_labels (with_labels (label_taken p.header.classes p.header.capacity (label_half p) code).after p) p
      (λ on. ap index_taken (grown_table_lem (with_rows (laid_rows eq p.header r row) (sequenced (with_labels (label_taken p.header.classes p.header.capacity (label_half p) code).after p) point)) ∙ sym (grown_table_lem p)))
      (λ off. ap index_taken (grown_table_lem (with_rows (laid_rows eq p.header r row) (sequenced p point)) ∙ sym (grown_table_lem p)))

  -- the figure in the answer is that of the store after the add
  keeps_figure : (i l : ℕ) (laid : Laid) (left : ℕ) → (keeps eq zero_element p point code).answer ≡ kept i l laid left → left ≡ free_indices (point_table (keeps eq zero_element p point code).after)
  unfolding keeps free_left
  keeps_figure i l laid left e = choose (overflows eq p.header (room_made zero_element p.header (rows_of p)) (row_of p point)) e
    where
      room : Outcome E
      room = outcome (refused 10) (with_rows (room_made zero_element p.header (rows_of p)) p)

      row : Outcome E
      row = outcome (kept (index_given p) (label_given p) (laid_how eq p.header (room_made zero_element p.header (rows_of p)) (row_of p point)) (free_left p)) (kept_after eq (room_made zero_element p.header (rows_of p)) (row_of p point) p point code)

      choose : (b : Bool) → (cond b room row).answer ≡ kept i l laid left → left ≡ free_indices (point_table (cond b room row).after)
      choose true q = absurd (let z : ◌≡◌ {A = ℕ} 0 1 = cc in omega arith)
      choose false q =
          let f : left ≡ free_left p = cc in
          f ∙ ap free_indices (sym (table_after (room_made zero_element p.header (rows_of p)) (row_of p point)))

  figure_after : (i l : ℕ) (laid : Laid) (left : ℕ) → (add_spec eq zero_element p point code).answer ≡ kept i l laid left → left ≡ free_indices (point_table (add_spec eq zero_element p point code).after)
  unfolding add_spec
  figure_after i l laid left e = split (add_decided p point code) e
    where
      split : (a : AddDecided) → (add_carried_out eq zero_element a p point code).answer ≡ kept i l laid left → left ≡ free_indices (point_table (add_carried_out eq zero_element a p point code).after)
      split keep q = keeps_figure i l laid left q
      split wait q = absurd (let z : ◌≡◌ {A = ℕ} 0 1 = cc in omega arith)
      split (refuse_add k) q = absurd (let z : ◌≡◌ {A = ℕ} 0 1 = cc in omega arith)

  abbrev q : PointStore E
  q = (add_spec eq zero_element p point code).after

  -- the new point counts as live, and the table's length is that after growth
  pub figure_and_live : well_formed p ≡ true → (i l : ℕ) (laid : Laid) (left : ℕ) → (add_spec eq zero_element p point code).answer ≡ kept i l laid left → left + live_number (table_length q.header) (point_table q) ≡ table_length q.header
  figure_and_live f i l laid left e =
      omega (arith, figure_after i l laid left e, free_and_live (table_length q.header) (point_table q) (add_sound eq zero_element p point code (sound p f)).points)

  pub figure_left : well_formed p ≡ true → (i l : ℕ) (laid : Laid) (left : ℕ) → (add_spec eq zero_element p point code).answer ≡ kept i l laid left → left ≡ table_length q.header - live_number (table_length q.header) (point_table q)
  figure_left f i l laid left e = omega (arith, figure_and_live f i l laid left e)
