-- What an add and an accepted dec make of the counts of points and labels.
use Rattle.std.specs.Prelude.{ℕ, ◌-◌, ◌≤◌, ◌<◌, Bool, ◌&&◌, ◌≡◌, get_or, set, eqb}
use Rattle.std.proofs.Math.Decide.{dec_lt, ℕ_discrete}
use Rattle.std.proofs.Common.{arith, ◌∙◌}
use Rattle.std.proofs.Math.Bool.{true, false, cond}
use mathlib.Core.List.{List}
use Rattle.std.proofs.Math.Path.{refl, sym, ap}
use Rattle.std.proofs.Math.ListN.{length}
use Rattle.std.proofs.Math.Seq.{get_or-set_same, get_or-set_other}
use Rattle.std.proofs.Math.Dec.{ltb}
use borrow.Author.Tests.{eq-eqb, ne_eqb, eqb-true, eqb-false, lt-ltb, le-ltb}
use Rattle.terms.specs.Below.{positive}
use Rattle.placement.specs.Growth.{grown, grown_within_lem}
use Rattle.placement.specs.Laying.{place_of}
use Rattle.labels.specs.Counted.{Counted, counted, next_index, index_taken, lowered}
use Rattle.labels.specs.CountedLaws.{WellCounted, next_within, next_unused, take_keeps, lower_keeps, lowered_counts}
use Rattle.labels.specs.Decisions.{none}
use Rattle.labels.specs.Labels.{Labels, label_taken, label_lowered}
use Rattle.interval_store_manager.specs.Calls.{changed}
use Rattle.store_definitions.specs.declared.Store.{Store}
use Rattle.store_definitions.specs.Memory.{PointStore}
use Rattle.store_definitions.specs.Answers.{Answer, kept, waiting, done, is, says, refused, refused_after, outcome}
use Rattle.store_definitions.specs.Parts.{table_length, point_table, label_half, Rows, rows_of, with_rows, with_points, with_labels}
use Rattle.store_definitions.specs.Decisions.{live}
use Rattle.store_definitions.specs.Rows.{room_made}
use Rattle.store_definitions.specs.Counting.{place_after_dec, decremented}
use Rattle.store_definitions.specs.Adding.{entries_filled, AddDecided, keep, wait, refuse_add, add_decided, sequenced, row_of, label_given, labelled, table_grown, placed, overflows, laid_rows, laid_how, kept_after, index_given, free_left, keeps, add_carried_out, add_spec}
use Rattle.store_laws.specs.Sound.{Sound}
use Rattle.store_laws.specs.Cases.{by_cases}
use Rattle.store_laws.specs.TableLaws.{filled_before, filled_new, grown_ready}
use Rattle.store_laws.specs.AddDecisionLaws.{Kept, keeps_on}
use Rattle.store_laws.specs.AddingLaws.{can_grow}

module _ {E : Type 0} where
  -- the count of an index: 0 past the table
  unfoldable pub count_now : PointStore E → ℕ → ℕ
  count_now p i = cond (ltb i (table_length p.header)) (get_or p.memory.reference_count i 0) 0

  abbrev pub label_count_now : PointStore E → ℕ → ℕ
  label_count_now p l = get_or p.memory.label_count l 0

  pub counted_live : (p : PointStore E) (i : ℕ) → live p i ≡ ltb 0 (count_now p i)
  unfolding live count_now
  counted_live p i = go (ltb i (table_length p.header))
    where
      go : (b : Bool) → (b && ltb 0 (get_or p.memory.reference_count i 0)) ≡ ltb 0 (cond b (get_or p.memory.reference_count i 0) 0)
      go true = refl
      go false = refl

  pub counted_below : (p : PointStore E) (i : ℕ) → i < table_length p.header → count_now p i ≡ get_or p.memory.reference_count i 0
  unfolding count_now
  counted_below p i h = rw (lt-ltb i (table_length p.header) h)

  pub counted_past : (p : PointStore E) (i : ℕ) → table_length p.header ≤ i → count_now p i ≡ 0
  unfolding count_now
  counted_past p i h = rw (le-ltb i (table_length p.header) h)

  -- an index with a count stands in the table
  pub counted_inside : (p : PointStore E) (i : ℕ) → 0 < count_now p i → i < table_length p.header
  counted_inside p i h =
      elim (dec_lt i (table_length p.header)) [ yes l ↦ l | no g ↦ absurd (omega (arith, counted_past p i (omega arith))) ]

  -- a store with the shape of another
  pub record SameShape (p q : PointStore E) : Type 0 where
    pub capacity_same : q.header.capacity ≡ p.header.capacity
    pub flag_same : q.header.store_labels ≡ p.header.store_labels

  -- the counts are as they were
  pub record SameCounts (p q : PointStore E) : Type 0 where
    pub shape : SameShape p q
    pub counts : (j : ℕ) → count_now q j ≡ count_now p j
    pub label_counts_lem : (j : ℕ) → label_count_now q j ≡ label_count_now p j

  -- index i and, with labels on, label index l were free and have count 1; all else is as it was
  pub record Gained (p q : PointStore E) (i l : ℕ) : Type 0 where
    pub shape : SameShape p q
    pub was_free : count_now p i ≡ 0
    pub counts : (j : ℕ) → count_now q j ≡ cond (eqb j i) 1 (count_now p j)
    pub no_label : p.header.store_labels ≡ false → l ≡ none
    pub label_below : p.header.store_labels ≡ true → l < p.header.capacity
    pub label_was_free : p.header.store_labels ≡ true → label_count_now p l ≡ 0
    pub label_counts_lem : p.header.store_labels ≡ true → (j : ℕ) → label_count_now q j ≡ cond (eqb j l) 1 (label_count_now p j)

-- ---- dec

module _ {E : Type 0} (p : PointStore E) (w : Sound p) (i l : ℕ) (h : i < table_length p.header) (u : 0 < get_or p.memory.reference_count i 0) where
  abbrev cs : List ℕ
  cs = p.memory.reference_count

  whole : (lowered (point_table p) i).manager.capacity ≡ table_length p.header
  whole = (lower_keeps (table_length p.header) (point_table p) w.points i h u).whole

  pub dec_shape : SameShape p (decremented p i l)
  unfolding decremented
  dec_shape =
      let q = with_points (lowered (point_table p) i) (place_after_dec p i) p in
      by_cases (SameShape p) p.header.store_labels (with_labels (label_lowered (label_half p) l) q) q
      (λ on. record { capacity_same = refl; flag_same = refl })
      (λ off. record { capacity_same = refl; flag_same = refl })

  pub dec_length : table_length (decremented p i l).header ≡ table_length p.header
  unfolding decremented
  dec_length =
      let q = with_points (lowered (point_table p) i) (place_after_dec p i) p in
      by_cases (λ x. table_length x.header ≡ table_length p.header) p.header.store_labels (with_labels (label_lowered (label_half p) l) q) q (λ on. whole) (λ off. whole)

  lowered_now : (j : ℕ) → cond (ltb j (lowered (point_table p) i).manager.capacity) (get_or (lowered (point_table p) i).counts j 0) 0 ≡ cond (eqb j i) (count_now p i - 1) (count_now p j)
  unfolding count_now
  lowered_now j =
      rw (whole, lowered_counts (point_table p) i)
      (elim (ℕ_discrete j i) [
        | yes e ↦ rw (eq-eqb j i e, e, lt-ltb i (table_length p.header) h, get_or-set_same cs i (get_or cs i 0 - 1) 0 (omega (arith, w.points.lent)))
        | no d ↦ rw (ne_eqb j i d, get_or-set_other cs i j (get_or cs i 0 - 1) 0 d)
      ])

  lowered_with : (j : ℕ) (k : Labels) → count_now (with_labels k (with_points (lowered (point_table p) i) (place_after_dec p i) p)) j ≡ cond (eqb j i) (count_now p i - 1) (count_now p j)
  unfolding count_now
  lowered_with j k = lowered_now j

  pub dec_counts : (j : ℕ) → count_now (decremented p i l) j ≡ cond (eqb j i) (count_now p i - 1) (count_now p j)
  unfolding decremented
  dec_counts j =
      let q = with_points (lowered (point_table p) i) (place_after_dec p i) p in
      by_cases (λ x. count_now x j ≡ cond (eqb j i) (count_now p i - 1) (count_now p j)) p.header.store_labels (with_labels (label_lowered (label_half p) l) q) q
      (λ on. lowered_with j (label_lowered (label_half p) l))
      (λ off. lowered_with j (label_half p))

  pub dec_label_counts : p.header.store_labels ≡ true → (j : ℕ) → label_count_now (decremented p i l) j ≡ get_or (set p.memory.label_count l (label_count_now p l - 1)) j 0
  unfolding decremented label_lowered
  dec_label_counts on j = rw (on, lowered_counts (label_half p).label_table l)

-- ---- add

-- the next index of a table taken
module _ {E : Type 0} (q : PointStore E) (w : WellCounted (table_length q.header) (point_table q)) (some : 0 < q.header.index_manager.last_in_use) (place : ℕ) where
  abbrev i : ℕ
  i = next_index (point_table q)

  abbrev n : ℕ
  n = table_length q.header

  below : i < n
  below = next_within n (point_table q) w some

  pub placed_was_free : count_now q i ≡ 0
  placed_was_free = counted_below q i below ∙ next_unused n (point_table q) w some

  pub placed_counts : (j : ℕ) → count_now (placed q place) j ≡ cond (eqb j i) 1 (count_now q j)
  unfolding placed index_taken count_now
  placed_counts j =
      let whole : (index_taken (point_table q)).manager.capacity ≡ n = (take_keeps n (point_table q) w some).whole in
      rw whole
      (elim (ℕ_discrete j i) [
        | yes e ↦ rw (eq-eqb j i e, e, lt-ltb i n below, get_or-set_same q.memory.reference_count i 1 0 (omega (arith, below, w.lent)))
        | no d ↦ rw (ne_eqb j i d, get_or-set_other q.memory.reference_count i j 1 0 d)
      ])

-- a kept add for which there is room
module _ {E : Type 0} (eq : E → E → Bool) (zero_element : E) (p : PointStore E) (w : Sound p) (point : List E) (code : ℕ) where
  abbrev u : Store
  u = p.header

  abbrev room : Rows E
  room = room_made zero_element u (rows_of p)

  abbrev row : List E
  row = row_of p point

  abbrev place : ℕ
  place = place_of (laid_how eq u room row)

  -- the points after it, whatever the label half: `labels` are the counts of the labels
  record PointGained (q : PointStore E) (i : ℕ) (labels : List ℕ) : Type 0 where
    shape : SameShape p q
    was_free : count_now p i ≡ 0
    counts : (j : ℕ) → count_now q j ≡ cond (eqb j i) 1 (count_now p j)
    label_list : q.memory.label_count ≡ labels

  module _ (k : Kept p point code) (l : Labels) where
    abbrev laid : PointStore E
    laid = with_rows (laid_rows eq u room row) (sequenced (with_labels l p) point)

    -- with a table that has the store's counts
    table_gained : (t : Counted) (location : List ℕ) → WellCounted t.manager.capacity t → 0 < t.manager.last_in_use → ((j : ℕ) → count_now (with_points t location laid) j ≡ count_now p j) → PointGained (placed (with_points t location laid) place) (next_index t) l.label_table.counts
    unfolding sequenced placed
    table_gained t location well some same =
        record {
          shape = record { capacity_same = refl; flag_same = refl };
          was_free = sym (same (next_index t)) ∙ placed_was_free (with_points t location laid) well some place;
          counts = λ j. placed_counts (with_points t location laid) well some place j ∙ ap (λ (x : ℕ). cond (eqb j (next_index t)) 1 x) (same j);
          label_list = refl;
        }

    -- how many indices growth brings at least
    abbrev least : ℕ
    least = 1

    abbrev longer : ℕ
    longer = grown (table_length u) least u.capacity

    abbrev grown_table : Counted
    grown_table =
        let o = changed u.index_manager p.memory.index_starts p.memory.index_ends longer in
        counted o.manager (entries_filled (table_length u) longer 0 p.memory.reference_count) o.starts o.ends

    -- growth changes no count
    grown_counts : u.index_manager.last_in_use ≡ 0 → (location : List ℕ) (j : ℕ) → count_now (with_points grown_table location laid) j ≡ count_now p j
    unfolding count_now
    grown_counts none location j =
        let n = table_length u in
        let up : n < longer = can_grow u w.table_within k.not_full none in
        let most : longer ≤ u.capacity = (grown_within_lem n least u.capacity w.table_within).1 in
        let lent : longer ≤ length p.memory.reference_count = omega (arith, w.lent.counts_lent) in
        rw (grown_ready p w longer up most).well.whole
        (elim (dec_lt j n) [
          | yes h ↦ rw (lt-ltb j n h, lt-ltb j longer (omega arith), filled_before n longer 0 p.memory.reference_count (omega arith) lent j 0 h)
          | no g ↦
              elim (dec_lt j longer) [
                | yes h ↦ rw (le-ltb j n (omega arith), lt-ltb j longer h, filled_new n longer 0 p.memory.reference_count (omega arith) lent j 0 (omega arith) h)
                | no f ↦ rw (le-ltb j n (omega arith), le-ltb j longer (omega arith))
              ]
        ])

    grown_gained : u.index_manager.last_in_use ≡ 0 → (location : List ℕ) → PointGained (placed (with_points grown_table location laid) place) (next_index grown_table) l.label_table.counts
    grown_gained none location =
        let n = table_length u in
        let ready = grown_ready p w longer (can_grow u w.table_within k.not_full none) (grown_within_lem n least u.capacity w.table_within).1 in
        table_gained grown_table location (rw ready.well.whole ready.well) ready.some (grown_counts none location)

    same_counts : (j : ℕ) → count_now laid j ≡ count_now p j
    unfolding count_now sequenced laid_rows
    same_counts j = refl

    laid_gained : PointGained (placed (table_grown laid) place) (next_index (point_table (table_grown laid))) l.label_table.counts
    unfolding table_grown sequenced
    laid_gained =
        by_cases (λ q. PointGained (placed q place) (next_index (point_table q)) l.label_table.counts) (eqb u.index_manager.last_in_use 0)
        (with_points grown_table (entries_filled (table_length u) longer 65535 laid.memory.location) laid) laid
        (λ e. grown_gained (eqb-true u.index_manager.last_in_use 0 e) (entries_filled (table_length u) longer 65535 laid.memory.location))
        (λ e. table_gained (point_table laid) laid.memory.location w.points (positive u.index_manager.last_in_use (eqb-false u.index_manager.last_in_use 0 e)) same_counts)

    -- the index is the one in the answer
    index_same : next_index (point_table (table_grown laid)) ≡ index_given p
    unfolding table_grown sequenced index_given
    index_same = go (eqb u.index_manager.last_in_use 0)
      where
        go : (b : Bool) → next_index (point_table (cond b (with_points grown_table (entries_filled (table_length u) longer 65535 laid.memory.location) laid) laid)) ≡ next_index (point_table (cond b (with_points grown_table (entries_filled (table_length u) longer 65535 p.memory.location) p) p))
        go true = refl
        go false = refl

    point_gained : PointGained (placed (table_grown laid) place) (index_given p) l.label_table.counts
    point_gained = rw (sym index_same) laid_gained

  pub kept_gained : Kept p point code → Gained p (kept_after eq room row p point code) (index_given p) (label_given p)
  unfolding kept_after labelled label_given label_taken index_taken
  kept_gained k = go u.store_labels refl
    where
      table : Counted
      table = (label_half p).label_table

      go : (b : Bool) → u.store_labels ≡ b → Gained p (placed (table_grown (with_rows (laid_rows eq u room row) (sequenced (cond b (with_labels (label_taken u.classes u.capacity (label_half p) code).after p) p) point))) place) (index_given p) (cond b (next_index table) none)
      go true on =
          let g = point_gained k (label_taken u.classes u.capacity (label_half p) code).after in
          let well = (w.labels on).label_table_lem in
          let below : next_index table < u.capacity = next_within u.capacity table well (k.label_free on) in
          record {
            shape = g.shape;
            was_free = g.was_free;
            counts = g.counts;
            no_label = λ off. absurd (let z : ◌≡◌ {A = ℕ} 0 1 = let t : true ≡ false = sym on ∙ off in cc in omega arith);
            label_below = λ q. below;
            label_was_free = λ q. next_unused u.capacity table well (k.label_free on);
            label_counts_lem = λ q j.
                ap (λ (xs : List ℕ). get_or xs j 0) g.label_list
                ∙ elim (ℕ_discrete j (next_index table)) [
                  | yes e ↦ rw (eq-eqb j (next_index table) e, e, get_or-set_same p.memory.label_count (next_index table) 1 0 (omega (arith, below, well.lent)))
                  | no d ↦ rw (ne_eqb j (next_index table) d, get_or-set_other p.memory.label_count (next_index table) j 1 0 d)
                ];
          }
      go false off =
          let g = point_gained k (label_half p) in
          let never : u.store_labels ≡ true → ⊥ = λ on. let z : ◌≡◌ {A = ℕ} 0 1 = let t : true ≡ false = sym on ∙ off in cc in omega arith in
          record {
            shape = g.shape;
            was_free = g.was_free;
            counts = g.counts;
            no_label = λ q. refl;
            label_below = λ on. absurd (never on);
            label_was_free = λ on. absurd (never on);
            label_counts_lem = λ on j. absurd (never on);
          }

module _ {E : Type 0} where
  -- what an add with this answer leaves
  abbrev pub Leaves : PointStore E → Answer → PointStore E → Type 0
  Leaves p (kept i l laid left) q = Gained p q i l
  Leaves p waiting q = SameCounts p q
  Leaves p done q = SameCounts p q
  Leaves p (is n) q = SameCounts p q
  Leaves p (says b) q = SameCounts p q
  Leaves p (refused n) q = SameCounts p q
  Leaves p (refused_after n k) q = SameCounts p q

  unchanged : (p : PointStore E) → SameCounts p p
  unchanged p = record { shape = record { capacity_same = refl; flag_same = refl }; counts = λ j. refl; label_counts_lem = λ j. refl }

  rows_same : (p : PointStore E) (r : Rows E) → SameCounts p (with_rows r p)
  unfolding count_now
  rows_same p r = record { shape = record { capacity_same = refl; flag_same = refl }; counts = λ j. refl; label_counts_lem = λ j. refl }

  sequenced_same : (p : PointStore E) (point : List E) → SameCounts p (sequenced p point)
  unfolding count_now sequenced
  sequenced_same p point = record { shape = record { capacity_same = refl; flag_same = refl }; counts = λ j. refl; label_counts_lem = λ j. refl }

module _ {E : Type 0} (eq : E → E → Bool) (zero_element : E) (p : PointStore E) (w : Sound p) (point : List E) (code : ℕ) where
  pub add_leaves : Leaves p (add_spec eq zero_element p point code).answer (add_spec eq zero_element p point code).after
  unfolding add_spec keeps
  add_leaves = split (add_decided p point code) refl
    where
      split : (d : AddDecided) → add_decided p point code ≡ d → Leaves p (add_carried_out eq zero_element d p point code).answer (add_carried_out eq zero_element d p point code).after
      split keep e =
          let r : Rows E = room_made zero_element p.header (rows_of p) in
          let row : List E = row_of p point in
          by_cases (λ o. Leaves p o.answer o.after) (overflows eq p.header r row) (outcome (refused 10) (with_rows r p))
          (outcome (kept (index_given p) (label_given p) (laid_how eq p.header r row) (free_left p)) (kept_after eq r row p point code))
          (λ full. rows_same p r)
          (λ fits. kept_gained eq zero_element p w point code (keeps_on p point code e))
      split wait e = sequenced_same p point
      split (refuse_add n) e = unchanged p
