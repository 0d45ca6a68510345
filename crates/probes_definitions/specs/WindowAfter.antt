-- What the store's add leaves of the shape, of the sequence and of the window, by its answer.
use Rattle.std.specs.Prelude.{ℕ, ◌+◌, ◌-◌, ◌≤◌, Bool, true, ◌≡◌, length, take, drop, eqb}
use Rattle.std.proofs.Math.Nat.{le_of_dvd}
use Rattle.std.proofs.Common.{arith, ◌∙◌, length-append, length-drop, length-take-le, drop_at}
use mathlib.Core.List.{List, ◌++◌}
use Rattle.std.proofs.Math.Path.{refl}
use Rattle.std.proofs.Math.Seq.{take_at}
use Rattle.placement.specs.Laying.{place_of}
use Rattle.placement.specs.Row.{moved_window}
use Rattle.labels.specs.Counted.{Counted}
use Rattle.labels.specs.Labels.{Labels, label_taken}
use Rattle.store_definitions.specs.Memory.{PointStore}
use Rattle.store_definitions.specs.Answers.{Answer, kept, waiting, done, is, says, refused, refused_after, outcome}
use Rattle.store_definitions.specs.Parts.{base_of, label_half, Rows, rows_of, with_rows, with_points, with_labels}
use Rattle.store_definitions.specs.Rows.{room_made}
use Rattle.store_definitions.specs.Adding.{point_length, AddDecided, keep, wait, refuse_add, add_decided, window_after, sequenced, row_of, label_given, labelled, table_grown, placed, overflows, laid_rows, laid_how, kept_after, index_given, free_left, keeps, add_carried_out, add_spec}
use Rattle.store_laws.specs.Cases.{by_cases}
use Rattle.store_laws.specs.BoundsLaws.{base_divides}
use Rattle.store_laws.specs.Sound.{Sound}
use Rattle.store_laws.specs.AddDecisionLaws.{Accepted, waits_on, keeps_on}
use Rattle.probes_definitions.specs.Memory.{last_floats}

module _ {E : Type 0} where
  -- a store with the shape of another
  pub record SameShape (p q : PointStore E) : Type 0 where
    pub dimensions_same : q.header.dimensions ≡ p.header.dimensions
    pub shingle_same : q.header.shingle_size ≡ p.header.shingle_size
    pub internal_same : q.header.internal_shingling ≡ p.header.internal_shingling

  -- after a refused add
  pub record Unmoved (p q : PointStore E) : Type 0 where
    pub shape : SameShape p q
    pub sequence : q.header.next_sequence_index ≡ p.header.next_sequence_index
    pub window : q.memory.last_known_shingle ≡ p.memory.last_known_shingle

  -- after an accepted one
  pub record Moved (p : PointStore E) (point : List E) (q : PointStore E) : Type 0 where
    pub shape : SameShape p q
    pub unfinished : p.header.next_sequence_index ≡ 4294967295 → ⊥
    pub sized : length point ≡ point_length p.header
    pub sequence : q.header.next_sequence_index ≡ p.header.next_sequence_index + 1
    pub window : q.memory.last_known_shingle ≡ window_after p point

  abbrev pub Leaves : PointStore E → List E → Answer → PointStore E → Type 0
  Leaves p point (kept i l laid left) q = Moved p point q
  Leaves p point waiting q = Moved p point q
  Leaves p point done q = Unmoved p q
  Leaves p point (is n) q = Unmoved p q
  Leaves p point (says b) q = Unmoved p q
  Leaves p point (refused n) q = Unmoved p q
  Leaves p point (refused_after n k) q = Unmoved p q

  same_shape : (p : PointStore E) → SameShape p p
  same_shape p = record { dimensions_same = refl; shingle_same = refl; internal_same = refl }

  unchanged : (p : PointStore E) → Unmoved p p
  unchanged p = record { shape = same_shape p; sequence = refl; window = refl }

  rows_unmoved : (p : PointStore E) (r : Rows E) → Unmoved p (with_rows r p)
  rows_unmoved p r = record { shape = record { dimensions_same = refl; shingle_same = refl; internal_same = refl }; sequence = refl; window = refl }

  module _ (p : PointStore E) (point : List E) (code : ℕ) (a : Accepted p point code) where
    -- sequence and window, whatever the label half
    labels_moved : (l : Labels) → Moved p point (sequenced (with_labels l p) point)
    unfolding sequenced window_after
    labels_moved l =
        record {
          shape = record { dimensions_same = refl; shingle_same = refl; internal_same = refl };
          unfinished = a.unfinished;
          sized = a.sized;
          sequence = refl;
          window = refl;
        }

    waiting_moved : Moved p point (sequenced p point)
    waiting_moved = labels_moved (label_half p)

    module _ (q : PointStore E) (m : Moved p point q) where
      rows_moved : (r : Rows E) → Moved p point (with_rows r q)
      rows_moved r =
          record {
            shape = record { dimensions_same = m.shape.dimensions_same; shingle_same = m.shape.shingle_same; internal_same = m.shape.internal_same };
            unfinished = m.unfinished;
            sized = m.sized;
            sequence = m.sequence;
            window = m.window;
          }

      points_moved : (t : Counted) (location : List ℕ) → Moved p point (with_points t location q)
      points_moved t location =
          record {
            shape = record { dimensions_same = m.shape.dimensions_same; shingle_same = m.shape.shingle_same; internal_same = m.shape.internal_same };
            unfinished = m.unfinished;
            sized = m.sized;
            sequence = m.sequence;
            window = m.window;
          }

    placed_moved : (q : PointStore E) → Moved p point q → (place : ℕ) → Moved p point (placed q place)
    unfolding placed
    placed_moved q m place = points_moved q m _ _

    grown_moved : (q : PointStore E) → Moved p point q → Moved p point (table_grown q)
    unfolding table_grown
    grown_moved q m =
        by_cases (Moved p point) (eqb q.header.index_manager.last_in_use 0) _ q
        (λ e. points_moved q m _ _)
        (λ e. m)

    labelled_moved : Moved p point (sequenced (labelled p code) point)
    unfolding labelled
    labelled_moved =
        by_cases (λ x. Moved p point (sequenced x point)) p.header.store_labels (with_labels (label_taken p.header.classes p.header.capacity (label_half p) code).after p) p
        (λ on. labels_moved (label_taken p.header.classes p.header.capacity (label_half p) code).after)
        (λ off. waiting_moved)

    kept_moved : (eq : E → E → Bool) (r : Rows E) (row : List E) → Moved p point (kept_after eq r row p point code)
    unfolding kept_after
    kept_moved eq r row =
        placed_moved _
        (grown_moved _ (rows_moved _ labelled_moved (laid_rows eq p.header r row)))
        (place_of (laid_how eq p.header r row))

module _ {E : Type 0} (eq : E → E → Bool) (zero_element : E) (p : PointStore E) (point : List E) (code : ℕ) where
  pub add_leaves : Leaves p point (add_spec eq zero_element p point code).answer (add_spec eq zero_element p point code).after
  unfolding add_spec keeps
  add_leaves = split (add_decided p point code) refl
    where
      split : (d : AddDecided) → add_decided p point code ≡ d → Leaves p point (add_carried_out eq zero_element d p point code).answer (add_carried_out eq zero_element d p point code).after
      split keep e =
          let r : Rows E = room_made zero_element p.header (rows_of p) in
          let row : List E = row_of p point in
          by_cases (λ o. Leaves p point o.answer o.after) (overflows eq p.header r row) (outcome (refused 10) (with_rows r p))
          (outcome (kept (index_given p) (label_given p) (laid_how eq p.header r row) (free_left p)) (kept_after eq r row p point code))
          (λ full. rows_unmoved p r)
          (λ fits. kept_moved p point code (keeps_on p point code e).accepted eq r row)
      split wait e = waiting_moved p point code (waits_on p point code e)
      split (refuse_add n) e = unchanged p

-- ---- the last floats

module _ {E : Type 0} (p : PointStore E) (w : Sound p) (eight : base_of p.header ≡ 8) where
  abbrev dims : ℕ
  dims = p.header.dimensions

  abbrev whole : List E
  whole = take dims p.memory.last_known_shingle

  pub eight_wide : 8 ≤ dims
  eight_wide = omega (arith, eight, le_of_dvd w.bounds.dims_least (base_divides dims p.header.shingle_size p.header.capacity w.bounds))

  whole_length : length whole ≡ dims
  whole_length = length-take-le dims p.memory.last_known_shingle w.lent.window_lent

  -- they are eight
  pub last_length : length (last_floats p) ≡ 8
  unfolding last_floats
  last_length = rw (length-drop (dims - 8) whole, whole_length) (omega (arith, eight_wide))

  module _ (internal : p.header.internal_shingling ≡ true) (point : List E) (sized : length point ≡ 8) where
    rest_length : length (drop 8 whole) ≡ dims - 8
    rest_length = rw (length-drop 8 whole, whole_length) refl

    moved_length : length (drop 8 whole ++ point) ≡ dims
    moved_length = length-append (drop 8 whole) point ∙ (let e = rest_length in omega (arith, e, sized, eight_wide))

    after_is : window_after p point ≡ (drop 8 whole ++ point) ++ drop dims p.memory.last_known_shingle
    unfolding window_after moved_window
    after_is = rw (internal, eight)

    -- after an accepted add they are its point
    pub last_moved : (q : PointStore E) → Moved p point q → last_floats q ≡ point
    unfolding last_floats
    last_moved q m =
        rw (m.shape.dimensions_same, m.window, after_is, take_at (drop 8 whole ++ point) (drop dims p.memory.last_known_shingle) dims moved_length)
        (drop_at (drop 8 whole) point (dims - 8) rest_length)

-- after a refused one they are what they were
pub last_unmoved : {E : Type 0} (p q : PointStore E) → Unmoved p q → last_floats q ≡ last_floats p
unfolding last_floats
last_unmoved p q m = rw (m.shape.dimensions_same, m.window)
