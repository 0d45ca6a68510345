-- Equality of a point and a row's copy, on a store that is known to be well-formed.
use Rattle.std.specs.Prelude.{ℕ, ◌+◌, ◌*◌, ◌-◌, ◌≤◌, ◌<◌, Bool, true, false, ◌&&◌, ◌≡◌, get_or}
use Rattle.std.proofs.Common.{le_of_eq, ◌∙◌, take_all, take_at, drop_at}
use native.Mathlib.Omega.{arith}
use mathlib.Core.List.{List, [], ◌++◌}
use Rattle.std.proofs.Math.Path.{sym, ap, ap₂}
use Rattle.std.proofs.Math.ListN.{length, take, drop, length-drop}
use borrow.Author.Tests.{eq-eqb, ne_eqb}
use Rattle.terms.specs.Rows.{all_equal}
use Rattle.float_bits.specs.Rows.{all_equal_split}
use Rattle.placement.specs.Copying.{turn, turned, copied}
use Rattle.placement.specs.Row.{piece}
use Rattle.store_definitions.specs.declared.Store.{Store}
use Rattle.store_definitions.specs.Memory.{PointStore, point_store, rows_alone}
use Rattle.store_definitions.specs.Answers.{Answer, says, refused}
use Rattle.store_definitions.specs.Parts.{base_of, table_length}
use Rattle.store_definitions.specs.Decisions.{form_decided, live, touch_decided}
use Rattle.store_definitions.specs.Rows.{copy_of, copy_decided}
use Rattle.store_definitions.specs.Sums.{equality, is_equal_spec}
use Rattle.store_definitions.specs.WellFormed.{well_formed}
use Rattle.store_laws.specs.DecisionLaws.{touch_go}
use Rattle.store_rows.specs.Copying.{read_place_lem}
use Rattle.store_counts.specs.Tables.{counts_alone}

-- a live index is below the table length and counted
pub live_is : {E : Type 0} (p : PointStore E) (i : ℕ) → live p i ≡ true → (i < table_length p.header) × (0 < get_or p.memory.reference_count i 0)
unfolding touch_decided
live_is p i e = touch_go p i (rw e)

module _ {E : Type 0} (eq : E → E → Bool) where
  -- what equality reads of a store
  abbrev pub checked_equality : Store → List E → (counts location : List ℕ) → ℕ → List E → Answer
  checked_equality s elements counts location i point = equality eq (point_store s (rows_alone elements counts location)) i point

  -- a well-formed store answers so
  pub equality_checked : (p : PointStore E) (i : ℕ) (point : List E) → well_formed p ≡ true → checked_equality p.header p.memory.store p.memory.reference_count p.memory.location i point ≡ is_equal_spec eq p i point
  unfolding is_equal_spec equality copy_decided copy_of form_decided touch_decided live
  equality_checked p i point e = rw e

  -- the ways out
  module _ (s : Store) (elements : List E) (counts location : List ℕ) (i : ℕ) (point : List E) where
    abbrev in_use : Bool
    in_use = live (point_store s (counts_alone counts [])) i

    pub equality_dead : in_use ≡ false → refused 5 ≡ checked_equality s elements counts location i point
    unfolding equality copy_decided copy_of touch_decided live
    equality_dead e = rw e

    pub equality_length : in_use ≡ true → (length point ≡ s.dimensions → ⊥) → refused 3 ≡ checked_equality s elements counts location i point
    unfolding equality copy_decided copy_of touch_decided live
    equality_length e d = rw (e, ne_eqb (length point) s.dimensions d)

    pub equality_read : in_use ≡ true → length point ≡ s.dimensions → i < length location → (b : Bool)
        → b ≡ all_equal eq (copied s.internal_rotation s.dimensions (base_of s) (get_or location i 0) elements) point
        → says b ≡ checked_equality s elements counts location i point
    unfolding equality copy_decided copy_of touch_decided live
    equality_read e l h b q = rw (e, eq-eqb (length point) s.dimensions l, q, read_place_lem location i h)

  -- the two parts of a turned row
  pub turned_equal : (dims t : ℕ) (row point : List E) → length row ≡ dims → length point ≡ dims → t ≤ dims → (first second : Bool)
      → first ≡ all_equal eq (take (length row - (dims - t)) (drop (dims - t) row)) (take t point)
      → second ≡ all_equal eq (take (dims - t) row) (take (length point - t) (drop t point))
      → (first && second) ≡ all_equal eq (turned dims t row) point
  unfolding turned
  turned_equal dims t row point whole counted small first second f g =
      let last = drop (dims - t) row in
      let others = take (dims - t) row in
      let ends : length last ≡ length row - (dims - t) = length-drop (dims - t) row in
      let last_counted : length last ≡ t = ends ∙ omega arith in
      let point_ends : length (drop t point) ≡ length point - t = length-drop t point in
      ap₂ (λ (a b : Bool). a && b)
      (f ∙ ap (λ (l : List E). all_equal eq l (take t point)) (take_all (length row - (dims - t)) last (le_of_eq ends) ∙ sym (take_at last others t last_counted)))
      (g
      ∙ ap₂ (λ (l k : List E). all_equal eq l k)
      (sym (drop_at last others t last_counted))
      (take_all (length point - t) (drop t point) (le_of_eq point_ends)))
      ∙ sym (all_equal_split eq t (last ++ others) point)

-- the row that stands at a place, turned, is its copy
pub copied_part : {E : Type 0} (rotation : Bool) (dims base place t : ℕ) (elements : List E) → t ≡ turn rotation dims base place
    → turned dims t (piece (place * base) (place * base + dims - place * base) elements) ≡ copied rotation dims base place elements
unfolding copied
copied_part rotation dims base place t elements e =
    let count : place * base + dims - place * base ≡ dims = omega arith in
    rw (count, e)
