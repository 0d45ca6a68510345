-- The invariant of a run: how any store stands to a history. A fresh store and the empty history are one instance.
use Rattle.std.specs.Prelude.{ℕ, ◌+◌, ◌*◌, ◌-◌, ◌/◌, ◌≤◌, ◌<◌, Bool, true, not, List, ◌≡◌, length, get_or, take, drop, eqb}
use Rattle.terms.specs.Below.{sum_below}
use Rattle.terms.specs.Rows.{Exact}
use Rattle.placement.specs.Copying.{turn, turned}
use Rattle.store_definitions.specs.declared.Shape.{Shape}
use Rattle.store_definitions.specs.declared.Store.{Store}
use Rattle.store_definitions.specs.Memory.{PointStore}
use Rattle.store_definitions.specs.Answers.{Output}
use Rattle.store_definitions.specs.Parts.{base_of, table_length}
use Rattle.store_definitions.specs.Decisions.{refuse_if, writes}
use Rattle.store_definitions.specs.Rows.{copy_of, copy_spec}
use Rattle.guarantee.specs.History.{Given, count, is_live, History, joined_points}
use Rattle.guarantee.specs.Guarantee.{LiveSince}

-- a store has the shape that it was opened with
pub record Fits (h : Shape) (s : Store) : Type 0 where
  pub dimensions : s.dimensions ≡ h.dimensions
  pub shingle : s.shingle_size ≡ h.shingle_size
  pub capacity : s.capacity ≡ h.capacity
  pub internal : s.internal_shingling ≡ h.internal_shingling
  pub rotation : s.internal_rotation ≡ h.internal_rotation

-- what a copy call answers for a live index
abbrev pub copy_answer : {E : Type 0} → ℕ → List E → List E → Output E
copy_answer dims copy out = writes (refuse_if (not (eqb (length out) dims)) 3) out copy

module _ {E : Type 0} (eq : E → E → Bool) (h : Shape) (then : Given E → PointStore E) where
  -- a live index's copy: what it was right after the add that gave the index, and that add's row
  pub record CopyStands (i : ℕ) (g : Given E) (copy : List E) : Type 0 where
    pub as_then : (out : List E) → copy_spec (then g) i out ≡ copy_answer h.dimensions copy out
    pub row : Exact eq → copy ≡ turned h.dimensions (turn h.internal_rotation h.dimensions (h.dimensions / h.shingle_size) g.place) g.row

  pub record Relates (s : History E) (p : PointStore E) : Type 0 where
    pub fits : Fits h p.header
    -- counts: those of the history; live indices have one and stand in the table
    pub counts : (i : ℕ) → i < table_length p.header → get_or p.memory.reference_count i 0 ≡ count (s.life i)
    pub live_below_lem : (i : ℕ) → is_live (s.life i) ≡ true → i < table_length p.header
    pub live_counted : (i : ℕ) → is_live (s.life i) ≡ true → 0 < count (s.life i)
    pub sum : sum_below (table_length p.header) (λ i. get_or p.memory.reference_count i 0) + s.decs ≡ s.adds + s.incs
    -- rows
    pub copies : (i : ℕ) (g : Given E) → LiveSince s i g → CopyStands i g (copy_of p i)
    -- the window ends with the points of the last accepted adds
    pub sequence : p.header.next_sequence_index ≡ length s.points
    pub window : p.header.internal_shingling ≡ true → (k : ℕ) → k ≤ p.header.shingle_size → k ≤ length s.points
        → drop (p.header.dimensions - k * base_of p.header) (take p.header.dimensions p.memory.last_known_shingle) ≡ joined_points k s.points
