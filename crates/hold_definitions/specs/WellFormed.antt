-- 'A hold is ill-formed, so 1, unless opening would take its width W and its list names each live point of its store once, each
-- with count 1 and with labels on a label index of its own in use with count 1, and at most W of them.'
use Rattle.std.specs.Prelude.{ℕ, Bool, true, cond, ◌&&◌, List, length, get_or, leb, ltb, eqb}
use Rattle.terms.specs.Below.{one, every_below}
use Rattle.labels.specs.Decisions.{in_use}
use Rattle.store_definitions.specs.Memory.{PointStore}
use Rattle.store_definitions.specs.Parts.{table_length}
use Rattle.store_definitions.specs.Decisions.{live}
use Rattle.store_definitions.specs.WellFormed.{well_formed}
use Rattle.hold_definitions.specs.Memory.{HoldMemory, PointHold, store_of, indices_of, labels_of}
use Rattle.hold_definitions.specs.Listed.{times, every_named}

-- 'A width of 0, or one not below capacity, gets 15': so capacity 1 admits none
unfoldable pub width_allowed : (width capacity : ℕ) → Bool
width_allowed width capacity = leb 1 width && ltb width capacity

module _ {E : Type 0} where
  -- the two tables have at least capacity entries; with labels off that of the labels is not looked at
  unfoldable pub tables_lent : ℕ → Bool → HoldMemory E → Bool
  tables_lent capacity labels m =
      leb capacity (length m.held_indices) && cond labels (leb capacity (length m.held_labels)) true

  -- 'its list names each live point of its store once', and nothing else
  unfoldable pub names_live_points : PointStore E → List ℕ → Bool
  names_live_points p indices =
      every_named (live p) indices && every_below (table_length p.header) (λ i. eqb (times i indices) (one (live p i)))

  -- 'each with count 1'
  unfoldable pub counted_once : PointStore E → List ℕ → Bool
  counted_once p indices = every_named (λ i. eqb (get_or p.memory.reference_count i 0) 1) indices

  -- 'with labels on a label index of its own in use with count 1'; labels that the list does not name may be live too
  unfoldable pub own_labels : PointStore E → List ℕ → Bool
  own_labels p labels =
      every_named
      (λ l.
      in_use p.header.store_labels p.header.capacity p.memory.label_count l
      && (eqb (get_or p.memory.label_count l 0) 1 && eqb (times l labels) 1))
      labels

  unfoldable pub hold_well_formed : PointHold E → Bool
  hold_well_formed h =
      let p = store_of h in
      let s = p.header in
      well_formed p
      && (width_allowed h.header.width s.capacity
      && (tables_lent s.capacity s.store_labels h.memory
      && (leb h.header.held h.header.width
      && (names_live_points p (indices_of h)
      && (counted_once p (indices_of h) && cond s.store_labels (own_labels p (labels_of h)) true)))))
