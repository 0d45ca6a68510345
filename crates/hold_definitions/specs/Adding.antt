-- 'each kept add gives up the oldest held point once more than W are held, after the add has succeeded, so that a refused add gives
-- up nothing. Waiting adds give up nothing. A hold add answers as its store's add does', so its figure is the one 'as it stood before the
-- oldest was given up'.
use Rattle.std.specs.Prelude.{ℕ, Bool, cond, List, [], ◌∷◌, ◌++◌, length, get_or, drop, ltb}
use Rattle.labels.specs.Decisions.{none}
use Rattle.store_definitions.specs.Memory.{PointStore}
use Rattle.store_definitions.specs.Answers.{Answer, kept, waiting, done, is, says, refused, refused_after, Outcome}
use Rattle.store_definitions.specs.Adding.{add_spec}
use Rattle.store_definitions.specs.Counting.{decremented}
use Rattle.hold_definitions.specs.Memory.{PointHold, store_of, indices_of, labels_of}
use Rattle.hold_definitions.specs.Answers.{HoldOutcome, hold_outcome}
use Rattle.hold_definitions.specs.WellFormed.{hold_well_formed}

-- a list written to a table; a longer table keeps its rest
abbrev pub written_to : List ℕ → List ℕ → List ℕ
written_to table xs = xs ++ drop (length xs) table

module _ {E : Type 0} where
  -- another store inside
  abbrev pub with_store : PointStore E → PointHold E → PointHold E
  with_store p h =
      record {
        header = record { store = p.header; width = h.header.width; held = h.header.held };
        memory = record { store = p.memory; held_indices = h.memory.held_indices; held_labels = h.memory.held_labels };
      }

  -- another list; with labels off that of the labels is not looked at
  abbrev pub with_list : List ℕ → List ℕ → PointHold E → PointHold E
  with_list indices labels h =
      record {
        header = record { store = h.header.store; width = h.header.width; held = length indices };
        memory = record {
          store = h.memory.store;
          held_indices = written_to h.memory.held_indices indices;
          held_labels = cond h.header.store.store_labels (written_to h.memory.held_labels labels) h.memory.held_labels;
        };
      }

  -- the label index of the oldest held point: none with labels off
  abbrev pub oldest_label : PointStore E → List ℕ → ℕ
  oldest_label p labels = cond p.header.store_labels (get_or labels 0 0) none

  -- the oldest point of a list given up
  unfoldable pub gave_up : List ℕ → List ℕ → PointStore E → PointStore E
  gave_up indices labels p = decremented p (get_or indices 0 0) (oldest_label p labels)

  -- a point more at the end of the list and, 'once more than W are held', the oldest given up
  unfoldable pub holding : PointHold E → List ℕ → List ℕ → PointStore E → PointHold E
  holding h indices labels p =
      cond (ltb h.header.width (length indices))
      (with_list (drop 1 indices) (drop 1 labels) (with_store (gave_up indices labels p) h))
      (with_list indices labels (with_store p h))

  -- the hold after its store's add: a kept one alone touches the list
  abbrev pub held_after : PointHold E → Answer → PointStore E → PointHold E
  held_after h (kept i l laid left) p = holding h (indices_of h ++ i ∷ []) (labels_of h ++ l ∷ []) p
  held_after h waiting p = with_store p h
  held_after h done p = with_store p h
  held_after h (is n) p = with_store p h
  held_after h (says b) p = with_store p h
  held_after h (refused n) p = with_store p h
  held_after h (refused_after n k) p = with_store p h

  abbrev pub hold_added : PointHold E → Outcome E → HoldOutcome E
  hold_added h o = hold_outcome o.answer (held_after h o.answer o.after)

module _ {E : Type 0} (eq : E → E → Bool) (zero_element : E) where
  unfoldable pub hold_add_spec : PointHold E → List E → ℕ → HoldOutcome E
  hold_add_spec h point code =
      cond (hold_well_formed h) (hold_added h (add_spec eq zero_element (store_of h) point code)) (hold_outcome (refused 1) h)
