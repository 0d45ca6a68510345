-- The pairs of an adjust, as structs and as plain numbers, and what one pair comes to.
use Rattle.std.specs.Prelude.{ℕ, cond, List, [], ◌∷◌, get_or, replicate, eqb}
use Rattle.interval_store_manager.specs.Calls.{Decided, go}
use Rattle.labels.specs.Decisions.{none}
use Rattle.store_definitions.specs.declared.Pair.{Pair}
use Rattle.store_definitions.specs.Memory.{Memory, PointStore}
use Rattle.store_definitions.specs.Answers.{done, Outcome, outcome}
use Rattle.store_definitions.specs.Decisions.{and_then, carried_out}
use Rattle.store_definitions.specs.Counting.{Pairing, inc_test, dec_test, pair_decided, pair_done}

abbrev pub pair_of : ℕ → ℕ → ℕ → ℕ → Pairing
pair_of i l j k = record { insert_index = i; insert_label = l; delete_index = j; delete_label = k }

-- of a pair as it is lent
abbrev pub pairing_of : Pair → Pairing
pairing_of p = pair_of p.insert.index.0 p.insert.label.0 p.delete.index.0 p.delete.label.0

unfoldable pub pairings_of : List Pair → List Pairing
pairings_of [] = []
pairings_of (p ∷ ps) = pairing_of p ∷ pairings_of ps

-- as four plain numbers
abbrev pub pairing : List ℕ → Pairing
pairing r = pair_of (get_or r 0 0) (get_or r 1 0) (get_or r 2 0) (get_or r 3 0)

unfoldable pub pairings : List (List ℕ) → List Pairing
pairings [] = []
pairings (r ∷ rs) = pairing r ∷ pairings rs

module _ {E : Type 0} where
  -- what is decided of a pair, on the counts before it
  unfoldable pub pair_test : PointStore E → Pairing → Decided
  pair_test p q =
      and_then (inc_test p q.insert_index q.insert_label)
      (cond (eqb q.delete_index none) go (dec_test p q.delete_index q.delete_label))

  -- one pair alone
  unfoldable pub pair_spec : PointStore E → Pairing → Outcome E
  pair_spec p q =
      cond (eqb q.insert_index none) (outcome done p) (carried_out (pair_decided p q) p (outcome done (pair_done p q)))

-- the tables by their lists
abbrev pub listed : (floats window : ℕ) → List ℕ → List ℕ → List ℕ → List ℕ → List ℕ → List ℕ → List ℕ → List ℕ → List ℕ → List ℕ → List ℕ → List ℕ → List ℕ → Memory (Unit {0})
listed floats window counts location starts ends labels slots label_counts label_starts label_ends classes slot_counts slot_starts slot_ends =
    record {
      store = replicate floats tt;
      last_known_shingle = replicate window tt;
      reference_count = counts;
      location = location;
      index_starts = starts;
      index_ends = ends;
      labels = labels;
      label_attributes = slots;
      label_count = label_counts;
      label_starts = label_starts;
      label_ends = label_ends;
      attributes = classes;
      attribute_count = slot_counts;
      attribute_starts = slot_starts;
      attribute_ends = slot_ends;
    }
