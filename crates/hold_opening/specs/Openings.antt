-- Opening a hold as its code does it: the shape, the width and the two tables are judged, and then the store is opened.
use Rattle.std.specs.Prelude.{ℕ, Bool, true, cond, not, ◌&&◌, List, ◌≡◌, length, leb, Result, Ok, Err}
use Rattle.terms.specs.Refusals.{number}
use Rattle.terms.specs.declared.Refusal.{Refusal}
use Rattle.std.proofs.Math.Path.{refl, ap}
use Rattle.std.proofs.Common.{sym, ◌∙◌}
use Rattle.interval_store_manager.specs.Calls.{Decided, go, refuse}
use Rattle.store_definitions.specs.declared.Store.{Store}
use Rattle.store_definitions.specs.declared.Shape.{Shape}
use Rattle.store_definitions.specs.Memory.{Memory, PointStore, point_store}
use Rattle.store_definitions.specs.Answers.{Answer, kept, waiting, done, is, says, refused, refused_after, opened_means, Outcome, outcome}
use Rattle.store_definitions.specs.Decisions.{and_then, refuse_if, carried_out}
use Rattle.store_definitions.specs.Opening.{shape_allowed, open_decided, no_record, opened_store, opened, open_spec}
use Rattle.hold_definitions.specs.Memory.{HoldMemory, point_hold}
use Rattle.hold_definitions.specs.Answers.{HoldOutcome, hold_outcome}
use Rattle.hold_definitions.specs.WellFormed.{width_allowed, tables_lent}
use Rattle.hold_definitions.specs.Opening.{hold_open_decided, fresh_hold, no_hold, hold_open_carried_out, hold_open_spec}

-- ---- the decision before the store's

unfoldable pub shape_asked : Shape → Decided
shape_asked s = refuse_if (not (shape_allowed s)) 2

unfoldable pub width_asked : (width capacity : ℕ) → Decided
width_asked width capacity = refuse_if (not (width_allowed width capacity)) 15

unfoldable pub tables_asked : ℕ → Bool → (indices labels : ℕ) → Decided
tables_asked capacity on indices labels = refuse_if (not (leb capacity indices && cond on (leb capacity labels) true)) 1

unfoldable pub open_asked : Shape → (width indices labels : ℕ) → Decided
open_asked s width indices labels =
    and_then (shape_asked s) (and_then (width_asked width s.capacity) (tables_asked s.capacity s.store_labels indices labels))

-- ---- the whole

assoc : (a b c d : Decided) → and_then a (and_then b (and_then c d)) ≡ and_then (and_then a (and_then b c)) d
assoc go go go d = refl
assoc go go (refuse n) d = refl
assoc go (refuse n) c d = refl
assoc (refuse n) b c d = refl

module _ (s : Shape) (width : ℕ) (text : List ℕ) (m : HoldMemory ℕ) where
  abbrev asked : Decided
  asked = open_asked s width (length m.held_indices) (length m.held_labels)

  decided_as : hold_open_decided s width text m ≡ and_then asked (open_decided s text m.store)
  unfolding hold_open_decided open_asked shape_asked width_asked tables_asked tables_lent
  decided_as = assoc (shape_asked s) (width_asked width s.capacity) (tables_asked s.capacity s.store_labels (length m.held_indices) (length m.held_labels)) (open_decided s text m.store)

  pub open_refused : (n : ℕ) → asked ≡ refuse n → hold_outcome (refused n) (point_hold no_hold m) ≡ hold_open_spec 0 s width text m
  unfolding hold_open_spec
  open_refused n e = rw (decided_as, e)

  -- the two tables around a store's memory
  abbrev tabled : Memory ℕ → HoldMemory ℕ
  tabled k = record { store = k; held_indices = m.held_indices; held_labels = m.held_labels }

  -- a store's opening as that of the hold around it
  around : Answer → PointStore ℕ → HoldOutcome ℕ
  around (kept i l laid left) p = hold_outcome waiting (fresh_hold width p m)
  around waiting p = hold_outcome waiting (fresh_hold width p m)
  around done p = hold_outcome done (fresh_hold width p m)
  around (is n) p = hold_outcome waiting (fresh_hold width p m)
  around (says b) p = hold_outcome waiting (fresh_hold width p m)
  around (refused n) p = hold_outcome (refused n) (point_hold no_hold (tabled p.memory))
  around (refused_after n k) p = hold_outcome waiting (fresh_hold width p m)

  carried_around : (d : Decided) → (let o = carried_out d (point_store no_record m.store) (outcome done (opened 0 s text m.store)) in around o.answer o.after) ≡ hold_open_carried_out 0 d s width text m
  unfolding around
  carried_around go = refl
  carried_around (refuse n) = refl

  module _ (e : asked ≡ go) (answer : Result Store Refusal) (k : Memory ℕ) (o : outcome (opened_means answer) (point_store (opened_store answer) k) ≡ open_spec 0 s text m.store) where
    opened_around : around (opened_means answer) (point_store (opened_store answer) k) ≡ hold_open_spec 0 s width text m
    unfolding hold_open_spec open_spec
    opened_around =
        ap (λ (x : Outcome ℕ). around x.answer x.after) o
        ∙ carried_around (open_decided s text m.store)
        ∙ (rw (decided_as, e))

    pub open_done : (r : Store) → answer ≡ Ok r → hold_outcome done (point_hold (record { store = r; width = width; held = 0 }) (tabled k)) ≡ hold_open_spec 0 s width text m
    unfolding around
    open_done r f = sym (ap (λ (x : Result Store Refusal). around (opened_means x) (point_store (opened_store x) k)) f) ∙ opened_around

    pub open_failed : (why : Refusal) → answer ≡ Err why → hold_outcome (refused (number why)) (point_hold no_hold (tabled k)) ≡ hold_open_spec 0 s width text m
    unfolding around
    open_failed why f = sym (ap (λ (x : Result Store Refusal). around (opened_means x) (point_store (opened_store x) k)) f) ∙ opened_around
