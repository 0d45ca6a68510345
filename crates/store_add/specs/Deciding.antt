-- An add's decision once the store is known to be well-formed: of the record, the point's length and the code alone.
use Rattle.std.specs.Prelude.{ℕ, ◌≤◌, ◌<◌, true, false, cond, not, List, ◌≡◌, length, eqb, Result, Ok, Err}
use Rattle.terms.specs.declared.Refusal.{Refusal}
use Rattle.terms.specs.Refusals.{number}
use Rattle.labels.specs.Decisions.{code_decided, room_decided}
use Rattle.store_definitions.specs.declared.Store.{Store}
use Rattle.store_definitions.specs.Memory.{PointStore}
use Rattle.store_definitions.specs.Decisions.{and_then, refuse_if, form_decided}
use Rattle.store_definitions.specs.Adding.{point_length, waits, table_full, AddDecided, keep, wait, refuse_add, then_add, add_decided}
use Rattle.store_definitions.specs.WellFormed.{well_formed}
use Rattle.store_definitions.specs.Parts.{table_length}
use Rattle.store_laws.specs.Sound.{sound}
use Rattle.store_definitions.specs.declared.Kept.{Kept}
use Rattle.store_definitions.specs.Answers.{Answer, kept, refused}
use Rattle.store_add.specs.declared.decide.AddStep.{AddStep}
use Rattle.store_add.specs.declared.decide.AddStep.TheVariants.{Keep, Wait}

abbrev pub decision_means : Result AddStep Refusal → AddDecided
decision_means (Ok Keep) = keep
decision_means (Ok Wait) = wait
decision_means (Err r) = refuse_add (number r)

-- an add that keeps its point if there is room for the row
abbrev pub kept_means : Result Kept Refusal → Answer
kept_means (Ok k) = kept k.index.0 k.label.0 k.laid k.free_indices
kept_means (Err r) = refused (number r)

-- '8, 9' of an add that does not wait
unfoldable pub keep_asked : Store → AddDecided
keep_asked s = cond (waits s) wait (then_add (and_then (room_decided s.store_labels s.label_manager) (refuse_if (table_full s) 9)) keep)

-- of a well-formed store: '3, 12, 4 and, if kept, 8, 9'
unfoldable pub add_asked : Store → (length code : ℕ) → AddDecided
add_asked s n code =
    then_add
    (and_then (refuse_if (not (eqb n (point_length s))) 3)
    (and_then (refuse_if (eqb s.next_sequence_index 4294967295) 12) (code_decided s.store_labels code)))
    (keep_asked s)

module _ {E : Type 0} (p : PointStore E) (point : List E) (code : ℕ) where
  pub asked_well : well_formed p ≡ true → add_decided p point code ≡ add_asked p.header (length point) code
  unfolding add_decided add_asked keep_asked form_decided
  asked_well e = rw e

  pub asked_ill : well_formed p ≡ false → add_decided p point code ≡ refuse_add 1
  unfolding add_decided form_decided
  asked_ill e = rw e

-- what the decision asks of a well-formed store
pub decision_asks : {E : Type 0} (p : PointStore E) → well_formed p ≡ true → (0 < p.header.shingle_size) × (table_length p.header ≤ p.header.capacity)
decision_asks p e = let w = sound p e in (w.bounds.shingle_least, w.table_within)
