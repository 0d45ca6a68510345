-- From what a call of the store ensures to what the exported call owes, for any of the definitions f.
use Rattle.std.specs.Prelude.{ℕ, Bool, true, false, cond, ◌≡◌, refl, Result, Ok, Err}
use Rattle.std.specs.Result.{MatchResult, IsOkAnd}
use mathlib.Core.List.{List, []}
use Rattle.std.proofs.Common.{sym, ◌∙◌}
use Rattle.std.proofs.Math.Path.{ap}
use mir.Val.{bool_byte}
use Rattle.terms.specs.declared.Refusal.{Refusal}
use Rattle.interval_store_manager.specs.Calls.{Decided, go, refuse}
use Rattle.labels.specs.Counted.{raised}
use Rattle.labels.specs.Labels.{label_raised}
use Rattle.store_definitions.specs.declared.Store.{Store}
use Rattle.store_definitions.specs.Answers.{Answer, done, refused, number_means, equality_means, Outcome, outcome, output}
use Rattle.store_definitions.specs.Counting.{inc_test, incremented, inc_spec}
use Rattle.store_definitions.specs.Decisions.{and_then, form_decided, carried_out}
use Rattle.store_definitions.specs.Memory.{Memory, PointStore, point_store}
use Rattle.store_definitions.specs.Parts.{point_table, label_half, with_points, with_labels}
use Rattle.point_store_c.specs.Records.{store_in, recorded}
use Rattle.point_store_c.proofs.RecordLaws.{record_kept}
use Rattle.point_store_c.specs.ExportedStore.{exported, exported_call, Read, read, exported_reading, written, exported_output}

-- lent memory by its lists, in the order of the slices
abbrev pub memory : (store window counts location starts ends labels slots label_counts label_starts label_ends classes slot_counts slot_starts slot_ends : List ℕ) → Memory ℕ
memory store window counts location starts ends labels slots label_counts label_starts label_ends classes slot_counts slot_starts slot_ends =
    record {
      store = store;
      last_known_shingle = window;
      reference_count = counts;
      location = location;
      index_starts = starts;
      index_ends = ends;
      labels = labels;
      label_attributes = slots;
      label_count = label_counts;
      label_starts = label_starts;
      label_ends = label_ends;
      attributes = classes;
      attribute_count = slot_counts;
      attribute_starts = slot_starts;
      attribute_ends = slot_ends;
    }

-- a refusal that leaves the store leaves the caller's record, numbers and memory
pub refusal_leaves : (words xs : List ℕ) (m : Memory ℕ) (n : ℕ) → exported_call words xs (outcome (refused n) (point_store (store_in words) m)) ≡ exported n words xs m
unfolding exported_call
refusal_leaves words xs m n = ap (λ (l : List ℕ). exported n l xs m) (record_kept words)

module _ (words : List ℕ) (m : Memory ℕ) (s : Store) (read_in : s ≡ store_in words) where
  module _ (f : PointStore ℕ → Outcome ℕ) (a : Answer) (after : Store) (m' : Memory ℕ) (ensures : outcome a (point_store after m') ≡ f (point_store s m)) where
    -- a call that changes the record
    pub call_exported : (xs ys : List ℕ) (n : ℕ) (words' : List ℕ) → words' ≡ recorded words after → read n ys ≡ exported_reading xs a → exported n words' ys m' ≡ exported_call words xs (f (point_store (store_in words) m))
    unfolding exported_reading exported_call
    call_exported xs ys n words' w e =
        ap (λ (l : List ℕ). exported n l ys m') w
        ∙ ap (λ (r : Read). exported r.value (recorded words after) r.numbers m') e
        ∙ ap (exported_call words xs) (ensures ∙ ap (λ (t : Store). f (point_store t m)) read_in)

    -- one that leaves it
    pub call_kept : (xs ys : List ℕ) (n : ℕ) → (f (point_store s m)).after.header ≡ s → read n ys ≡ exported_reading xs a → exported n words ys m' ≡ exported_call words xs (f (point_store (store_in words) m))
    call_kept xs ys n h e =
        let same : after ≡ store_in words = ap (λ (o : Outcome ℕ). o.after.header) ensures ∙ h ∙ read_in in
        call_exported xs ys n words (sym (record_kept words) ∙ ap (recorded words) (sym same)) e

-- an answer that has an output is read without a lent number
pub output_read : {X : Type 0} (a : Answer) (out : List X) (n : ℕ) → read n [] ≡ exported_reading [] a → written n out ≡ exported_output (output a out)
unfolding exported_reading exported_output
output_read a out n e = ap (λ (r : Read). written r.value out) e

-- a truth value is lent as a number
pub truth_as_number : (r : Result Bool Refusal) (k : Result ℕ Refusal) → MatchResult r (λ b. IsOkAnd k (λ n. n ≡ bool_byte b)) (λ e. k ≡ Err e) → (xs : List ℕ) → exported_reading xs (number_means k) ≡ exported_reading xs (equality_means r)
unfolding exported_reading
truth_as_number (Ok true) (Ok n) e xs = rw e
truth_as_number (Ok false) (Ok n) e xs = rw e
truth_as_number (Ok b) (Err why) e xs = absurd e
truth_as_number (Err why) k e xs = rw e

-- an answer with the store after the call, read with the lent numbers
pub call_read : {a : Answer} {after : Store} {m : Memory ℕ} {o : Outcome ℕ} → outcome a (point_store after m) ≡ o → (words xs ys : List ℕ) (n : ℕ) → read n ys ≡ exported_reading xs a → exported n (recorded words after) ys m ≡ exported_call words xs o
unfolding exported_reading exported_call
call_read {a = a} {after = after} {m = m} ensures words xs ys n e =
    ap (λ (r : Read). exported r.value (recorded words after) r.numbers m) e ∙ ap (exported_call words xs) ensures

-- inc changes counts alone
pub inc_keeps : (p : PointStore ℕ) (i l : ℕ) → (inc_spec p i l).after.header ≡ p.header
unfolding inc_spec incremented raised label_raised
inc_keeps p i l = carried (and_then (form_decided p) (inc_test p i l))
  where
    raised_keeps : (b : Bool) → (cond b (with_labels (label_raised (label_half p) l) (with_points (raised (point_table p) i) p.memory.location p)) (with_points (raised (point_table p) i) p.memory.location p)).header ≡ p.header
    raised_keeps true = refl
    raised_keeps false = refl

    carried : (d : Decided) → (carried_out d p (outcome done (incremented p i l))).after.header ≡ p.header
    carried go = raised_keeps p.header.store_labels
    carried (refuse n) = refl
