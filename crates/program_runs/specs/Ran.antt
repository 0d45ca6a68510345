-- What a program does that opens a store and hands each call the record and the memory as the last one left them. Each constructor
-- is one call of the code: its premise is the equation that the call's contract ensures, of the result, the record and the lent slices
-- as they were when the call began and when it ended. Calls stand with the last one first.
use Rattle.std.specs.Prelude.{ℕ, List, [], ◌∷◌, ◌≡◌, Option, Result, Ok}
use denote.Triple.Both.{Both}
use Rattle.terms.specs.declared.PointIndex.{PointIndex}
use Rattle.terms.specs.declared.LabelIndex.{LabelIndex}
use Rattle.terms.specs.declared.Refusal.{Refusal}
use Rattle.float_bits.specs.Words.{words_equal}
use Rattle.store_definitions.specs.declared.Store.{Store}
use Rattle.store_definitions.specs.declared.Shape.{Shape}
use Rattle.store_definitions.specs.declared.Pair.{Pair}
use Rattle.store_definitions.specs.declared.AdjustRefusal.{AdjustRefusal}
use Rattle.store_definitions.specs.declared.Kept.{Kept}
use Rattle.store_definitions.specs.Memory.{Memory, PointStore, point_store}
use Rattle.store_definitions.specs.Answers.{Answer, added_means, done_means, opened_means, adjusted_means, outcome}
use Rattle.store_definitions.specs.Lent.{Slice, entered, left}
use Rattle.store_definitions.specs.Opening.{opened_store, open_spec}
use Rattle.store_definitions.specs.Adding.{add_spec}
use Rattle.store_definitions.specs.Counting.{inc_spec, dec_spec, adjust_spec}
use Rattle.store_definitions.specs.Rows.{compact_spec}
use Rattle.store_adjust.specs.Pairs.{pairings, pairings_of}
use Rattle.guarantee.specs.Run.{Call, add, inc, dec, adjust, compact}

abbrev pub SliceOf : Type 0 → Type 0
SliceOf X = Both (List X) (List X)

-- an opening that was accepted: of a shape with a text of classes over this memory, with the store that it gave
pub data Opened : Shape → (text : List ℕ) → Memory ℕ → PointStore ℕ → Type 0 where
  -- store_rows::open
  opens : (shape : Shape) (store last_known_shingle reference_count location index_starts index_ends labels label_attributes label_count label_starts label_ends attributes attribute_count attribute_starts attribute_ends class_text : Slice) (answer : Result Store Refusal) (s : Store)
      → outcome (opened_means answer) (point_store (opened_store answer) (left store last_known_shingle reference_count location index_starts index_ends labels label_attributes label_count label_starts label_ends attributes attribute_count attribute_starts attribute_ends)) ≡ open_spec 0 shape class_text.entry (entered store last_known_shingle reference_count location index_starts index_ends labels label_attributes label_count label_starts label_ends attributes attribute_count attribute_starts attribute_ends)
      → answer ≡ Ok s
      → Opened shape class_text.entry (entered store last_known_shingle reference_count location index_starts index_ends labels label_attributes label_count label_starts label_ends attributes attribute_count attribute_starts attribute_ends) (point_store s (left store last_known_shingle reference_count location index_starts index_ends labels label_attributes label_count label_starts label_ends attributes attribute_count attribute_starts attribute_ends))

-- the calls made on a store, their answers, and the store that they left
pub data Ran (start : PointStore ℕ) : List (Call ℕ) → List Answer → PointStore ℕ → Type 0 where
  none_yet : Ran start [] [] start
  -- store_add::add
  adds : {calls : List (Call ℕ)} {answers : List Answer} (s after : Store) (store last_known_shingle reference_count location index_starts index_ends labels label_attributes label_count label_starts label_ends attributes attribute_count attribute_starts attribute_ends : Slice) (point : Slice) (label : ℕ) (answer : Result (Option Kept) Refusal)
      → Ran start calls answers (point_store s (entered store last_known_shingle reference_count location index_starts index_ends labels label_attributes label_count label_starts label_ends attributes attribute_count attribute_starts attribute_ends))
      → outcome (added_means answer) (point_store after (left store last_known_shingle reference_count location index_starts index_ends labels label_attributes label_count label_starts label_ends attributes attribute_count attribute_starts attribute_ends)) ≡ add_spec words_equal 0 (point_store s (entered store last_known_shingle reference_count location index_starts index_ends labels label_attributes label_count label_starts label_ends attributes attribute_count attribute_starts attribute_ends)) point.entry label
      → Ran start (add point.entry label ∷ calls) (added_means answer ∷ answers) (point_store after (left store last_known_shingle reference_count location index_starts index_ends labels label_attributes label_count label_starts label_ends attributes attribute_count attribute_starts attribute_ends))
  -- store_counts::inc
  incs : {calls : List (Call ℕ)} {answers : List Answer} (s : Store) (store last_known_shingle reference_count location index_starts index_ends labels label_attributes label_count label_starts label_ends attributes attribute_count attribute_starts attribute_ends : Slice) (index : PointIndex) (label : LabelIndex) (answer : Result Unit Refusal)
      → Ran start calls answers (point_store s (entered store last_known_shingle reference_count location index_starts index_ends labels label_attributes label_count label_starts label_ends attributes attribute_count attribute_starts attribute_ends))
      → outcome (done_means answer) (point_store s (left store last_known_shingle reference_count location index_starts index_ends labels label_attributes label_count label_starts label_ends attributes attribute_count attribute_starts attribute_ends)) ≡ inc_spec (point_store s (entered store last_known_shingle reference_count location index_starts index_ends labels label_attributes label_count label_starts label_ends attributes attribute_count attribute_starts attribute_ends)) index.0 label.0
      → Ran start (inc index.0 label.0 ∷ calls) (done_means answer ∷ answers) (point_store s (left store last_known_shingle reference_count location index_starts index_ends labels label_attributes label_count label_starts label_ends attributes attribute_count attribute_starts attribute_ends))
  -- store_counts::dec
  decs : {calls : List (Call ℕ)} {answers : List Answer} (s after : Store) (store last_known_shingle reference_count location index_starts index_ends labels label_attributes label_count label_starts label_ends attributes attribute_count attribute_starts attribute_ends : Slice) (index : PointIndex) (label : LabelIndex) (answer : Result Unit Refusal)
      → Ran start calls answers (point_store s (entered store last_known_shingle reference_count location index_starts index_ends labels label_attributes label_count label_starts label_ends attributes attribute_count attribute_starts attribute_ends))
      → outcome (done_means answer) (point_store after (left store last_known_shingle reference_count location index_starts index_ends labels label_attributes label_count label_starts label_ends attributes attribute_count attribute_starts attribute_ends)) ≡ dec_spec (point_store s (entered store last_known_shingle reference_count location index_starts index_ends labels label_attributes label_count label_starts label_ends attributes attribute_count attribute_starts attribute_ends)) index.0 label.0
      → Ran start (dec index.0 label.0 ∷ calls) (done_means answer ∷ answers) (point_store after (left store last_known_shingle reference_count location index_starts index_ends labels label_attributes label_count label_starts label_ends attributes attribute_count attribute_starts attribute_ends))
  -- store_adjust_pairs::adjust_count
  adjusts : {calls : List (Call ℕ)} {answers : List Answer} (s after : Store) (store last_known_shingle reference_count location index_starts index_ends labels label_attributes label_count label_starts label_ends attributes attribute_count attribute_starts attribute_ends : Slice) (pairs : SliceOf Pair) (answer : Result Unit AdjustRefusal)
      → Ran start calls answers (point_store s (entered store last_known_shingle reference_count location index_starts index_ends labels label_attributes label_count label_starts label_ends attributes attribute_count attribute_starts attribute_ends))
      → outcome (adjusted_means answer) (point_store after (left store last_known_shingle reference_count location index_starts index_ends labels label_attributes label_count label_starts label_ends attributes attribute_count attribute_starts attribute_ends)) ≡ adjust_spec (point_store s (entered store last_known_shingle reference_count location index_starts index_ends labels label_attributes label_count label_starts label_ends attributes attribute_count attribute_starts attribute_ends)) (pairings_of pairs.entry)
      → Ran start (adjust (pairings_of pairs.entry) ∷ calls) (adjusted_means answer ∷ answers) (point_store after (left store last_known_shingle reference_count location index_starts index_ends labels label_attributes label_count label_starts label_ends attributes attribute_count attribute_starts attribute_ends))
  -- store_adjust::adjust_plain
  adjusts_plain : {calls : List (Call ℕ)} {answers : List Answer} (s after : Store) (store last_known_shingle reference_count location index_starts index_ends labels label_attributes label_count label_starts label_ends attributes attribute_count attribute_starts attribute_ends : Slice) (pairs : SliceOf (List ℕ)) (answer : Result Unit AdjustRefusal)
      → Ran start calls answers (point_store s (entered store last_known_shingle reference_count location index_starts index_ends labels label_attributes label_count label_starts label_ends attributes attribute_count attribute_starts attribute_ends))
      → outcome (adjusted_means answer) (point_store after (left store last_known_shingle reference_count location index_starts index_ends labels label_attributes label_count label_starts label_ends attributes attribute_count attribute_starts attribute_ends)) ≡ adjust_spec (point_store s (entered store last_known_shingle reference_count location index_starts index_ends labels label_attributes label_count label_starts label_ends attributes attribute_count attribute_starts attribute_ends)) (pairings pairs.entry)
      → Ran start (adjust (pairings pairs.entry) ∷ calls) (adjusted_means answer ∷ answers) (point_store after (left store last_known_shingle reference_count location index_starts index_ends labels label_attributes label_count label_starts label_ends attributes attribute_count attribute_starts attribute_ends))
  -- store_rows::compact
  compacts : {calls : List (Call ℕ)} {answers : List Answer} (s after : Store) (store last_known_shingle reference_count location index_starts index_ends labels label_attributes label_count label_starts label_ends attributes attribute_count attribute_starts attribute_ends : Slice) (answer : Result Unit Refusal)
      → Ran start calls answers (point_store s (entered store last_known_shingle reference_count location index_starts index_ends labels label_attributes label_count label_starts label_ends attributes attribute_count attribute_starts attribute_ends))
      → outcome (done_means answer) (point_store after (left store last_known_shingle reference_count location index_starts index_ends labels label_attributes label_count label_starts label_ends attributes attribute_count attribute_starts attribute_ends)) ≡ compact_spec 0 (point_store s (entered store last_known_shingle reference_count location index_starts index_ends labels label_attributes label_count label_starts label_ends attributes attribute_count attribute_starts attribute_ends))
      → Ran start (compact ∷ calls) (done_means answer ∷ answers) (point_store after (left store last_known_shingle reference_count location index_starts index_ends labels label_attributes label_count label_starts label_ends attributes attribute_count attribute_starts attribute_ends))
