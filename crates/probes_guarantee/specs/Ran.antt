-- What a program does that opens a product and hands each set the record and the memory as the last one left them. Each constructor
-- is one call of the code: its premise is the equation that the call's contract ensures. Sets stand with the last one first.
use Rattle.std.specs.Prelude.{ℕ, List, [], ◌∷◌, ◌≡◌, Option, Result, Ok}
use Rattle.terms.specs.declared.Refusal.{Refusal}
use Rattle.interval_store_manager.specs.Calls.{go, refuse}
use Rattle.float_bits.specs.Words.{words_equal}
use Rattle.store_definitions.specs.declared.Shape.{Shape}
use Rattle.store_definitions.specs.declared.Kept.{Kept}
use Rattle.store_definitions.specs.Memory.{Memory}
use Rattle.store_definitions.specs.Answers.{Answer, added_means}
use Rattle.store_definitions.specs.Lent.{Slice, entered, left}
use Rattle.probes_definitions.specs.declared.Probes.{Probes}
use Rattle.probes_definitions.specs.declared.Reading.{Reading}
use Rattle.probes_definitions.specs.Memory.{PointProbes, point_probes}
use Rattle.probes_definitions.specs.Answers.{probes_outcome}
use Rattle.probes_definitions.specs.Readings.{of_kinds, of_floats}
use Rattle.probes_definitions.specs.Opening.{probes_opened, probes_open_spec}
use Rattle.probes_definitions.specs.Setting.{kinds_decided, set_spec, set_kinds_spec}
use Rattle.probes_guarantee.specs.Run.{ProbeSet}

-- an opening that was accepted: of a shape over this memory, with the product that it gave
pub data ProbesOpened : Shape → List ℕ → Memory ℕ → PointProbes ℕ → Type 0 where
  -- probes_opening::open_probes
  opens : (shape : Shape) (store last_known_shingle reference_count location index_starts index_ends labels label_attributes label_count label_starts label_ends attributes attribute_count attribute_starts attribute_ends class_text : Slice) (answer : Result Probes Refusal) (p : Probes)
      → probes_opened answer (left store last_known_shingle reference_count location index_starts index_ends labels label_attributes label_count label_starts label_ends attributes attribute_count attribute_starts attribute_ends) ≡ probes_open_spec 0 shape class_text.entry (entered store last_known_shingle reference_count location index_starts index_ends labels label_attributes label_count label_starts label_ends attributes attribute_count attribute_starts attribute_ends)
      → answer ≡ Ok p
      → ProbesOpened shape class_text.entry (entered store last_known_shingle reference_count location index_starts index_ends labels label_attributes label_count label_starts label_ends attributes attribute_count attribute_starts attribute_ends) (point_probes p (left store last_known_shingle reference_count location index_starts index_ends labels label_attributes label_count label_starts label_ends attributes attribute_count attribute_starts attribute_ends))

-- the sets taken by a product, their answers, and the product that they left
pub data ProbesRan (start : PointProbes ℕ) : List (ProbeSet ℕ) → List Answer → PointProbes ℕ → Type 0 where
  none_yet : ProbesRan start [] [] start
  -- probes::set
  sets : {before : List (ProbeSet ℕ)} {answers : List Answer} (p after : Probes) (store last_known_shingle reference_count location index_starts index_ends labels label_attributes label_count label_starts label_ends attributes attribute_count attribute_starts attribute_ends : Slice) (readings : List Reading) (label : ℕ) (answer : Result (Option Kept) Refusal)
      → ProbesRan start before answers (point_probes p (entered store last_known_shingle reference_count location index_starts index_ends labels label_attributes label_count label_starts label_ends attributes attribute_count attribute_starts attribute_ends))
      → probes_outcome (added_means answer) (point_probes after (left store last_known_shingle reference_count location index_starts index_ends labels label_attributes label_count label_starts label_ends attributes attribute_count attribute_starts attribute_ends)) ≡ set_spec words_equal 0 (point_probes p (entered store last_known_shingle reference_count location index_starts index_ends labels label_attributes label_count label_starts label_ends attributes attribute_count attribute_starts attribute_ends)) (of_floats readings) label
      → ProbesRan start (record { readings = of_floats readings; code = label } ∷ before) (added_means answer ∷ answers) (point_probes after (left store last_known_shingle reference_count location index_starts index_ends labels label_attributes label_count label_starts label_ends attributes attribute_count attribute_starts attribute_ends))
  -- probes::set_words
  sets_words : {before : List (ProbeSet ℕ)} {answers : List Answer} (p after : Probes) (store last_known_shingle reference_count location index_starts index_ends labels label_attributes label_count label_starts label_ends attributes attribute_count attribute_starts attribute_ends : Slice) (kinds words : Slice) (label : ℕ) (answer : Result (Option Kept) Refusal)
      → ProbesRan start before answers (point_probes p (entered store last_known_shingle reference_count location index_starts index_ends labels label_attributes label_count label_starts label_ends attributes attribute_count attribute_starts attribute_ends))
      → probes_outcome (added_means answer) (point_probes after (left store last_known_shingle reference_count location index_starts index_ends labels label_attributes label_count label_starts label_ends attributes attribute_count attribute_starts attribute_ends)) ≡ set_kinds_spec words_equal 0 (point_probes p (entered store last_known_shingle reference_count location index_starts index_ends labels label_attributes label_count label_starts label_ends attributes attribute_count attribute_starts attribute_ends)) kinds.entry words.entry label
      → kinds_decided kinds.entry words.entry ≡ go
      → ProbesRan start (record { readings = of_kinds kinds.entry words.entry; code = label } ∷ before) (added_means answer ∷ answers) (point_probes after (left store last_known_shingle reference_count location index_starts index_ends labels label_attributes label_count label_starts label_ends attributes attribute_count attribute_starts attribute_ends))
  -- the same call with kinds or lengths that are no set's: it is refused
  no_set : {before : List (ProbeSet ℕ)} {answers : List Answer} (p after : Probes) (store last_known_shingle reference_count location index_starts index_ends labels label_attributes label_count label_starts label_ends attributes attribute_count attribute_starts attribute_ends : Slice) (kinds words : Slice) (label : ℕ) (answer : Result (Option Kept) Refusal)
      → ProbesRan start before answers (point_probes p (entered store last_known_shingle reference_count location index_starts index_ends labels label_attributes label_count label_starts label_ends attributes attribute_count attribute_starts attribute_ends))
      → probes_outcome (added_means answer) (point_probes after (left store last_known_shingle reference_count location index_starts index_ends labels label_attributes label_count label_starts label_ends attributes attribute_count attribute_starts attribute_ends)) ≡ set_kinds_spec words_equal 0 (point_probes p (entered store last_known_shingle reference_count location index_starts index_ends labels label_attributes label_count label_starts label_ends attributes attribute_count attribute_starts attribute_ends)) kinds.entry words.entry label
      → (n : ℕ) → kinds_decided kinds.entry words.entry ≡ refuse n
      → ProbesRan start before answers (point_probes after (left store last_known_shingle reference_count location index_starts index_ends labels label_attributes label_count label_starts label_ends attributes attribute_count attribute_starts attribute_ends))
