-- What a program does that opens a hold and hands each add the record and the memory as the last one left them. Each constructor is
-- one call of the code: its premise is the equation that the call's contract ensures. Adds stand with the last one first.
use Rattle.std.specs.Prelude.{ℕ, List, [], ◌∷◌, ◌≡◌, Option, Result, Ok}
use Rattle.terms.specs.declared.Refusal.{Refusal}
use Rattle.float_bits.specs.Words.{words_equal}
use Rattle.store_definitions.specs.declared.Shape.{Shape}
use Rattle.store_definitions.specs.declared.Kept.{Kept}
use Rattle.store_definitions.specs.Answers.{Answer, added_means}
use Rattle.store_definitions.specs.Lent.{Slice}
use Rattle.hold_definitions.specs.declared.Hold.{Hold}
use Rattle.hold_definitions.specs.Memory.{HoldMemory, PointHold, point_hold}
use Rattle.hold_definitions.specs.Answers.{hold_outcome}
use Rattle.hold_definitions.specs.Opening.{hold_opened, hold_open_spec}
use Rattle.hold_definitions.specs.Adding.{hold_add_spec}
use Rattle.hold_definitions.specs.Lent.{hold_entered, hold_left}
use Rattle.hold_guarantee.specs.Run.{HoldAdd}

-- an opening that was accepted: of a shape, a width and a text of classes over this memory, with the hold that it gave
pub data HoldOpened : Shape → ℕ → List ℕ → HoldMemory ℕ → PointHold ℕ → Type 0 where
  -- hold_opening::open_hold
  opens : (shape : Shape) (width : ℕ) (store last_known_shingle reference_count location index_starts index_ends labels label_attributes label_count label_starts label_ends attributes attribute_count attribute_starts attribute_ends held_indices held_labels class_text : Slice) (answer : Result Hold Refusal) (h : Hold)
      → hold_opened answer (hold_left store last_known_shingle reference_count location index_starts index_ends labels label_attributes label_count label_starts label_ends attributes attribute_count attribute_starts attribute_ends held_indices held_labels) ≡ hold_open_spec 0 shape width class_text.entry (hold_entered store last_known_shingle reference_count location index_starts index_ends labels label_attributes label_count label_starts label_ends attributes attribute_count attribute_starts attribute_ends held_indices held_labels)
      → answer ≡ Ok h
      → HoldOpened shape width class_text.entry (hold_entered store last_known_shingle reference_count location index_starts index_ends labels label_attributes label_count label_starts label_ends attributes attribute_count attribute_starts attribute_ends held_indices held_labels) (point_hold h (hold_left store last_known_shingle reference_count location index_starts index_ends labels label_attributes label_count label_starts label_ends attributes attribute_count attribute_starts attribute_ends held_indices held_labels))

-- the adds made on a hold, their answers, and the hold that they left
pub data HoldRan (start : PointHold ℕ) : List (HoldAdd ℕ) → List Answer → PointHold ℕ → Type 0 where
  none_yet : HoldRan start [] [] start
  -- hold::add
  adds : {before : List (HoldAdd ℕ)} {answers : List Answer} (h after : Hold) (store last_known_shingle reference_count location index_starts index_ends labels label_attributes label_count label_starts label_ends attributes attribute_count attribute_starts attribute_ends held_indices held_labels : Slice) (point : Slice) (label : ℕ) (answer : Result (Option Kept) Refusal)
      → HoldRan start before answers (point_hold h (hold_entered store last_known_shingle reference_count location index_starts index_ends labels label_attributes label_count label_starts label_ends attributes attribute_count attribute_starts attribute_ends held_indices held_labels))
      → hold_outcome (added_means answer) (point_hold after (hold_left store last_known_shingle reference_count location index_starts index_ends labels label_attributes label_count label_starts label_ends attributes attribute_count attribute_starts attribute_ends held_indices held_labels)) ≡ hold_add_spec words_equal 0 (point_hold h (hold_entered store last_known_shingle reference_count location index_starts index_ends labels label_attributes label_count label_starts label_ends attributes attribute_count attribute_starts attribute_ends held_indices held_labels)) point.entry label
      → HoldRan start (record { point = point.entry; code = label } ∷ before) (added_means answer ∷ answers) (point_hold after (hold_left store last_known_shingle reference_count location index_starts index_ends labels label_attributes label_count label_starts label_ends attributes attribute_count attribute_starts attribute_ends held_indices held_labels))
