-- That the premise of each constructor of `Ran` is the equation of the call's contract as the code has it, where the tables stand in
-- structs. t and l are the structs as the call found them, u and k as it left them.
use Rattle.std.specs.Prelude.{ℕ, List, ◌∷◌, ◌≡◌, Option, Result, Ok}
use denote.Triple.Both.{Both}
use Rattle.terms.specs.declared.Refusal.{Refusal}
use Rattle.float_bits.specs.Words.{words_equal}
use Rattle.labels.specs.declared.to_write.LabelWriting.{LabelWriting}
use Rattle.store_definitions.specs.declared.points.PointTables.{PointTables}
use Rattle.store_definitions.specs.declared.Kept.{Kept}
use Rattle.store_definitions.specs.declared.Shape.{Shape}
use Rattle.store_definitions.specs.Answers.{Answer, added_means}
use Rattle.store_definitions.specs.Lent.{Slice, lent_writing}
use Rattle.hold_definitions.specs.declared.Hold.{Hold}
use Rattle.hold_definitions.specs.Adding.{hold_add_spec}
use Rattle.hold_definitions.specs.Answers.{hold_outcome}
use Rattle.hold_definitions.specs.Lent.{hold_memory}
use Rattle.hold_definitions.specs.Memory.{HoldMemory, PointHold, point_hold}
use Rattle.hold_definitions.specs.Opening.{hold_opened, hold_open_spec}
use Rattle.hold_guarantee.specs.Run.{HoldAdd}
use Rattle.hold_guarantee.specs.Ran.{HoldOpened, opens, HoldRan, adds}

abbrev both : {X : Type 0} → X → X → Both X X
both a b = record { entry = a; exit = b }

module _ (store window held_indices held_labels : Slice) (t u : PointTables) (l k : LabelWriting) where
  abbrev found : HoldMemory ℕ
  found = hold_memory (lent_writing store.entry window.entry t l) held_indices.entry held_labels.entry

  -- hold_opening::open_hold, to which the two tables of the list are lent for reading
  pub open_opened : (shape : Shape) (width : ℕ) (class_text : Slice) (answer : Result Hold Refusal) (h : Hold)
      → hold_opened answer (hold_memory (lent_writing store.exit window.exit u k) held_indices.entry held_labels.entry) ≡ hold_open_spec 0 shape width class_text.entry found
      → answer ≡ Ok h
      → HoldOpened shape width class_text.entry found (point_hold h (hold_memory (lent_writing store.exit window.exit u k) held_indices.entry held_labels.entry))
  open_opened shape width class_text answer h e f = opens shape width store window (both t.reference_count.now u.reference_count.now) (both t.location.now u.location.now) (both t.index_starts.now u.index_starts.now) (both t.index_ends.now u.index_ends.now) (both l.labels.now k.labels.now) (both l.label_attributes.now k.label_attributes.now) (both l.label_count.now k.label_count.now) (both l.label_starts.now k.label_starts.now) (both l.label_ends.now k.label_ends.now) (both l.attributes.now k.attributes.now) (both l.attribute_count.now k.attribute_count.now) (both l.attribute_starts.now k.attribute_starts.now) (both l.attribute_ends.now k.attribute_ends.now) (both held_indices.entry held_indices.entry) (both held_labels.entry held_labels.entry) class_text answer h e f

  abbrev after_it : HoldMemory ℕ
  after_it = hold_memory (lent_writing store.exit window.exit u k) held_indices.exit held_labels.exit

  -- hold::add
  pub add_ran : {start : PointHold ℕ} {before : List (HoldAdd ℕ)} {answers : List Answer} (h after : Hold) (point : Slice) (label : ℕ) (answer : Result (Option Kept) Refusal)
      → HoldRan start before answers (point_hold h found)
      → hold_outcome (added_means answer) (point_hold after after_it) ≡ hold_add_spec words_equal 0 (point_hold h found) point.entry label
      → HoldRan start (record { point = point.entry; code = label } ∷ before) (added_means answer ∷ answers) (point_hold after after_it)
  add_ran h after point label answer r e = adds h after store window (both t.reference_count.now u.reference_count.now) (both t.location.now u.location.now) (both t.index_starts.now u.index_starts.now) (both t.index_ends.now u.index_ends.now) (both l.labels.now k.labels.now) (both l.label_attributes.now k.label_attributes.now) (both l.label_count.now k.label_count.now) (both l.label_starts.now k.label_starts.now) (both l.label_ends.now k.label_ends.now) (both l.attributes.now k.attributes.now) (both l.attribute_count.now k.attribute_count.now) (both l.attribute_starts.now k.attribute_starts.now) (both l.attribute_ends.now k.attribute_ends.now) held_indices held_labels point label answer r e
