-- That the premise of each constructor of `Ran` is the equation of the call's contract as the code has it, where the tables stand in
-- structs. t and l are the structs as the call found them, u and k as it left them.
use Rattle.std.specs.Prelude.{ℕ, List, ◌∷◌, ◌≡◌, Option, Result, Ok}
use denote.Triple.Both.{Both}
use Rattle.terms.specs.declared.Refusal.{Refusal}
use Rattle.interval_store_manager.specs.Calls.{go, refuse}
use Rattle.float_bits.specs.Words.{words_equal}
use Rattle.labels.specs.declared.to_take.LabelTaking.{LabelTaking}
use Rattle.labels.specs.declared.to_write.LabelWriting.{LabelWriting}
use Rattle.store_definitions.specs.declared.points.PointTables.{PointTables}
use Rattle.store_definitions.specs.declared.Kept.{Kept}
use Rattle.store_definitions.specs.declared.Shape.{Shape}
use Rattle.store_definitions.specs.Answers.{Answer, added_means}
use Rattle.store_definitions.specs.Lent.{Slice, lent_taking, lent_writing}
use Rattle.probes_definitions.specs.declared.Probes.{Probes}
use Rattle.probes_definitions.specs.declared.Reading.{Reading}
use Rattle.probes_definitions.specs.Answers.{probes_outcome}
use Rattle.probes_definitions.specs.Memory.{PointProbes, point_probes}
use Rattle.probes_definitions.specs.Opening.{probes_opened, probes_open_spec}
use Rattle.probes_definitions.specs.Readings.{of_kinds, of_floats}
use Rattle.probes_definitions.specs.Setting.{kinds_decided, set_spec, set_kinds_spec}
use Rattle.probes_guarantee.specs.Run.{ProbeSet}
use Rattle.probes_guarantee.specs.Ran.{ProbesOpened, opens, ProbesRan, sets, sets_words, no_set}

abbrev both : {X : Type 0} → X → X → Both X X
both a b = record { entry = a; exit = b }

-- probes_opening::open_probes
pub open_opened : (store window : Slice) (t u : PointTables) (l k : LabelWriting) (shape : Shape) (class_text : Slice) (answer : Result Probes Refusal) (p : Probes)
    → probes_opened answer (lent_writing store.exit window.exit u k) ≡ probes_open_spec 0 shape class_text.entry (lent_writing store.entry window.entry t l)
    → answer ≡ Ok p
    → ProbesOpened shape class_text.entry (lent_writing store.entry window.entry t l) (point_probes p (lent_writing store.exit window.exit u k))
open_opened store window t u l k shape class_text answer p e f = opens shape store window (both t.reference_count.now u.reference_count.now) (both t.location.now u.location.now) (both t.index_starts.now u.index_starts.now) (both t.index_ends.now u.index_ends.now) (both l.labels.now k.labels.now) (both l.label_attributes.now k.label_attributes.now) (both l.label_count.now k.label_count.now) (both l.label_starts.now k.label_starts.now) (both l.label_ends.now k.label_ends.now) (both l.attributes.now k.attributes.now) (both l.attribute_count.now k.attribute_count.now) (both l.attribute_starts.now k.attribute_starts.now) (both l.attribute_ends.now k.attribute_ends.now) class_text answer p e f

module _ {start : PointProbes ℕ} {before : List (ProbeSet ℕ)} {answers : List Answer} (store window : Slice) (t u : PointTables) (l k : LabelTaking) (p after : Probes) (r : ProbesRan start before answers (point_probes p (lent_taking store.entry window.entry t l))) (label : ℕ) (answer : Result (Option Kept) Refusal) where
  -- probes::set
  pub set_ran : (readings : List Reading)
      → probes_outcome (added_means answer) (point_probes after (lent_taking store.exit window.exit u k)) ≡ set_spec words_equal 0 (point_probes p (lent_taking store.entry window.entry t l)) (of_floats readings) label
      → ProbesRan start (record { readings = of_floats readings; code = label } ∷ before) (added_means answer ∷ answers) (point_probes after (lent_taking store.exit window.exit u k))
  set_ran readings e = sets p after store window (both t.reference_count.now u.reference_count.now) (both t.location.now u.location.now) (both t.index_starts.now u.index_starts.now) (both t.index_ends.now u.index_ends.now) (both l.labels.now k.labels.now) (both l.label_attributes.now k.label_attributes.now) (both l.label_count.now k.label_count.now) (both l.label_starts.now k.label_starts.now) (both l.label_ends.now k.label_ends.now) (both l.attributes.now k.attributes.now) (both l.attribute_count.now k.attribute_count.now) (both l.attribute_starts.now k.attribute_starts.now) (both l.attribute_ends.now k.attribute_ends.now) readings label answer r e

  -- probes::set_words, where kinds and lengths are a set's and where they are not
  module _ (kinds words : Slice) (e : probes_outcome (added_means answer) (point_probes after (lent_taking store.exit window.exit u k)) ≡ set_kinds_spec words_equal 0 (point_probes p (lent_taking store.entry window.entry t l)) kinds.entry words.entry label) where
    pub words_ran : kinds_decided kinds.entry words.entry ≡ go → ProbesRan start (record { readings = of_kinds kinds.entry words.entry; code = label } ∷ before) (added_means answer ∷ answers) (point_probes after (lent_taking store.exit window.exit u k))
    words_ran d = sets_words p after store window (both t.reference_count.now u.reference_count.now) (both t.location.now u.location.now) (both t.index_starts.now u.index_starts.now) (both t.index_ends.now u.index_ends.now) (both l.labels.now k.labels.now) (both l.label_attributes.now k.label_attributes.now) (both l.label_count.now k.label_count.now) (both l.label_starts.now k.label_starts.now) (both l.label_ends.now k.label_ends.now) (both l.attributes.now k.attributes.now) (both l.attribute_count.now k.attribute_count.now) (both l.attribute_starts.now k.attribute_starts.now) (both l.attribute_ends.now k.attribute_ends.now) kinds words label answer r e d

    pub words_refused : (n : ℕ) → kinds_decided kinds.entry words.entry ≡ refuse n → ProbesRan start before answers (point_probes after (lent_taking store.exit window.exit u k))
    words_refused n d = no_set p after store window (both t.reference_count.now u.reference_count.now) (both t.location.now u.location.now) (both t.index_starts.now u.index_starts.now) (both t.index_ends.now u.index_ends.now) (both l.labels.now k.labels.now) (both l.label_attributes.now k.label_attributes.now) (both l.label_count.now k.label_count.now) (both l.label_starts.now k.label_starts.now) (both l.label_ends.now k.label_ends.now) (both l.attributes.now k.attributes.now) (both l.attribute_count.now k.attribute_count.now) (both l.attribute_starts.now k.attribute_starts.now) (both l.attribute_ends.now k.attribute_ends.now) kinds words label answer r e n d
