-- That the premise of each constructor of `Ran` is the equation of the call's contract as the code has it, where the tables stand in
-- structs. p and l are the structs as the call found them, q and k as it left them.
use Rattle.std.specs.Prelude.{ℕ, List, ◌∷◌, ◌≡◌, Option, Result, Ok}
use denote.Triple.Both.{Both}
use Rattle.terms.specs.declared.PointIndex.{PointIndex}
use Rattle.terms.specs.declared.LabelIndex.{LabelIndex}
use Rattle.terms.specs.declared.Refusal.{Refusal}
use Rattle.float_bits.specs.Words.{words_equal}
use Rattle.labels.specs.declared.to_take.LabelTaking.{LabelTaking}
use Rattle.labels.specs.declared.to_raise.LabelRaising.{LabelRaising}
use Rattle.labels.specs.declared.to_lower.LabelLowering.{LabelLowering}
use Rattle.labels.specs.declared.to_write.LabelWriting.{LabelWriting}
use Rattle.store_definitions.specs.declared.points.PointTables.{PointTables}
use Rattle.store_definitions.specs.declared.raising.PointRaising.{PointRaising}
use Rattle.store_definitions.specs.declared.AdjustRefusal.{AdjustRefusal}
use Rattle.store_definitions.specs.declared.Kept.{Kept}
use Rattle.store_definitions.specs.declared.Pair.{Pair}
use Rattle.store_definitions.specs.declared.Shape.{Shape}
use Rattle.store_definitions.specs.declared.Store.{Store}
use Rattle.store_definitions.specs.Adding.{add_spec}
use Rattle.store_definitions.specs.Answers.{Answer, added_means, adjusted_means, done_means, opened_means, outcome}
use Rattle.store_definitions.specs.Counting.{inc_spec, dec_spec, adjust_spec}
use Rattle.store_definitions.specs.Lent.{Slice, lent_taking, lent_raising, lent_lowering, lent_writing}
use Rattle.store_definitions.specs.Memory.{PointStore, point_store}
use Rattle.store_definitions.specs.Opening.{opened_store, open_spec}
use Rattle.store_adjust.specs.Pairs.{pairings, pairings_of}
use Rattle.guarantee.specs.Run.{Call, add, inc, dec, adjust}
use Rattle.program_runs.specs.Ran.{SliceOf, Opened, opens, Ran, adds, incs, decs, adjusts, adjusts_plain}

abbrev both : {X : Type 0} → X → X → Both X X
both a b = record { entry = a; exit = b }

-- store_rows::open
pub open_opened : (shape : Shape) (store window : Slice) (p q : PointTables) (l k : LabelWriting) (class_text : Slice) (answer : Result Store Refusal) (s : Store)
    → outcome (opened_means answer) (point_store (opened_store answer) (lent_writing store.exit window.exit q k)) ≡ open_spec 0 shape class_text.entry (lent_writing store.entry window.entry p l)
    → answer ≡ Ok s
    → Opened shape class_text.entry (lent_writing store.entry window.entry p l) (point_store s (lent_writing store.exit window.exit q k))
open_opened shape store window p q l k class_text answer s e f = opens shape store window (both p.reference_count.now q.reference_count.now) (both p.location.now q.location.now) (both p.index_starts.now q.index_starts.now) (both p.index_ends.now q.index_ends.now) (both l.labels.now k.labels.now) (both l.label_attributes.now k.label_attributes.now) (both l.label_count.now k.label_count.now) (both l.label_starts.now k.label_starts.now) (both l.label_ends.now k.label_ends.now) (both l.attributes.now k.attributes.now) (both l.attribute_count.now k.attribute_count.now) (both l.attribute_starts.now k.attribute_starts.now) (both l.attribute_ends.now k.attribute_ends.now) class_text answer s e f

module _ {start : PointStore ℕ} {calls : List (Call ℕ)} {answers : List Answer} (s after : Store) (store window : Slice) where
  -- store_add::add
  pub add_ran : (p q : PointTables) (l k : LabelTaking) (point : Slice) (label : ℕ) (answer : Result (Option Kept) Refusal)
      → Ran start calls answers (point_store s (lent_taking store.entry window.entry p l))
      → outcome (added_means answer) (point_store after (lent_taking store.exit window.exit q k)) ≡ add_spec words_equal 0 (point_store s (lent_taking store.entry window.entry p l)) point.entry label
      → Ran start (add point.entry label ∷ calls) (added_means answer ∷ answers) (point_store after (lent_taking store.exit window.exit q k))
  add_ran p q l k point label answer r e = adds s after store window (both p.reference_count.now q.reference_count.now) (both p.location.now q.location.now) (both p.index_starts.now q.index_starts.now) (both p.index_ends.now q.index_ends.now) (both l.labels.now k.labels.now) (both l.label_attributes.now k.label_attributes.now) (both l.label_count.now k.label_count.now) (both l.label_starts.now k.label_starts.now) (both l.label_ends.now k.label_ends.now) (both l.attributes.now k.attributes.now) (both l.attribute_count.now k.attribute_count.now) (both l.attribute_starts.now k.attribute_starts.now) (both l.attribute_ends.now k.attribute_ends.now) point label answer r e

  -- store_counts::inc, to which floats and window are lent for reading
  pub inc_ran : (p q : PointRaising) (l k : LabelRaising) (index : PointIndex) (label : LabelIndex) (answer : Result Unit Refusal)
      → Ran start calls answers (point_store s (lent_raising store.entry window.entry p l))
      → outcome (done_means answer) (point_store s (lent_raising store.entry window.entry q k)) ≡ inc_spec (point_store s (lent_raising store.entry window.entry p l)) index.0 label.0
      → Ran start (inc index.0 label.0 ∷ calls) (done_means answer ∷ answers) (point_store s (lent_raising store.entry window.entry q k))
  inc_ran p q l k index label answer r e = incs s (both store.entry store.entry) (both window.entry window.entry) (both p.reference_count.now q.reference_count.now) (both p.location.now q.location.now) (both p.index_starts.now q.index_starts.now) (both p.index_ends.now q.index_ends.now) (both l.labels.now k.labels.now) (both l.label_attributes.now k.label_attributes.now) (both l.label_count.now k.label_count.now) (both l.label_starts.now k.label_starts.now) (both l.label_ends.now k.label_ends.now) (both l.attributes.now k.attributes.now) (both l.attribute_count.now k.attribute_count.now) (both l.attribute_starts.now k.attribute_starts.now) (both l.attribute_ends.now k.attribute_ends.now) index label answer r e

  -- store_counts::dec
  pub dec_ran : (p q : PointTables) (l k : LabelLowering) (index : PointIndex) (label : LabelIndex) (answer : Result Unit Refusal)
      → Ran start calls answers (point_store s (lent_lowering store.entry window.entry p l))
      → outcome (done_means answer) (point_store after (lent_lowering store.entry window.entry q k)) ≡ dec_spec (point_store s (lent_lowering store.entry window.entry p l)) index.0 label.0
      → Ran start (dec index.0 label.0 ∷ calls) (done_means answer ∷ answers) (point_store after (lent_lowering store.entry window.entry q k))
  dec_ran p q l k index label answer r e = decs s after (both store.entry store.entry) (both window.entry window.entry) (both p.reference_count.now q.reference_count.now) (both p.location.now q.location.now) (both p.index_starts.now q.index_starts.now) (both p.index_ends.now q.index_ends.now) (both l.labels.now k.labels.now) (both l.label_attributes.now k.label_attributes.now) (both l.label_count.now k.label_count.now) (both l.label_starts.now k.label_starts.now) (both l.label_ends.now k.label_ends.now) (both l.attributes.now k.attributes.now) (both l.attribute_count.now k.attribute_count.now) (both l.attribute_starts.now k.attribute_starts.now) (both l.attribute_ends.now k.attribute_ends.now) index label answer r e

  -- store_adjust_pairs::adjust_count
  pub adjust_ran : (p q : PointTables) (l k : LabelLowering) (pairs : SliceOf Pair) (answer : Result Unit AdjustRefusal)
      → Ran start calls answers (point_store s (lent_lowering store.entry window.entry p l))
      → outcome (adjusted_means answer) (point_store after (lent_lowering store.entry window.entry q k)) ≡ adjust_spec (point_store s (lent_lowering store.entry window.entry p l)) (pairings_of pairs.entry)
      → Ran start (adjust (pairings_of pairs.entry) ∷ calls) (adjusted_means answer ∷ answers) (point_store after (lent_lowering store.entry window.entry q k))
  adjust_ran p q l k pairs answer r e = adjusts s after (both store.entry store.entry) (both window.entry window.entry) (both p.reference_count.now q.reference_count.now) (both p.location.now q.location.now) (both p.index_starts.now q.index_starts.now) (both p.index_ends.now q.index_ends.now) (both l.labels.now k.labels.now) (both l.label_attributes.now k.label_attributes.now) (both l.label_count.now k.label_count.now) (both l.label_starts.now k.label_starts.now) (both l.label_ends.now k.label_ends.now) (both l.attributes.now k.attributes.now) (both l.attribute_count.now k.attribute_count.now) (both l.attribute_starts.now k.attribute_starts.now) (both l.attribute_ends.now k.attribute_ends.now) pairs answer r e

  -- store_adjust::adjust_plain
  pub adjust_plain_ran : (p q : PointTables) (l k : LabelLowering) (pairs : SliceOf (List ℕ)) (answer : Result Unit AdjustRefusal)
      → Ran start calls answers (point_store s (lent_lowering store.entry window.entry p l))
      → outcome (adjusted_means answer) (point_store after (lent_lowering store.entry window.entry q k)) ≡ adjust_spec (point_store s (lent_lowering store.entry window.entry p l)) (pairings pairs.entry)
      → Ran start (adjust (pairings pairs.entry) ∷ calls) (adjusted_means answer ∷ answers) (point_store after (lent_lowering store.entry window.entry q k))
  adjust_plain_ran p q l k pairs answer r e = adjusts_plain s after (both store.entry store.entry) (both window.entry window.entry) (both p.reference_count.now q.reference_count.now) (both p.location.now q.location.now) (both p.index_starts.now q.index_starts.now) (both p.index_ends.now q.index_ends.now) (both l.labels.now k.labels.now) (both l.label_attributes.now k.label_attributes.now) (both l.label_count.now k.label_count.now) (both l.label_starts.now k.label_starts.now) (both l.label_ends.now k.label_ends.now) (both l.attributes.now k.attributes.now) (both l.attribute_count.now k.attribute_count.now) (both l.attribute_starts.now k.attribute_starts.now) (both l.attribute_ends.now k.attribute_ends.now) pairs answer r e
