-- Every call keeps the classes and the capacity of its store, and leaves a store that it finds ill-formed. So the record after a call is
-- the one to which the whole store was written, and the store after the call is read from it.
use Rattle.std.specs.Prelude.{ℕ, suc, ◌≤◌, Bool, cond, ◌≡◌, ltb, eqb, length, get_or}
use Rattle.std.proofs.Common.{arith, sym, ◌∙◌}
use Rattle.std.proofs.Math.Bool.{true, false}
use mathlib.Core.List.{List, [], ◌∷◌}
use Rattle.std.proofs.Math.Path.{refl, ap}
use Rattle.terms.specs.Below.{fails}
use Rattle.interval_store_manager.specs.Calls.{Decided, go, refuse}
use Rattle.labels.specs.Decisions.{none}
use Rattle.float_bits.specs.Words.{words_equal}
use Rattle.store_definitions.specs.declared.Store.{Store}
use Rattle.store_definitions.specs.Memory.{Memory, PointStore, point_store}
use Rattle.store_definitions.specs.Answers.{Answer, kept, waiting, done, is, says, refused, refused_after, Outcome, outcome}
use Rattle.store_definitions.specs.Decisions.{and_then, form_decided, carried_out}
use Rattle.store_definitions.specs.Parts.{Rows, rows_of, with_rows}
use Rattle.store_definitions.specs.Adding.{AddDecided, keep, wait, refuse_add, labelled, sequenced, table_grown, placed, row_of, label_given, index_given, free_left, overflows, laid_how, kept_after, keeps, add_decided, add_carried_out, add_spec}
use Rattle.store_definitions.specs.Counting.{Pairing, inc_test, dec_test, incremented, decremented, inc_spec, dec_spec, pair_decided, pair_done, unless_refused, adjust_from, adjust_spec}
use Rattle.store_definitions.specs.Rows.{room_made, compact_spec}
use Rattle.store_definitions.specs.WellFormed.{well_formed}
use Rattle.store_laws.specs.Sound.{sound}
use Rattle.hold_definitions.specs.declared.Hold.{Hold}
use Rattle.hold_definitions.specs.Memory.{HoldMemory, PointHold, point_hold, store_of as hold_store}
use Rattle.hold_definitions.specs.Answers.{hold_outcome}
use Rattle.hold_definitions.specs.WellFormed.{hold_well_formed}
use Rattle.hold_definitions.specs.Adding.{with_store, oldest_label, gave_up, holding, held_after, hold_added, hold_add_spec}
use Rattle.probes_definitions.specs.Memory.{PointProbes, point_probes, last_floats, store_of as probes_store}
use Rattle.probes_definitions.specs.Answers.{ProbesOutcome, probes_outcome}
use Rattle.probes_definitions.specs.Readings.{of_kinds, filled}
use Rattle.probes_definitions.specs.WellFormed.{probes_well_formed}
use Rattle.probes_definitions.specs.Setting.{set_decided, kinds_decided, then_set, set_added, set_checked, set_kinds_spec}
use Rattle.point_store_c.specs.HoldRecords.{hold_in}
use Rattle.point_store_c.proofs.HoldRecordLaws.{long_read}
use Rattle.point_store_c.specs.ProbesRecords.{legal_probes, probes_in}
use Rattle.point_store_c.specs.Records.{store_in, recorded, recorded_whole}
use Rattle.point_store_c.proofs.RecordLaws.{recorded_whole_lem}

module _ {E : Type 0} where
  -- the classes and the capacity are as they were
  pub record Kept (p q : PointStore E) : Type 0 where
    pub classes_same : q.header.classes ≡ p.header.classes
    pub capacity_same : q.header.capacity ≡ p.header.capacity

  same : (p : PointStore E) → Kept p p
  same p = record { classes_same = refl; capacity_same = refl }

  then : (p q r : PointStore E) → Kept p q → Kept q r → Kept p r
  then p q r k l = record { classes_same = l.classes_same ∙ k.classes_same; capacity_same = l.capacity_same ∙ k.capacity_same }

  either : (p a b : PointStore E) (t : Bool) → Kept p a → Kept p b → Kept p (cond t a b)
  either p a b true k l = k
  either p a b false k l = l

  either_call : (p : PointStore E) (a b : Outcome E) (t : Bool) → Kept p a.after → Kept p b.after → Kept p (cond t a b).after
  either_call p a b true k l = k
  either_call p a b false k l = l

  carried : (p : PointStore E) (o : Outcome E) (d : Decided) → Kept p o.after → Kept p (carried_out d p o).after
  carried p o go k = k
  carried p o (refuse n) k = same p

  -- the steps of the calls
  incremented_kept : (p : PointStore E) (i l : ℕ) → Kept p (incremented p i l)
  unfolding incremented
  incremented_kept p i l = either p _ _ p.header.store_labels (record { classes_same = refl; capacity_same = refl }) (record { classes_same = refl; capacity_same = refl })

  pub decremented_kept : (p : PointStore E) (i l : ℕ) → Kept p (decremented p i l)
  unfolding decremented
  decremented_kept p i l = either p _ _ p.header.store_labels (record { classes_same = refl; capacity_same = refl }) (record { classes_same = refl; capacity_same = refl })

  pair_kept : (p : PointStore E) (q : Pairing) → Kept p (pair_done p q)
  unfolding pair_done
  pair_kept p q =
      let r = incremented p q.insert_index q.insert_label in
      let k = incremented_kept p q.insert_index q.insert_label in
      either p r (decremented r q.delete_index q.delete_label) (eqb q.delete_index none) k (then p r _ k (decremented_kept r q.delete_index q.delete_label))

  unless : (p : PointStore E) (before : ℕ) (o : Outcome E) (d : Decided) → Kept p o.after → Kept p (unless_refused d before p o).after
  unless p before o go k = k
  unless p before o (refuse n) k = same p

  pairs_kept : (before : ℕ) (qs : List Pairing) (p : PointStore E) → Kept p (adjust_from before qs p).after
  unfolding adjust_from
  pairs_kept before [] p = same p
  pairs_kept before (q ∷ qs) p =
      either_call p _ _ (eqb q.insert_index none) (pairs_kept (suc before) qs p)
      (unless p before _ (pair_decided p q) (then p (pair_done p q) _ (pair_kept p q) (pairs_kept (suc before) qs (pair_done p q))))

  labelled_kept : (p : PointStore E) (code : ℕ) → Kept p (labelled p code)
  unfolding labelled
  labelled_kept p code = either p _ _ p.header.store_labels (record { classes_same = refl; capacity_same = refl }) (same p)

  sequenced_kept : (p : PointStore E) (point : List E) → Kept p (sequenced p point)
  unfolding sequenced
  sequenced_kept p point = record { classes_same = refl; capacity_same = refl }

  rows_kept : (p : PointStore E) (r : Rows E) → Kept p (with_rows r p)
  rows_kept p r = record { classes_same = refl; capacity_same = refl }

  grown_kept : (p : PointStore E) → Kept p (table_grown p)
  unfolding table_grown
  grown_kept p = either p _ _ (eqb p.header.index_manager.last_in_use 0) (record { classes_same = refl; capacity_same = refl }) (same p)

  placed_kept : (p : PointStore E) (place : ℕ) → Kept p (placed p place)
  unfolding placed
  placed_kept p place = record { classes_same = refl; capacity_same = refl }

module _ {E : Type 0} (eq : E → E → Bool) (zero_element : E) where
  kept_kept : (r : Rows E) (row : List E) (p : PointStore E) (point : List E) (code : ℕ) → Kept p (kept_after eq r row p point code)
  unfolding kept_after
  kept_kept r row p point code =
      then p _ _ (labelled_kept p code)
      (then _ _ _ (sequenced_kept (labelled p code) point)
      (then _ _ _ (rows_kept (sequenced (labelled p code) point) _)
      (then _ _ _ (grown_kept _) (placed_kept _ _))))

  keeps_kept : (p : PointStore E) (point : List E) (code : ℕ) → Kept p (keeps eq zero_element p point code).after
  unfolding keeps
  keeps_kept p point code =
      let s = p.header in
      let row = row_of p point in
      let r = room_made zero_element s (rows_of p) in
      either_call p (outcome (refused 10) (with_rows r p)) (outcome (kept (index_given p) (label_given p) (laid_how eq s r row) (free_left p)) (kept_after eq r row p point code)) (overflows eq s r row) (rows_kept p r) (kept_kept r row p point code)

  pub add_kept : (p : PointStore E) (point : List E) (code : ℕ) → Kept p (add_spec eq zero_element p point code).after
  unfolding add_spec
  add_kept p point code = each (add_decided p point code)
    where
      each : (d : AddDecided) → Kept p (add_carried_out eq zero_element d p point code).after
      each keep = keeps_kept p point code
      each wait = sequenced_kept p point
      each (refuse_add n) = same p

module _ {E : Type 0} where
  pub compact_kept : (zero_element : E) (p : PointStore E) → Kept p (compact_spec zero_element p).after
  unfolding compact_spec
  compact_kept zero_element p = carried p _ (form_decided p) (rows_kept p _)

  pub inc_kept : (p : PointStore E) (i l : ℕ) → Kept p (inc_spec p i l).after
  unfolding inc_spec
  inc_kept p i l = carried p (outcome done (incremented p i l)) (and_then (form_decided p) (inc_test p i l)) (incremented_kept p i l)

  pub dec_kept : (p : PointStore E) (i l : ℕ) → Kept p (dec_spec p i l).after
  unfolding dec_spec
  dec_kept p i l = carried p (outcome done (decremented p i l)) (and_then (form_decided p) (dec_test p i l)) (decremented_kept p i l)

  pub adjust_kept : (p : PointStore E) (qs : List Pairing) → Kept p (adjust_spec p qs).after
  unfolding adjust_spec
  adjust_kept p qs = unless p 0 (adjust_from 0 qs p) (form_decided p) (pairs_kept 0 qs p)

  -- no call takes a store of capacity 0
  pub no_capacity : (p : PointStore E) → p.header.capacity ≡ 0 → well_formed p ≡ false
  no_capacity p z = fails (well_formed p) (λ e. absurd (omega (arith, (sound p e).bounds.capacity_least, z)))

  -- a store that is ill-formed is left
  module _ (p : PointStore E) (ill : well_formed p ≡ false) where
    pub inc_left : (i l : ℕ) → (inc_spec p i l).after ≡ p
    unfolding inc_spec form_decided
    inc_left i l = rw ill

    pub dec_left : (i l : ℕ) → (dec_spec p i l).after ≡ p
    unfolding dec_spec form_decided
    dec_left i l = rw ill

    pub adjust_left : (qs : List Pairing) → (adjust_spec p qs).after ≡ p
    unfolding adjust_spec form_decided
    adjust_left qs = rw ill

    pub compact_left : (zero_element : E) → (compact_spec zero_element p).after ≡ p
    unfolding compact_spec form_decided
    compact_left zero_element = rw ill

    pub add_left : (eq : E → E → Bool) (zero_element : E) (point : List E) (code : ℕ) → (add_spec eq zero_element p point code).after ≡ p
    unfolding add_spec add_decided form_decided
    add_left eq zero_element point code = rw ill

-- after each call the record is the one to which the whole store was written
module _ (words : List ℕ) (m : Memory ℕ) where
  abbrev before : PointStore ℕ
  before = point_store (store_in words) m

  abbrev Whole : PointStore ℕ → Type 0
  Whole q = recorded words q.header ≡ recorded_whole words q.header

  whole : (q : PointStore ℕ) → Kept before q → (well_formed before ≡ false → q ≡ before) → Whole q
  whole q k left =
      recorded_whole_lem words q.header k.classes_same k.capacity_same (λ z. ap (λ (x : PointStore ℕ). x.header) (left (no_capacity before z)))

  pub add_whole : (point : List ℕ) (code : ℕ) → Whole (add_spec words_equal 0 before point code).after
  add_whole point code = whole _ (add_kept words_equal 0 before point code) (λ e. add_left before e words_equal 0 point code)

  pub inc_whole : (i l : ℕ) → Whole (inc_spec before i l).after
  inc_whole i l = whole _ (inc_kept before i l) (λ e. inc_left before e i l)

  pub dec_whole : (i l : ℕ) → Whole (dec_spec before i l).after
  dec_whole i l = whole _ (dec_kept before i l) (λ e. dec_left before e i l)

  pub adjust_whole : (qs : List Pairing) → Whole (adjust_spec before qs).after
  adjust_whole qs = whole _ (adjust_kept before qs) (λ e. adjust_left before e qs)

  pub compact_whole : Whole (compact_spec 0 before).after
  compact_whole = whole _ (compact_kept 0 before) (λ e. compact_left before e 0)

-- the same of a hold and of a product, whose records hold their store's
module _ {E : Type 0} (eq : E → E → Bool) (zero_element : E) where
  module _ (h : PointHold E) where
    abbrev KeptIn : PointHold E → Type 0
    KeptIn g = Kept (hold_store h) (hold_store g)

    either_hold : (a b : PointHold E) (t : Bool) → KeptIn a → KeptIn b → KeptIn (cond t a b)
    either_hold a b true k l = k
    either_hold a b false k l = l

    inside : (q : PointStore E) → Kept (hold_store h) q → KeptIn (with_store q h)
    inside q k = record { classes_same = k.classes_same; capacity_same = k.capacity_same }

    holding_kept : (xs ls : List ℕ) (q : PointStore E) → Kept (hold_store h) q → KeptIn (holding h xs ls q)
    unfolding holding gave_up
    holding_kept xs ls q k =
        let d = then (hold_store h) q (gave_up xs ls q) k (decremented_kept q (get_or xs 0 0) (oldest_label q ls)) in
        either_hold _ _ (ltb h.header.width (length xs))
        (record { classes_same = d.classes_same; capacity_same = d.capacity_same })
        (record { classes_same = k.classes_same; capacity_same = k.capacity_same })

    held_kept : (a : Answer) (q : PointStore E) → Kept (hold_store h) q → KeptIn (held_after h a q)
    held_kept (kept i l laid left) q k = holding_kept _ _ q k
    held_kept waiting q k = inside q k
    held_kept done q k = inside q k
    held_kept (is n) q k = inside q k
    held_kept (says b) q k = inside q k
    held_kept (refused n) q k = inside q k
    held_kept (refused_after n b) q k = inside q k

    pub hold_add_kept : (point : List E) (code : ℕ) → KeptIn (hold_add_spec eq zero_element h point code).after
    unfolding hold_add_spec
    hold_add_kept point code = each (hold_well_formed h)
      where
        each : (b : Bool) → KeptIn (cond b (hold_added h (add_spec eq zero_element (hold_store h) point code)) (hold_outcome (refused 1) h)).after
        each true =
            let o = add_spec eq zero_element (hold_store h) point code in
            held_kept o.answer o.after (add_kept eq zero_element (hold_store h) point code)
        each false = same (hold_store h)

    pub hold_add_left : well_formed (hold_store h) ≡ false → (point : List E) (code : ℕ) → (hold_add_spec eq zero_element h point code).after ≡ h
    unfolding hold_add_spec hold_well_formed
    hold_add_left ill point code = rw ill

  module _ (p : PointProbes E) where
    then_set_kept : (d : Decided) (o : ProbesOutcome E) → Kept (probes_store p) (probes_store o.after) → Kept (probes_store p) (probes_store (then_set d p o).after)
    then_set_kept go o k = k
    then_set_kept (refuse n) o k = same (probes_store p)

    pub set_kept : (kinds : List ℕ) (xs : List E) (code : ℕ) → Kept (probes_store p) (probes_store (set_kinds_spec eq zero_element p kinds xs code).after)
    unfolding set_kinds_spec set_checked
    set_kept kinds xs code = each (probes_well_formed p)
      where
        each : (b : Bool) → Kept (probes_store p) (probes_store (cond b (then_set (kinds_decided kinds xs) p (then_set (set_decided p (of_kinds kinds xs)) p (set_added p (of_kinds kinds xs) (add_spec eq zero_element (probes_store p) (filled (of_kinds kinds xs) (last_floats (probes_store p))) code)))) (probes_outcome (refused 1) p)).after)
        each true =
            let k = add_kept eq zero_element (probes_store p) (filled (of_kinds kinds xs) (last_floats (probes_store p))) code in
            then_set_kept (kinds_decided kinds xs) _ (then_set_kept (set_decided p (of_kinds kinds xs)) _ (record { classes_same = k.classes_same; capacity_same = k.capacity_same }))
        each false = same (probes_store p)

    pub set_left : well_formed (probes_store p) ≡ false → (kinds : List ℕ) (xs : List E) (code : ℕ) → (set_kinds_spec eq zero_element p kinds xs code).after ≡ p
    unfolding set_kinds_spec probes_well_formed
    set_left ill kinds xs code = rw ill

module _ (words : List ℕ) where
  -- of a store that was read within a record
  inside_whole : (m : Memory ℕ) (s t : Store) → s ≡ store_in words → Kept (point_store s m) (point_store t m) → (well_formed (point_store s m) ≡ false → t ≡ s) → recorded words t ≡ recorded_whole words t
  inside_whole m s t e k left =
      recorded_whole_lem words t (k.classes_same ∙ ap (λ (x : Store). x.classes) e) (k.capacity_same ∙ ap (λ (x : Store). x.capacity) e)
      (λ z. left (no_capacity (point_store s m) (ap (λ (x : Store). x.capacity) e ∙ z)) ∙ e)

  pub hold_add_whole : (m : HoldMemory ℕ) → 41 ≤ length words → (point : List ℕ) (code : ℕ) → let g = (hold_add_spec words_equal 0 (point_hold (hold_in words) m) point code).after.header.store in recorded words g ≡ recorded_whole words g
  hold_add_whole m l point code =
      let h = point_hold (hold_in words) m in
      let k = hold_add_kept words_equal 0 h point code in
      inside_whole m.store (hold_in words).store (hold_add_spec words_equal 0 h point code).after.header.store (ap (λ (g : Hold). g.store) (sym (long_read words l (store_in words) refl)))
      (record { classes_same = k.classes_same; capacity_same = k.capacity_same })
      (λ ill. ap (λ (g : PointHold ℕ). g.header.store) (hold_add_left words_equal 0 h ill point code))

  pub set_whole : (m : Memory ℕ) → legal_probes words ≡ true → (kinds xs : List ℕ) (code : ℕ) → let g = (set_kinds_spec words_equal 0 (point_probes (probes_in words) m) kinds xs code).after.header.store in recorded words g ≡ recorded_whole words g
  unfolding probes_in
  set_whole m e kinds xs code =
      let p = point_probes (probes_in words) m in
      let k = set_kept words_equal 0 p kinds xs code in
      inside_whole m (probes_in words).store (set_kinds_spec words_equal 0 p kinds xs code).after.header.store (rw e)
      (record { classes_same = k.classes_same; capacity_same = k.capacity_same })
      (λ ill. ap (λ (g : PointProbes ℕ). g.header.store) (set_left words_equal 0 p ill kinds xs code))
