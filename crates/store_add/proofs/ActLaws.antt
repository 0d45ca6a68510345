-- What an add relies on once it is accepted, and its parts put together.
use Prim.Native.Nat.{ℕ, ◌+◌, ◌-◌, ◌≤◌, ◌<◌}
use native.Mathlib.Nat.{div-le_self}
use native.Mathlib.Decide.{ℕ_discrete}
use native.Mathlib.Omega.{arith}
use mathlib.Core.Bool.{Bool, true, false, cond}
use mathlib.Core.List.{List}
use mathlib.Core.Path.{◌≡◌, refl, sym, ◌∙◌, ap}
use lib.ListN.{length}
use lib.Dec.{eqb}
use borrow.Author.Tests.{eq-eqb, ne_eqb, ltb-false}
use Rattle.terms.specs.Below.{positive}
use Rattle.terms.specs.Refusals.{number}
use Rattle.terms.specs.declared.Refusal.{Refusal}
use Rattle.terms.specs.declared.Refusal.TheVariants.{FloatSpaceFull}
use Rattle.std.specs.Prelude.{Result, Ok, Err, Some}
use Rattle.float_bits.specs.Words.{words_equal}
use Rattle.interval_store_manager.specs.Answers.{Outcome as ManagerOutcome}
use Rattle.interval_store_manager.specs.Calls.{changed as manager_changed}
use Rattle.placement.specs.declared.Laid.{Laid}
use Rattle.placement.specs.Growth.{grown, grown_within_lem}
use Rattle.placement.specs.Laying.{written_count, laid_as, laid_elements, laid_free, place_of}
use Rattle.placement.specs.Overlap.{overlaps}
use Rattle.placement_rows.specs.Layable.{Layable, overlaps_shared}
use Rattle.labels.specs.declared.LabelManagers.{LabelManagers}
use Rattle.labels.specs.Counted.{Counted, counted, free_indices, next_index, live_number}
use Rattle.labels.specs.CountedLaws.{WellCounted}
use Rattle.labels.specs.Decisions.{none}
use Rattle.labels.specs.declared.LabelsFree.{LabelsFree}
use Rattle.labels.specs.Lent.{LabelLists, labels_of}
use Rattle.labels.specs.Labels.{Labels, LabelTaken, label_taken}
use Rattle.labels.specs.Sound.{sound_make as labels_sound_make}
use Rattle.store_definitions.specs.declared.Kept.{Kept}
use Rattle.store_definitions.specs.declared.Store.{Store}
use Rattle.store_definitions.specs.Memory.{PointStore, point_store}
use Rattle.store_definitions.specs.Parts.{base_of, extra_of, table_length, Rows, rows_of, with_rows, with_points, with_labels, with_window, point_table, label_half}
use Rattle.store_definitions.specs.Answers.{kept, refused, waiting, added_means, Outcome, outcome}
use Rattle.store_definitions.specs.Rows.{room_made}
use Rattle.store_definitions.specs.Adding.{point_length, table_full, entries_filled, keep, wait, add_decided, window_after, sequenced, row_of, label_given, labelled, table_grown, placed, joins, overflows, laid_rows, laid_how, kept_after, index_given as given_index, free_left, keeps, add_spec}
use Rattle.store_definitions.specs.WellFormed.{well_formed}
use Rattle.store_laws.specs.BoundsLaws.{InBounds, base_some}
use Rattle.store_laws.specs.Sound.{Sound, sound}
use Rattle.store_laws.specs.RowsLaws.{RowsOf}
use Rattle.store_laws.specs.TableLaws.{grown_ready}
use Rattle.store_laws.specs.AddDecisionLaws.{Kept as KeptOn, waits_on, keeps_on}
use Rattle.store_laws.specs.AddingLaws.{can_grow}
use Rattle.store_laws.specs.FigureLaws.{free_and_live, grown_figure}
use Rattle.store_check.specs.declared.Figures.{Figures}
use Rattle.store_check.specs.Figures.{FiguresOf, counts_live_lem}
use Rattle.store_add.specs.declared.decide.AddStep.{AddStep}
use Rattle.store_add.specs.declared.decide.AddStep.TheVariants.{Keep, Wait}
use Rattle.store_add.specs.Deciding.{decision_means, kept_means, add_asked, asked_well, asked_ill}
use Rattle.store_add.specs.Pieces.{with_extent, managers_of, with_managers, window_moved, row_from, joined_if_fits, label_for, grown_table, grown_places, IndexGiven, index_placed, index_for}
use Rattle.store_add.specs.Requires.{Roomy, Rowed, Labelled, IndexReady}
use Rattle.store_add.proofs.RoomLaws.{base_most}

-- of a well-formed store: an add that waits, and one that is kept
module _ (p : PointStore ℕ) (well : well_formed p ≡ true) (point : List ℕ) (code : ℕ) where
  abbrev s : Store
  s = p.header

  abbrev w : Sound p
  w = sound p well

  rowed : length point ≡ point_length s → Rowed s p.memory.last_known_shingle point
  rowed h = record { bounds = w.bounds; window_lent = w.lent.window_lent; sized = h }

  pub record Waits : Type 0 where
    pub unfinished : s.next_sequence_index < 4294967295
    pub row : Rowed s p.memory.last_known_shingle point

  pub waits_ready : add_decided p point code ≡ wait → Waits
  waits_ready e =
      let a = waits_on p point code e in
      record { unfinished = omega (arith, a.unfinished, w.sequence_most); row = rowed a.sized }

  pub record Keeps : Type 0 where
    pub unfinished : s.next_sequence_index < 4294967295
    pub on : KeptOn p point code
    pub row : Rowed s p.memory.last_known_shingle point
    pub room : Roomy s p.memory.store p.memory.location

  pub keeps_ready : add_decided p point code ≡ keep → Keeps
  keeps_ready e =
      let k = keeps_on p point code e in
      record {
        unfinished = omega (arith, k.accepted.unfinished, w.sequence_most);
        on = k;
        row = rowed k.accepted.sized;
        room = record { bounds = w.bounds; table_within = w.table_within; rows = w.rows };
      }

  pub label_ready : Keeps → (f : Figures) → FiguresOf f p → s.store_labels ≡ true → Labelled s (label_half p) code f.free
  label_ready k f figures on =
      record {
        well = labels_sound_make s.classes s.capacity (label_half p) (w.labels on);
        coded = k.on.accepted.coded on;
        some = k.on.label_free on;
        figures = figures.labels_free on;
      }

place_small : (dims base : ℕ) (j : Bool) (free : ℕ) → place_of (laid_as dims base j free) ≤ free
unfolding laid_as place_of
place_small dims base true free = omega (arith, div-le_self (free - (dims - base)) base)
place_small dims base false free = div-le_self free base

-- whether the row joins, and whether it fits
module _ (s : Store) (r : Rows ℕ) (row : List ℕ) where
  pub joined_ok : (j : Bool) → Ok j ≡ joined_if_fits words_equal s r row → (j ≡ joins words_equal s r row) × (overflows words_equal s r row ≡ false)
  unfolding joined_if_fits
  joined_ok j e = split (overflows words_equal s r row) refl e
    where
      split : (b : Bool) → overflows words_equal s r row ≡ b → Ok j ≡ cond b (Err FloatSpaceFull) (Ok (joins words_equal s r row)) → (j ≡ joins words_equal s r row) × (b ≡ false)
      split true h g = cc
      split false h g = (cc, refl)

  pub joined_err : (why : Refusal) → Err why ≡ joined_if_fits words_equal s r row → (why ≡ FloatSpaceFull) × (overflows words_equal s r row ≡ true)
  unfolding joined_if_fits
  joined_err why e = split (overflows words_equal s r row) refl e
    where
      split : (b : Bool) → overflows words_equal s r row ≡ b → Err why ≡ cond b (Err FloatSpaceFull) (Ok (joins words_equal s r row)) → (why ≡ FloatSpaceFull) × (b ≡ true)
      split true h g = (cc, refl)
      split false h g = cc

module _ (s : Store) (r : Rows ℕ) (row : List ℕ) (b : InBounds s.dimensions s.shingle_size s.capacity) (w : RowsOf s r) (j : Bool) (e : j ≡ joins words_equal s r row) (fits : overflows words_equal s r row ≡ false) where
  -- the row can be laid
  pub lay_ready : Layable s.dimensions (base_of s) j r.free s.dimensions (length r.elements)
  unfolding joins overflows
  lay_ready =
      record {
        whole = refl;
        some_base = base_some s.dimensions s.shingle_size s.capacity b;
        wide = base_most s.dimensions s.shingle_size s.capacity b;
        shared = λ h. overlaps_shared words_equal s.shingle_size (extra_of s) r.free r.elements row (sym e ∙ h);
        room = rw e (omega (arith, ltb-false r.store_length (r.free + written_count s.dimensions (base_of s) (overlaps words_equal s.shingle_size (extra_of s) r.free r.elements row)) fits, w.store_within, w.floats_lent));
      }

-- an index can be taken, wherever the places have moved to
module _ (p : PointStore ℕ) (w : Sound p) (full : table_full p.header ≡ false) where
  abbrev h : Store
  h = p.header

  abbrev t : Counted
  t = point_table p

  abbrev GrownWell : Counted → Type 0
  GrownWell u = WellCounted u.manager.capacity u × ((0 < u.manager.last_in_use) × ((u.manager.capacity ≤ h.capacity) × (t.manager.capacity ≤ u.manager.capacity)))

  grown_well : GrownWell (grown_table h.capacity t)
  unfolding grown_table
  grown_well =
      elim (ℕ_discrete h.index_manager.last_in_use 0) [
        | yes e ↦
            let longer : ℕ = grown (table_length h) 1 h.capacity in
            let longer_fits = grown_within_lem (table_length h) 1 h.capacity w.table_within in
            let g = grown_ready p w longer (can_grow h w.table_within full e) longer_fits.1 in
            let c = g.well.whole in
            rw (eq-eqb h.index_manager.last_in_use 0 e) (rw c (g.well, (g.some, (g.within, longer_fits.0))))
        | no d ↦ rw (ne_eqb h.index_manager.last_in_use 0 d) (w.points, (positive h.index_manager.last_in_use d, (w.table_within, omega arith)))
      ]

  live_counted : (f : Figures) → FiguresOf f p → f.live ≡ live_number (table_length h) t
  unfolding live_number
  live_counted f figures = figures.live_is ∙ counts_live_lem (table_length h) p.memory.reference_count

  grown_free : (live : ℕ) → live ≡ live_number (table_length h) t → WellCounted (grown_table h.capacity t).manager.capacity (grown_table h.capacity t) → free_indices (grown_table h.capacity t) ≡ (grown_table h.capacity t).manager.capacity - live
  unfolding grown_table
  grown_free live e well = grown_figure h.capacity live t w.table_within w.lent.counts_lent e well

  pub index_ready : (dims base : ℕ) (j : Bool) (r : Rows ℕ) → r.free ≤ 65535 → h.capacity ≤ length r.location → (place : ℕ) → place ≡ place_of (laid_as dims base j r.free) → (f : Figures) → FiguresOf f p → IndexReady h.capacity t r.location place f.live
  index_ready dims base j r small lent place e f figures =
      let g = grown_well in
      let live = live_counted f figures in
      record {
        growable = record {
          well = w.points;
          within = w.table_within;
          capacity_most = w.bounds.capacity_most;
          counts_lent = w.lent.counts_lent;
          starts_lent = w.lent.starts_lent;
          ends_lent = w.lent.ends_lent;
          places_lent = lent;
        };
        well = g.0;
        some = g.1.0;
        within = g.1.1.0;
        small = rw e (omega (arith, place_small dims base j r.free));
        live_within = omega (arith, g.1.1.1, live, free_and_live (table_length h) t w.points);
        figure = grown_free f.live live g.0;
      }

-- a record with another extent
module _ (s s' : Store) (r : Rows ℕ) (e : s' ≡ with_extent r.free r.store_length s) (l : LabelLists) (code : ℕ) where
  abbrev half : Store → Labels
  half x = labels_of (managers_of x) l

  pub labelled_in : (free : LabelsFree) → (s.store_labels ≡ true → Labelled s (half s) code free) → s'.store_labels ≡ true → Labelled s' (half s') code free
  labelled_in free h =
      rw e (λ on. let k = h on in record { well = k.well; coded = k.coded; some = k.some; figures = k.figures })

  pub label_in : label_for s' (half s') code ≡ label_for s (half s) code
  unfolding label_for
  label_in = rw e

-- and with other managers of its labels
module _ (s s' : Store) (m : LabelManagers) (r : Rows ℕ) (e : s' ≡ with_managers m (with_extent r.free r.store_length s)) where
  pub rowed_in : (window point : List ℕ) → Rowed s window point → Rowed s' window point
  unfolding point_length
  rowed_in window point w = rw e (record { bounds = w.bounds; window_lent = w.window_lent; sized = w.sized })

  pub layable_in : (j : Bool) (n : ℕ) → Layable s.dimensions (base_of s) j r.free s.dimensions n → Layable s'.dimensions (base_of s') j s'.start_free_region s'.dimensions n
  layable_in j n l = rw e l

  pub window_in : (window point : List ℕ) → window_moved s' window point ≡ window_moved s window point
  unfolding window_moved
  window_in window point = rw e

  pub row_in : (window point : List ℕ) → row_from s' window point ≡ row_from s window point
  unfolding row_from window_moved
  row_in window point = rw e

  pub elements_in : (j : Bool) (window point elements : List ℕ) → laid_elements s'.dimensions (base_of s') j s'.start_free_region elements (row_from s' window point) ≡ laid_elements s.dimensions (base_of s) j r.free elements (row_from s window point)
  elements_in j window point elements = rw (row_in window point, e)

  pub laid_in : (j : Bool) → laid_as s'.dimensions (base_of s') j s'.start_free_region ≡ laid_as s.dimensions (base_of s) j r.free
  laid_in j = rw e

  pub free_in : (j : Bool) → laid_free s'.dimensions (base_of s') j s'.start_free_region ≡ laid_free s.dimensions (base_of s) j r.free
  free_in j = rw e

  pub index_ready_in : (counts starts ends location : List ℕ) (place live : ℕ) → IndexReady s.capacity (counted s.index_manager counts starts ends) location place live → IndexReady s'.capacity (counted s'.index_manager counts starts ends) location place live
  index_ready_in counts starts ends location place live h = rw e h

  pub index_in : (counts starts ends location : List ℕ) (place : ℕ) → index_for s'.capacity (counted s'.index_manager counts starts ends) location place ≡ index_for s.capacity (counted s.index_manager counts starts ends) location place
  index_in counts starts ends location place = rw e

  pub sequence_in : s'.next_sequence_index ≡ s.next_sequence_index
  sequence_in = rw e

-- the parts of the definition
labelled_is : (p : PointStore ℕ) (code : ℕ) → labelled p code ≡ with_labels (label_for p.header (label_half p) code).after p
unfolding labelled label_for
labelled_is p code = split p.header.store_labels refl
  where
    split : (b : Bool) → p.header.store_labels ≡ b → cond b (with_labels (label_taken p.header.classes p.header.capacity (label_half p) code).after p) p ≡ with_labels (cond b (label_taken p.header.classes p.header.capacity (label_half p) code) (record { label = none; after = label_half p })).after p
    split true e = refl
    split false e = refl

given_is : (p : PointStore ℕ) (code : ℕ) → label_given p ≡ (label_for p.header (label_half p) code).label
unfolding label_given label_for label_taken
given_is p code = split p.header.store_labels
  where
    split : (b : Bool) → cond b (next_index (label_half p).label_table) none ≡ (cond b (label_taken p.header.classes p.header.capacity (label_half p) code) (record { label = none; after = label_half p })).label
    split true = refl
    split false = refl

module _ (p : PointStore ℕ) where
  abbrev longer : ℕ
  longer = grown (table_length p.header) 1 p.header.capacity

  abbrev o : ManagerOutcome
  o = manager_changed p.header.index_manager p.memory.index_starts p.memory.index_ends longer

  abbrev u : Counted
  u = counted o.manager (entries_filled (table_length p.header) longer 0 p.memory.reference_count) o.starts o.ends

  abbrev places : List ℕ
  places = entries_filled (table_length p.header) longer 65535 p.memory.location

  grown_is_table : table_grown p ≡ with_points (grown_table p.header.capacity (point_table p)) (grown_places p.header.capacity (point_table p) p.memory.location) p
  unfolding table_grown grown_table grown_places
  grown_is_table = split (eqb p.header.index_manager.last_in_use 0)
    where
      split : (b : Bool) → cond b (with_points u places p) p ≡ with_points (cond b u (point_table p)) (cond b places p.memory.location) p
      split true = refl
      split false = refl

-- the record and the memory that the parts of a kept add leave: the label's managers and the extent stand in the record already
abbrev pub kept_in : Store → LabelTaken → IndexGiven → (window elements : List ℕ) → Laid → ℕ → Outcome ℕ
kept_in s l i window elements laid free =
    outcome (kept i.index l.label laid i.free)
    (record {
      header = record {
        dimensions = s.dimensions;
        shingle_size = s.shingle_size;
        capacity = s.capacity;
        internal_shingling = s.internal_shingling;
        internal_rotation = s.internal_rotation;
        store_labels = s.store_labels;
        store_length = s.store_length;
        start_free_region = free;
        next_sequence_index = s.next_sequence_index + 1;
        index_manager = i.table.manager;
        label_manager = s.label_manager;
        attribute_manager = s.attribute_manager;
        classes = s.classes;
      };
      memory = record {
        store = elements;
        last_known_shingle = window;
        reference_count = i.table.counts;
        location = i.location;
        index_starts = i.table.starts;
        index_ends = i.table.ends;
        labels = l.after.labels;
        label_attributes = l.after.label_attributes;
        label_count = l.after.label_table.counts;
        label_starts = l.after.label_table.starts;
        label_ends = l.after.label_table.ends;
        attributes = l.after.attributes;
        attribute_count = l.after.attribute_table.counts;
        attribute_starts = l.after.attribute_table.starts;
        attribute_ends = l.after.attribute_table.ends;
      };
    })

abbrev pub managers_in : LabelTaken → LabelManagers
managers_in l = record { label_manager = l.after.label_table.manager; attribute_manager = l.after.attribute_table.manager }

module _ (p : PointStore ℕ) (point : List ℕ) (code : ℕ) where
  abbrev q : Store
  q = p.header

  abbrev row : List ℕ
  row = row_from q p.memory.last_known_shingle point

  module _ (r : Rows ℕ) (made : r ≡ room_made 0 q (rows_of p)) where
    -- 10
    keeps_full : overflows words_equal q r row ≡ true → outcome (refused 10) (with_rows r p) ≡ keeps words_equal 0 p point code
    unfolding keeps row_of window_after row_from window_moved
    keeps_full h = rw (sym made, h)

    pub put_full : (s' : Store) (why : Refusal) → s' ≡ with_extent r.free r.store_length q → why ≡ FloatSpaceFull → overflows words_equal q r row ≡ true → outcome (refused (number why)) (point_store s' (with_rows r p).memory) ≡ keeps words_equal 0 p point code
    put_full s' why es ew h = rw (es, ew) (keeps_full h)

    abbrev j : Bool
    j = joins words_equal q r row

    abbrev how : Laid
    how = laid_as q.dimensions (base_of q) j r.free

    keeps_fits : overflows words_equal q r row ≡ false → kept_in (with_managers (managers_in (label_for q (label_half p) code)) (with_extent r.free r.store_length q)) (label_for q (label_half p) code) (index_for q.capacity (point_table p) r.location (place_of how)) (window_moved q p.memory.last_known_shingle point) (laid_elements q.dimensions (base_of q) j r.free r.elements row) how (laid_free q.dimensions (base_of q) j r.free) ≡ keeps words_equal 0 p point code
    unfolding keeps kept_after row_of window_after row_from window_moved laid_how laid_rows sequenced placed given_index free_left index_for index_placed
    keeps_fits h =
        rw (sym made, h, labelled_is p code, given_is p code, grown_is_table p, grown_is_table (with_rows (laid_rows words_equal q r row) (sequenced (with_labels (label_for q (label_half p) code).after p) point)))

    pub put : (s' : Store) (j' : Bool) (l : LabelTaken) (place : ℕ) (i : IndexGiven) (window elements : List ℕ) (laid : Laid) (free : ℕ) → s' ≡ with_managers (managers_in l) (with_extent r.free r.store_length q) → j' ≡ j → overflows words_equal q r row ≡ false → l ≡ label_for q (label_half p) code → place ≡ place_of laid → i ≡ index_for q.capacity (point_table p) r.location place → window ≡ window_moved q p.memory.last_known_shingle point → elements ≡ laid_elements q.dimensions (base_of q) j' r.free r.elements row → laid ≡ laid_as q.dimensions (base_of q) j' r.free → free ≡ laid_free q.dimensions (base_of q) j' r.free → kept_in s' l i window elements laid free ≡ keeps words_equal 0 p point code
    put s' j' l place i window elements laid free es ej fits el ep ei ew ee eh ef =
        rw es (rw (el, ei, ew, ee, ep, eh, ef, ej) (keeps_fits fits))

-- what is decided of a well-formed store, carried out
module _ (p : PointStore ℕ) (point : List ℕ) (code : ℕ) (well : well_formed p ≡ true) (d : Result AddStep Refusal) (asked : decision_means d ≡ add_asked p.header (length point) code) where
  decided : add_decided p point code ≡ decision_means d
  decided = asked_well p point code well ∙ sym asked

  pub decided_keep : d ≡ Ok Keep → add_decided p point code ≡ keep
  decided_keep e = decided ∙ ap decision_means e

  pub decided_wait : d ≡ Ok Wait → add_decided p point code ≡ wait
  decided_wait e = decided ∙ ap decision_means e

  pub acted_refuse : (why : Refusal) → d ≡ Err why → outcome (refused (number why)) p ≡ add_spec words_equal 0 p point code
  unfolding add_spec
  acted_refuse why e = rw (decided, e)

  pub acted_wait : d ≡ Ok Wait → (window : List ℕ) → window ≡ window_moved p.header p.memory.last_known_shingle point → outcome waiting (with_window window (p.header.next_sequence_index + 1) p) ≡ add_spec words_equal 0 p point code
  unfolding add_spec sequenced window_after window_moved
  acted_wait e window g = rw (decided, e, g)

  acted_keep : d ≡ Ok Keep → (answer : Result Kept Refusal) (after : PointStore ℕ) → outcome (kept_means answer) after ≡ keeps words_equal 0 p point code → outcome (kept_means answer) after ≡ add_spec words_equal 0 p point code
  unfolding add_spec
  acted_keep e answer after h = rw (decided, e) h

  pub acted_ok : d ≡ Ok Keep → (answer : Result Kept Refusal) (after : PointStore ℕ) (k : Kept) → outcome (kept_means answer) after ≡ keeps words_equal 0 p point code → answer ≡ Ok k → outcome (added_means (Ok (Some k))) after ≡ add_spec words_equal 0 p point code
  acted_ok e answer after k h f = sym (ap (λ (x : Result Kept Refusal). outcome (kept_means x) after) f) ∙ acted_keep e answer after h

  pub acted_err : d ≡ Ok Keep → (answer : Result Kept Refusal) (after : PointStore ℕ) (why : Refusal) → outcome (kept_means answer) after ≡ keeps words_equal 0 p point code → answer ≡ Err why → outcome (refused (number why)) after ≡ add_spec words_equal 0 p point code
  acted_err e answer after why h f = sym (ap (λ (x : Result Kept Refusal). outcome (kept_means x) after) f) ∙ acted_keep e answer after h

-- an ill-formed store is refused
pub add_ill : (p : PointStore ℕ) (point : List ℕ) (code : ℕ) → well_formed p ≡ false → outcome (refused 1) p ≡ add_spec words_equal 0 p point code
unfolding add_spec
add_ill p point code e = rw (asked_ill p point code e)
