-- The record's tests put together, and what places that rise along a list say of the table that they are found in.
use Rattle.std.proofs.Common.{◌≡◌, refl, Option, Some, None, ℕ, ◌<◌, ◌≤◌, Bool, true, false, ◌&&◌, List, length, get_or, take, sym, ◌∙◌, ap₂}
use lib.ListN.{length-replicate}
use Rattle.std.proofs.Math.Seq.{take-length}
use Rattle.std.specs.Bool.{then_some}
use Rattle.terms.specs.Below.{both}
use Rattle.labels.specs.Counted.{counted, managed, free_uncounted}
use Rattle.store_definitions.specs.declared.Store.{Store}
use Rattle.store_definitions.specs.declared.tables.Tables.{Tables}
use Rattle.store_definitions.specs.Memory.{PointStore, point_store}
use Rattle.store_definitions.specs.Parts.{table_length, label_half}
use Rattle.store_definitions.specs.WellFormed.{empty_uncounted, places_distinct, places_end}
use Rattle.labels.specs.Labels.{Labels}
use Rattle.label_check.specs.Checked.{labels_checked}
use Rattle.labels.specs.declared.LabelsFree.{LabelsFree}
use Rattle.store_check.specs.Checked.{checked}
use Rattle.store_check.specs.CheckLaws.{record_test}
use Rattle.store_check.specs.Entries.{counts_live}
use Rattle.store_check.specs.Tables.{tables_lent}
use Rattle.store_check.proofs.CheckedLaws.{record_ill, points_ill, labels_ill, all_well}
use Rattle.store_check.specs.PointsTest.{points_test, table_test, points_are, TableFound}
use Rattle.hold_check.specs.Rising.{Rises, single_counts, ListKnown, rising_distinct, rising_listed}
use Rattle.hold_check.specs.Steady.{Steady}
use Rattle.hold_check.proofs.PartLaws.{once_part, single_part, distinct_part, rises_part}

-- the points' half decided, as the check of a store has it
passed : (test : Bool) (live n : ℕ) → true ≡ test → live ≡ n → Some live ≡ then_some test n
passed test live n e f = rw (sym e, f) refl

failed : (test : Bool) (n : ℕ) → false ≡ test → None ≡ then_some test n
failed test n e = rw (sym e) refl

-- each way out of the check of the tables, after the tests that led to it
module _ (s : Store) (floats window : ℕ) (t : Tables) (fit : (i : ℕ) → get_or t.reference_count.now i 0 < 65536) where
  abbrev q : PointStore (Unit {0})
  q = point_store s (tables_lent floats window t)

  abbrev first : Bool
  first = record_test s floats window (length t.reference_count.now) (length t.location.now) (length t.index_starts.now) (length t.index_ends.now)

  abbrev second : Bool
  second = points_test s t.reference_count.now t.location.now t.index_starts.now t.index_ends.now

  abbrev third : Option LabelsFree
  third = labels_checked s.store_labels s.classes s.capacity (label_half q)

  floats_are : length q.memory.store ≡ floats
  floats_are = length-replicate {A = Unit {0}} floats tt

  window_is : length q.memory.last_known_shingle ≡ window
  window_is = length-replicate {A = Unit {0}} window tt

  pub record_failed : first ≡ false → None ≡ checked q
  record_failed e = record_ill q floats window floats_are window_is fit e

  module _ (e : first ≡ true) where
    pub points_failed : false ≡ second → None ≡ checked q
    points_failed g = points_ill q floats window floats_are window_is fit e 0 (failed second 0 g)

    module _ (live : ℕ) (g : true ≡ second) (h : live ≡ counts_live (table_length s) t.reference_count.now) where
      pub labels_failed : None ≡ third → None ≡ checked q
      labels_failed k = labels_ill q floats window floats_are window_is fit e live _ (passed second live _ g h) k

      pub all_found : (free : LabelsFree) → Some free ≡ third → Some (record { live = live; free = free }) ≡ checked q
      all_found free k = all_well q floats window floats_are window_is fit e live (passed second live _ g h) free k

-- with labels off none are counted
pub labels_off : (on : Bool) (classes : List ℕ) (capacity : ℕ) (l : Labels) → on ≡ false → Some (record { labels = 0; slots = 0 }) ≡ labels_checked on classes capacity l
labels_off on classes capacity l e = rw e refl

module _ (s : Store) (counts location starts ends : List ℕ) where
  abbrev n : ℕ
  n = table_length s

  table_empty : table_test s counts location starts ends ≡ true → empty_uncounted n counts location ≡ true
  unfolding table_test
  table_empty e =
      let t = counted s.index_manager counts starts ends in
      let a = both (managed n t) _ e in
      let b = both (free_uncounted n t) _ a.1 in
      (both (empty_uncounted n counts location) (places_end n s location) b.1).0

  pub points_by : {t d : Bool} → t ≡ table_test s counts location starts ends → d ≡ places_distinct n location → (t && d) ≡ points_test s counts location starts ends
  points_by e f = ap₂ (λ (a b : Bool). a && b) e f ∙ points_are s counts location starts ends

  pub table_failed : false ≡ table_test s counts location starts ends → false ≡ points_test s counts location starts ends
  table_failed e = points_by {d = places_distinct n location} e refl

  pub distinct_failed : true ≡ table_test s counts location starts ends → n ≤ length location → false ≡ places_distinct (length (take n location)) (take n location) → false ≡ points_test s counts location starts ends
  distinct_failed e lent f = points_by e (f ∙ distinct_part n location lent)

  -- by the first n counts and places
  module _ (live limit : ℕ) (f : TableFound s counts location live limit) (w : table_test s counts location starts ends ≡ true) (counts_lent : n ≤ length counts) (lent : n ≤ length location) (list : List ℕ) (rises : Bool) (r : rises ≡ true → (length list ≡ live) × Rises (length (take n location)) 65535 (take n location) list) where
    pub list_distinct : rises ≡ true → places_distinct (length (take n location)) (take n location) ≡ true
    list_distinct t =
        distinct_part n location lent
        ∙ rising_distinct n counts location list (rises_part n location lent 65535 list (r t).1) lent (table_empty w) ((r t).0 ∙ f.live_is)

    pub list_known : (listed : Bool) → listed ≡ (rises && single_counts (length (take n counts)) (take n counts)) → ListKnown live (take n counts) list listed
    list_known listed e t =
        let b = both rises (single_counts (length (take n counts)) (take n counts)) (sym e ∙ t) in (
          (r b.0).0,
          once_part n counts counts_lent list
              ∙ sym (rising_listed n counts location list (rises_part n location lent 65535 list (r b.0).1) lent (table_empty w) ((r b.0).0 ∙ f.live_is))
              ∙ sym (single_part n counts counts_lent)
              ∙ b.1,
        )

  -- a hold as its own calls leave it
  pub steady_known : n ≤ length counts → (list : List ℕ) → Steady s counts location starts ends (length list) list → ListKnown (length list) (take n counts) list true
  steady_known lent list t e = (refl, once_part n counts lent list ∙ (rw (take-length list) at t.listed))
