-- Each way out of the check is what `checked` answers.
use Prim.Native.Nat.{ℕ, ◌<◌}
use Rattle.std.specs.Prelude.{Bool, true, false, cond, List, length, get_or, Option, Some, None, ◌≡◌}
use Rattle.std.specs.Bool.{then_some}
use Rattle.std.proofs.Common.{sym, ◌∙◌}
use Rattle.std.proofs.lemmas.Option.{cond_some}
use Rattle.labels.specs.declared.LabelsFree.{LabelsFree}
use Rattle.labels.specs.Labels.{Labels, labels_well}
use Rattle.label_check.specs.Checked.{free_in, half_checked, labels_checked}
use Rattle.label_check.specs.CheckedLaws.{found, not_found}
use Rattle.store_definitions.specs.Memory.{Memory, PointStore}
use Rattle.store_definitions.specs.Parts.{table_length, label_half}
use Rattle.store_definitions.specs.WellFormed.{well_formed}
use Rattle.store_check.specs.CheckLaws.{record_test, record_fails, points_fail, labels_decide}
use Rattle.store_check.specs.Checked.{checked, figures_in}
use Rattle.store_check.specs.Entries.{counts_live}
use Rattle.store_check.specs.PointsTest.{points_test, test_passed, test_failed}

free_is : (on : Bool) (classes : List ℕ) (c : ℕ) (l : Labels) (free : LabelsFree) → Some free ≡ labels_checked on classes c l → free ≡ cond on (free_in l) (record { labels = 0; slots = 0 })
unfolding half_checked
free_is true classes c l free e = sym (cond_some (labels_well classes c l) (free_in l) free (sym e)).1
free_is false classes c l free e = cc

module _ {E : Type 0} (q : PointStore E) where
  ill : well_formed q ≡ false → None ≡ checked q
  unfolding checked
  ill e = rw e

  well : well_formed q ≡ true → Some (figures_in q) ≡ checked q
  unfolding checked
  well e = rw e

  module _ (floats window : ℕ) (f : length q.memory.store ≡ floats) (w : length q.memory.last_known_shingle ≡ window) (fit : (i : ℕ) → get_or q.memory.reference_count i 0 < 65536) where
    abbrev held : Memory E
    held = q.memory

    abbrev first : Bool
    first = record_test q.header floats window (length held.reference_count) (length held.location) (length held.index_starts) (length held.index_ends)

    abbrev second : Bool
    second = points_test q.header held.reference_count held.location held.index_starts held.index_ends

    abbrev counted : Option LabelsFree
    counted = labels_checked q.header.store_labels q.header.classes q.header.capacity (label_half q)

    pub record_ill : first ≡ false → None ≡ checked q
    record_ill e = ill (sym (record_fails q floats window f w fit e))

    pub points_ill : first ≡ true → (live : ℕ) → None ≡ then_some second live → None ≡ checked q
    points_ill e live g = ill (sym (points_fail q floats window f w fit e (test_failed second live g)))

    pub labels_ill : first ≡ true → (live x : ℕ) → Some live ≡ then_some second x → None ≡ counted → None ≡ checked q
    labels_ill e live x g h =
        ill (sym (not_found q.header.store_labels q.header.classes q.header.capacity (label_half q) h ∙ labels_decide q floats window f w fit e (test_passed second x live g).0))

    pub all_well : first ≡ true → (live : ℕ) → Some live ≡ then_some second (counts_live (table_length q.header) held.reference_count) → (free : LabelsFree) → Some free ≡ counted → Some (record { live = live; free = free }) ≡ checked q
    all_well e live g free h =
        let p = test_passed second _ live g in
        let ok = (found q.header.store_labels q.header.classes q.header.capacity (label_half q) free h).0 ∙ labels_decide q floats window f w fit e p.0 in
        rw (p.1, free_is q.header.store_labels q.header.classes q.header.capacity (label_half q) free h) (well (sym ok))
