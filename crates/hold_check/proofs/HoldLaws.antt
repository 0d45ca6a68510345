-- The ways out of the check of a hold, by what is found of its store, and what the list's test may rely on.
use Rattle.std.proofs.Common.{◌≡◌, ℕ, ◌≤◌, Bool, true, Option, Some, None, List, length, take, sym, ap, ◌∙◌, length-take-le}
use Rattle.std.specs.Bool.{then_some}
use Rattle.store_definitions.specs.declared.tables.Tables.{Tables}
use Rattle.store_definitions.specs.Memory.{point_store}
use Rattle.store_definitions.specs.Parts.{table_length}
use Rattle.store_check.specs.Checked.{checked, checked_lengths, checked_some}
use Rattle.store_check.specs.Tables.{tables_lent}
use Rattle.hold_definitions.specs.declared.Hold.{Hold}
use Rattle.hold_definitions.specs.Lent.{hold_lent}
use Rattle.hold_definitions.specs.Memory.{PointHold, point_hold, store_of}
use Rattle.hold_check.specs.declared.store.StoreListed.{StoreListed}
use Rattle.hold_check.specs.CheckLaws.{recorded, readable, list_ready, list_holds}
use Rattle.hold_check.specs.Checked.{figures_found, hold_checked, store_ill, by_list}
use Rattle.hold_check.proofs.PartLaws.{sized, list_part}

module _ (r : Hold) (store window : List ℕ) (t : Tables) (indices labels : List ℕ) where
  abbrev h : PointHold ℕ
  h = point_hold r (hold_lent store window t indices labels)

  abbrev n : ℕ
  n = table_length r.store

  pub held_lent : recorded h ≡ true → r.held ≡ length (take r.held indices)
  held_lent e = sym (length-take-le r.held indices (readable h e).indices_lent)

  module _ (answer : Option StoreListed) (found : figures_found answer ≡ checked (point_store r.store (tables_lent (length store) (length window) t))) where
    of_store : (x : Option StoreListed) → answer ≡ x → checked (store_of h) ≡ figures_found x
    of_store x e = sym (found ∙ checked_lengths r.store h.memory.store) ∙ ap figures_found e

    pub found_ill : answer ≡ None → None ≡ hold_checked h
    found_ill e = store_ill h (of_store None e)

    module _ (x : StoreListed) (e : answer ≡ Some x) (f : recorded h ≡ true) where
      ready : ((n ≤ 1024) × ((n ≤ length t.reference_count.now) × (r.held ≤ length indices))) × ((r.store.store_labels ≡ true → (r.store.capacity ≤ 1024) × ((r.store.capacity ≤ length t.label_tables.label_count.now) × (r.held ≤ length labels))))
      ready = list_ready h (checked_some (store_of h) _ (of_store (Some x) e)).0 f

      pub counts_lent : n ≡ length (take n t.reference_count.now)
      counts_lent = sym (sized n t.reference_count.now ready.0.1.0)

      pub list_asked : (length (take n t.reference_count.now) ≤ 1024) × ((r.store.store_labels ≡ true → (r.store.capacity ≤ 1024) × ((r.store.capacity ≤ length t.label_tables.label_count.now) × (length (take r.held indices) ≤ length labels))))
      list_asked = (rw (sized n t.reference_count.now ready.0.1.0) ready.0.0, rw (length-take-le r.held indices ready.0.1.1) ready.1)

      pub found_by_list : (well : Bool) → well ≡ list_holds x.figures.live (length (take r.held indices)) (length (take n t.reference_count.now)) r.store.capacity r.store.store_labels (take n t.reference_count.now) t.label_tables.label_count.now (take r.held indices) labels → then_some well x.figures ≡ hold_checked h
      found_by_list well w =
          rw (w, list_part x.figures.live r.held n r.store.capacity r.store.store_labels t.reference_count.now t.label_tables.label_count.now indices labels ready.0.1.0 ready.0.1.1)
          (by_list h f x.figures (of_store (Some x) e))
