-- What the check of a hold answers: what is counted of the store of one that is well-formed, and of any other nothing.
use Rattle.std.specs.Prelude.{ℕ, true, false, Option, Some, None, Ok, Err, ◌≡◌}
use Rattle.std.specs.Bool.{then_some}
use Rattle.std.specs.Option.{ok_or}
use Rattle.std.proofs.Common.{refl, sym, ap, ◌∙◌}
use Rattle.terms.specs.declared.Refusal.{Refusal}
use Rattle.store_definitions.specs.declared.tables.Tables.{Tables}
use Rattle.store_definitions.specs.Lent.{lent}
use Rattle.store_check.specs.declared.Figures.{Figures}
use Rattle.store_check.specs.Figures.{FiguresOf}
use Rattle.store_check.specs.Checked.{figures_if, figures_then, figures_some, figures_none, figures_ok, figures_err, checked, checked_figures, checked_some, checked_none}
use Rattle.hold_definitions.specs.declared.Hold.{Hold}
use Rattle.hold_definitions.specs.Lent.{hold_lent}
use Rattle.hold_definitions.specs.Memory.{HoldMemory, PointHold, point_hold, store_of}
use Rattle.hold_definitions.specs.WellFormed.{hold_well_formed}
use Rattle.hold_check.specs.declared.store.StoreListed.{StoreListed}
use Rattle.hold_check.specs.CheckLaws.{recorded, listed, hold_ill_store, hold_ill_record, hold_listed}

-- what is counted, of what is found of a store
abbrev pub figures_found : Option StoreListed → Option Figures
figures_found (Some x) = Some x.figures
figures_found None = None

unfoldable pub hold_checked : {E : Type 0} → PointHold E → Option Figures
hold_checked h = figures_if (store_of h) (hold_well_formed h)

module _ {E : Type 0} (h : PointHold E) where
  pub hold_checked_some : (f : Figures) → hold_checked h ≡ Some f → (hold_well_formed h ≡ true) × FiguresOf f (store_of h)
  unfolding hold_checked
  hold_checked_some f e = figures_some (store_of h) (hold_well_formed h) f e

  pub hold_checked_none : hold_checked h ≡ None → hold_well_formed h ≡ false
  unfolding hold_checked
  hold_checked_none e = figures_none (store_of h) (hold_well_formed h) e

  -- the same after the answer has gone through `ok_or`
  pub hold_checked_ok : (answer : Option Figures) (why : Refusal) (f : Figures) → answer ≡ hold_checked h → ok_or answer why ≡ Ok f → (hold_well_formed h ≡ true) × FiguresOf f (store_of h)
  unfolding hold_checked
  hold_checked_ok answer why f e g = figures_ok (store_of h) (hold_well_formed h) answer why f e g

  pub hold_checked_err : (answer : Option Figures) (why other : Refusal) → answer ≡ hold_checked h → ok_or answer why ≡ Err other → (hold_well_formed h ≡ false) × (other ≡ why)
  unfolding hold_checked
  hold_checked_err answer why other e g = figures_err (store_of h) (hold_well_formed h) answer why other e g

  -- the check is that of the record, of the store, and then of the list
  pub record_ill : recorded h ≡ false → None ≡ hold_checked h
  unfolding hold_checked
  record_ill e = rw (sym (hold_ill_record h e)) refl

  pub store_ill : checked (store_of h) ≡ None → None ≡ hold_checked h
  unfolding hold_checked
  store_ill e = rw (sym (hold_ill_store h (checked_none (store_of h) e))) refl

  pub by_list : recorded h ≡ true → (f : Figures) → checked (store_of h) ≡ Some f → then_some (listed h f.live) f ≡ hold_checked h
  unfolding hold_checked
  by_list r f e =
      let w = checked_some (store_of h) f e in
      figures_then (store_of h) (listed h f.live) f (checked_figures (store_of h) f e)
      ∙ ap (figures_if (store_of h)) (hold_listed h w.0 r f.live w.1.live_is)

-- what a call that writes learns of the hold from the check of its slices, lent as one value
module _ (r : Hold) (m : HoldMemory ℕ) (t : Tables) (answer : Option Figures) (why : Refusal) (e : lent m.store.store m.store.last_known_shingle t ≡ m.store) (a : answer ≡ hold_checked (point_hold r (hold_lent m.store.store m.store.last_known_shingle t m.held_indices m.held_labels))) where
  of_memory : answer ≡ hold_checked (point_hold r m)
  of_memory = rw e at a

  pub hold_passed : (f : Figures) → ok_or answer why ≡ Ok f → (hold_well_formed (point_hold r m) ≡ true) × FiguresOf f (store_of (point_hold r m))
  hold_passed f o = hold_checked_ok (point_hold r m) answer why f of_memory o

  pub hold_failed : (other : Refusal) → ok_or answer why ≡ Err other → (hold_well_formed (point_hold r m) ≡ false) × (other ≡ why)
  hold_failed other o = hold_checked_err (point_hold r m) answer why other of_memory o
