-- What the check of a product answers: what is counted of the store of one that is well-formed, and of any other nothing.
use Rattle.std.specs.Prelude.{ℕ, ◌<◌, List, true, false, length, Option, Some, None, Ok, Err, ◌≡◌}
use Rattle.std.specs.Bool.{then_some}
use Rattle.std.specs.Option.{ok_or}
use Rattle.std.proofs.Common.{refl, sym, ap, ◌∙◌}
use Rattle.terms.specs.declared.Refusal.{Refusal}
use Rattle.store_definitions.specs.declared.tables.Tables.{Tables}
use Rattle.store_definitions.specs.Memory.{Memory, point_store}
use Rattle.store_definitions.specs.Lent.{lent}
use Rattle.store_check.specs.declared.Figures.{Figures}
use Rattle.store_check.specs.Figures.{FiguresOf}
use Rattle.store_check.specs.Checked.{figures_if, figures_then, figures_some, figures_none, figures_ok, figures_err, checked, checked_figures, checked_lengths, checked_some, checked_none}
use Rattle.store_check.specs.Tables.{tables_lent}
use Rattle.probes_definitions.specs.declared.Probes.{Probes}
use Rattle.probes_definitions.specs.Memory.{PointProbes, point_probes, store_of}
use Rattle.probes_definitions.specs.WellFormed.{probes_well_formed}
use Rattle.probes_check.specs.CheckLaws.{ill_store, shingle_positive, own_tests, own_tests_lem}

unfoldable pub probes_checked : {E : Type 0} → PointProbes E → Option Figures
probes_checked p = figures_if (store_of p) (probes_well_formed p)

module _ {E : Type 0} (p : PointProbes E) where
  pub probes_checked_some : (f : Figures) → probes_checked p ≡ Some f → (probes_well_formed p ≡ true) × FiguresOf f (store_of p)
  unfolding probes_checked
  probes_checked_some f e = figures_some (store_of p) (probes_well_formed p) f e

  pub probes_checked_none : probes_checked p ≡ None → probes_well_formed p ≡ false
  unfolding probes_checked
  probes_checked_none e = figures_none (store_of p) (probes_well_formed p) e

  -- the same after the answer has gone through `ok_or`
  pub probes_checked_ok : (answer : Option Figures) (why : Refusal) (f : Figures) → answer ≡ probes_checked p → ok_or answer why ≡ Ok f → (probes_well_formed p ≡ true) × FiguresOf f (store_of p)
  unfolding probes_checked
  probes_checked_ok answer why f e g = figures_ok (store_of p) (probes_well_formed p) answer why f e g

  pub probes_checked_err : (answer : Option Figures) (why other : Refusal) → answer ≡ probes_checked p → ok_or answer why ≡ Err other → (probes_well_formed p ≡ false) × (other ≡ why)
  unfolding probes_checked
  probes_checked_err answer why other e g = figures_err (store_of p) (probes_well_formed p) answer why other e g

  -- the check is that of the store, and then the product's own tests
  pub store_ill : checked (store_of p) ≡ None → None ≡ probes_checked p
  unfolding probes_checked
  store_ill e = rw (sym (ill_store p (checked_none (store_of p) e))) refl

  pub by_tests : (f : Figures) → checked (store_of p) ≡ Some f → length p.header.tallies ≡ 8 → then_some (own_tests p) f ≡ probes_checked p
  unfolding probes_checked
  by_tests f e g =
      figures_then (store_of p) (own_tests p) f (checked_figures (store_of p) f e)
      ∙ ap (figures_if (store_of p)) (own_tests_lem p (checked_some (store_of p) f e).0 g)

-- the same of a store whose tables are lent as one value, and of whose floats the check sees how many there are
module _ (r : Probes) (store window : List ℕ) (t : Tables) where
  abbrev of_lent : PointProbes ℕ
  of_lent = point_probes r (lent store window t)

  abbrev store_checked : Option Figures
  store_checked = checked (point_store r.store (tables_lent (length store) (length window) t))

  same_store : store_checked ≡ checked (store_of of_lent)
  same_store = checked_lengths r.store of_lent.memory

  pub lent_ill : store_checked ≡ None → None ≡ probes_checked of_lent
  lent_ill e = store_ill of_lent (sym same_store ∙ e)

  module _ (f : Figures) (e : store_checked ≡ Some f) where
    pub lent_shingle : 0 < r.store.shingle_size
    lent_shingle = shingle_positive of_lent (checked_some (store_of of_lent) f (sym same_store ∙ e)).0

    pub lent_tests : length r.tallies ≡ 8 → then_some (own_tests of_lent) f ≡ probes_checked of_lent
    lent_tests g = by_tests of_lent f (sym same_store ∙ e) g

-- what a call that writes learns of the product from the check of its slices, lent as one value
module _ (r : Probes) (m : Memory ℕ) (t : Tables) (answer : Option Figures) (why : Refusal) (e : lent m.store m.last_known_shingle t ≡ m) (a : answer ≡ probes_checked (point_probes r (lent m.store m.last_known_shingle t))) where
  of_memory : answer ≡ probes_checked (point_probes r m)
  of_memory = a ∙ ap (λ (n : Memory ℕ). probes_checked (point_probes r n)) e

  pub probes_passed : (f : Figures) → ok_or answer why ≡ Ok f → (probes_well_formed (point_probes r m) ≡ true) × FiguresOf f (point_store r.store m)
  probes_passed f o = probes_checked_ok (point_probes r m) answer why f of_memory o

  pub probes_failed : (other : Refusal) → ok_or answer why ≡ Err other → (probes_well_formed (point_probes r m) ≡ false) × (other ≡ why)
  probes_failed other o = probes_checked_err (point_probes r m) answer why other of_memory o
