-- What the check answers: what is counted of a store that is well-formed, and of any other nothing.
use Rattle.std.specs.Prelude.{ℕ, Bool, true, false, List, cond, length, Option, Some, None, Ok, Err, ◌≡◌}
use Rattle.std.proofs.Common.{refl, sym, ap, ◌∙◌, subst}
use Rattle.terms.specs.declared.Refusal.{Refusal}
use Rattle.std.specs.Bool.{then_some}
use Rattle.std.specs.Option.{ok_or}
use Rattle.label_check.specs.Checked.{free_in}
use Rattle.store_definitions.specs.declared.Store.{Store}
use Rattle.store_definitions.specs.declared.tables.Tables.{Tables}
use Rattle.store_definitions.specs.Memory.{Memory, PointStore, point_store}
use Rattle.store_definitions.specs.Lent.{lent, memory, PointLists, read_as}
use Rattle.labels.specs.declared.tables.LabelTables.{LabelTables}
use Rattle.labels.specs.Lent.{LabelLists, lists_lent}
use Rattle.store_definitions.specs.Parts.{table_length, label_half}
use Rattle.store_definitions.specs.WellFormed.{well_formed}
use Rattle.store_check.specs.declared.Figures.{Figures}
use Rattle.store_check.specs.CheckLaws.{elementless, well_formed_lengths}
use Rattle.store_check.specs.Entries.{counts_live}
use Rattle.store_check.specs.Figures.{FiguresOf}
use Rattle.store_check.specs.Tables.{tables_lent}

-- with labels off the free label indices and slots are not counted
abbrev pub figures_in : {E : Type 0} → PointStore E → Figures
figures_in p =
    record {
      live = counts_live (table_length p.header) p.memory.reference_count;
      free = cond p.header.store_labels (free_in (label_half p)) (record { labels = 0; slots = 0 });
    }

unfoldable pub checked : {E : Type 0} → PointStore E → Option Figures
checked p = cond (well_formed p) (Some (figures_in p)) None

-- of the elements the check sees how many there are
pub checked_lengths : {E : Type 0} (s : Store) (m : Memory E) → checked (point_store s (elementless m)) ≡ checked (point_store s m)
unfolding checked
checked_lengths s m = ap (λ (b : Bool). cond b (Some (figures_in (point_store s m))) None) (well_formed_lengths s m)

figures_are : {E : Type 0} (p : PointStore E) → FiguresOf (figures_in p) p
figures_are p = record { live_is = refl; labels_free = λ on. rw on (record { labels = refl; slots = refl }) }

-- what is counted where a test holds: that of the store, or that of what stands above it
abbrev pub figures_if : {E : Type 0} → PointStore E → Bool → Option Figures
figures_if p b = cond b (Some (figures_in p)) None

module _ {E : Type 0} (p : PointStore E) where
  pub figures_some : (b : Bool) (f : Figures) → figures_if p b ≡ Some f → (b ≡ true) × FiguresOf f p
  figures_some true f e =
      let g : figures_in p ≡ f = cc in (refl, subst (λ (x : Figures). FiguresOf x p) g (figures_are p))
  figures_some false f e = cc

  pub figures_same : (b : Bool) (f : Figures) → figures_if p b ≡ Some f → figures_in p ≡ f
  figures_same true f e = cc
  figures_same false f e = cc

  pub figures_none : (b : Bool) → figures_if p b ≡ None → b ≡ false
  figures_none true e = cc
  figures_none false e = refl

  pub figures_then : (b : Bool) (f : Figures) → figures_in p ≡ f → then_some b f ≡ figures_if p b
  figures_then true f e = ap Some (sym e)
  figures_then false f e = refl

  -- the same after the answer has gone through `ok_or`
  pub figures_ok : (b : Bool) (answer : Option Figures) (why : Refusal) (f : Figures) → answer ≡ figures_if p b → ok_or answer why ≡ Ok f → (b ≡ true) × FiguresOf f p
  figures_ok b None why f e g = cc
  figures_ok b (Some x) why f e g = let h : x ≡ f = cc in figures_some b f (sym e ∙ ap Some h)

  pub figures_err : (b : Bool) (answer : Option Figures) (why other : Refusal) → answer ≡ figures_if p b → ok_or answer why ≡ Err other → (b ≡ false) × (other ≡ why)
  figures_err b None why other e g = (figures_none b (sym e), cc)
  figures_err b (Some x) why other e g = cc

  pub checked_some : (f : Figures) → checked p ≡ Some f → (well_formed p ≡ true) × FiguresOf f p
  unfolding checked
  checked_some f e = figures_some (well_formed p) f e

  pub checked_figures : (f : Figures) → checked p ≡ Some f → figures_in p ≡ f
  unfolding checked
  checked_figures f e = figures_same (well_formed p) f e

  pub checked_none : checked p ≡ None → well_formed p ≡ false
  unfolding checked
  checked_none e = figures_none (well_formed p) e

  pub checked_ok : (answer : Option Figures) (why : Refusal) (f : Figures) → answer ≡ checked p → ok_or answer why ≡ Ok f → (well_formed p ≡ true) × FiguresOf f p
  unfolding checked
  checked_ok answer why f e g = figures_ok (well_formed p) answer why f e g

  pub checked_err : (answer : Option Figures) (why other : Refusal) → answer ≡ checked p → ok_or answer why ≡ Err other → (well_formed p ≡ false) × (other ≡ why)
  unfolding checked
  checked_err answer why other e g = figures_err (well_formed p) answer why other e g

-- what a call learns of the store with its elements from its check of the lent tables
module _ {E : Type 0} (s : Store) (m : Memory E) (answer : Option Figures) (why : Refusal) (a : answer ≡ checked (point_store s (elementless m))) where
  pub check_passed : (f : Figures) → ok_or answer why ≡ Ok f → (well_formed (point_store s m) ≡ true) × FiguresOf f (point_store s m)
  check_passed f e = checked_ok (point_store s m) answer why f (a ∙ checked_lengths s m) e

  pub check_failed : (other : Refusal) → ok_or answer why ≡ Err other → (well_formed (point_store s m) ≡ false) × (other ≡ why)
  check_failed other e = checked_err (point_store s m) answer why other (a ∙ checked_lengths s m) e

-- the same of a call that writes, whose slices are lent to the check as one value
pub lent_checked : (s : Store) (m : Memory ℕ) (t : Tables) (answer : Option Figures) → lent m.store m.last_known_shingle t ≡ m → answer ≡ checked (point_store s (tables_lent (length m.store) (length m.last_known_shingle) t)) → answer ≡ checked (point_store s (elementless m))
lent_checked s m t answer e a = a ∙ ap (λ (n : Memory ℕ). checked (point_store s (elementless n))) e

module _ (s : Store) (m : Memory ℕ) (t : Tables) (answer : Option Figures) (why : Refusal) (e : lent m.store m.last_known_shingle t ≡ m) (a : answer ≡ checked (point_store s (tables_lent (length m.store) (length m.last_known_shingle) t))) where
  pub lent_passed : (f : Figures) → ok_or answer why ≡ Ok f → (well_formed (point_store s m) ≡ true) × FiguresOf f (point_store s m)
  lent_passed f o = check_passed s m answer why (lent_checked s m t answer e a) f o

  pub lent_failed : (other : Refusal) → ok_or answer why ≡ Err other → (well_formed (point_store s m) ≡ false) × (other ≡ why)
  lent_failed other o = check_failed s m answer why (lent_checked s m t answer e a) other o

-- and of tables that a form of the lent slices hands to the check
module _ (s : Store) (store window : List ℕ) (p : PointLists) (x : LabelLists) (l : LabelTables) (l_is : lists_lent l ≡ x) (t : Tables) (t_is : (store window : List ℕ) → lent store window t ≡ memory store window p (lists_lent l)) (answer : Option Figures) (why : Refusal) (a : answer ≡ checked (point_store s (tables_lent (length store) (length window) t))) where
  abbrev read : Memory ℕ
  read = memory store window p x

  pub read_passed : (f : Figures) → ok_or answer why ≡ Ok f → (well_formed (point_store s read) ≡ true) × FiguresOf f (point_store s read)
  read_passed f o = lent_passed s read t answer why (read_as t p l x t_is l_is store window) a f o

  pub read_failed : (other : Refusal) → ok_or answer why ≡ Err other → (well_formed (point_store s read) ≡ false) × (other ≡ why)
  read_failed other o = lent_failed s read t answer why (read_as t p l x t_is l_is store window) a other o
