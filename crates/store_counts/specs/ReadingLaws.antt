-- The ways out of the readings.
use Rattle.std.specs.Prelude.{ℕ, Bool, true, false, ◌≡◌, get_or, Option, Some, None, Ok, Err, []}
use Rattle.std.specs.Option.{ok_or}
use Rattle.std.proofs.Common.{sym, ◌∙◌}
use Rattle.terms.specs.declared.Refusal.{Refusal}
use Rattle.terms.specs.declared.Refusal.TheVariants.{IllFormed}
use Rattle.terms.specs.Refusals.{number}
use Rattle.interval_store_manager.specs.Calls.{go}
use Rattle.labels.specs.Counted.{live_number}
use Rattle.store_definitions.specs.declared.Store.{Store}
use Rattle.store_definitions.specs.Memory.{Memory, PointStore, point_store}
use Rattle.store_definitions.specs.Answers.{is, refused}
use Rattle.store_definitions.specs.Parts.{table_length}
use Rattle.store_definitions.specs.Decisions.{form_decided, live, touch_decided}
use Rattle.store_definitions.specs.WellFormed.{well_formed}
use Rattle.store_definitions.specs.Counting.{count_spec, live_number_spec, free_start_spec}
use Rattle.store_laws.specs.IllFormedLaws.{count_ill, live_number_ill, free_start_ill}
use Rattle.store_check.specs.declared.Figures.{Figures}
use Rattle.store_check.specs.CheckLaws.{elementless}
use Rattle.store_check.specs.Checked.{checked, checked_some, checked_none, check_passed, check_failed}
use Rattle.store_check.specs.Entries.{counts_live}
use Rattle.store_check.specs.Figures.{counts_live_lem}
use Rattle.store_counts.specs.Tables.{counts_alone}
use Rattle.store_counts.specs.TestLaws.{live_alone}

module _ {E : Type 0} (p : PointStore E) where
  pub well : well_formed p ≡ true → form_decided p ≡ go
  unfolding form_decided
  well e = rw e

  pub count_dead : well_formed p ≡ true → (i : ℕ) → live p i ≡ false → refused 5 ≡ count_spec p i
  unfolding count_spec touch_decided
  count_dead e i d = rw (well e, d)

  pub count_live : well_formed p ≡ true → (i : ℕ) → live p i ≡ true → (n : ℕ) → n ≡ get_or p.memory.reference_count i 0 → is n ≡ count_spec p i
  unfolding count_spec touch_decided
  count_live e i d n f = rw (well e, d, f)

  pub live_number_well : well_formed p ≡ true → (n : ℕ) → n ≡ counts_live (table_length p.header) p.memory.reference_count → is n ≡ live_number_spec p
  unfolding live_number_spec live_number
  live_number_well e n f = rw (well e, f, counts_live_lem (table_length p.header) p.memory.reference_count)

  pub free_start_well_lem : well_formed p ≡ true → is p.header.start_free_region ≡ free_start_spec p
  unfolding free_start_spec
  free_start_well_lem e = rw (well e)

-- after the check
pub checked_well : {E R : Type 0} (p : PointStore E) (answer : Option Figures) (why : R) (figures : Figures) → answer ≡ checked p → ok_or answer why ≡ Ok figures → well_formed p ≡ true
checked_well p None why figures a e = cc
checked_well p (Some x) why figures a e = (checked_some p x (sym a)).0

pub checked_ill : {E R : Type 0} (p : PointStore E) (answer : Option Figures) (why other : R) → answer ≡ checked p → ok_or answer why ≡ Err other → (well_formed p ≡ false) × (other ≡ why)
checked_ill p None why other a e = (checked_none p (sym a), cc)
checked_ill p (Some x) why other a e = cc

-- it sees of the elements how many there are
module _ {E : Type 0} (s : Store) (m : Memory E) (answer : Option Figures) (a : answer ≡ checked (point_store s (elementless m))) where
  abbrev p : PointStore E
  p = point_store s m

  pub count_refused : (why : Refusal) → ok_or answer IllFormed ≡ Err why → (i : ℕ) → refused (number why) ≡ count_spec p i
  count_refused why e i = let f = check_failed s m answer IllFormed a why e in rw f.1 (sym (count_ill p f.0 i))

  pub live_number_refused : (why : Refusal) → ok_or answer IllFormed ≡ Err why → refused (number why) ≡ live_number_spec p
  live_number_refused why e = let f = check_failed s m answer IllFormed a why e in rw f.1 (sym (live_number_ill p f.0))

  pub free_start_refused : (why : Refusal) → ok_or answer IllFormed ≡ Err why → refused (number why) ≡ free_start_spec p
  free_start_refused why e = let f = check_failed s m answer IllFormed a why e in rw f.1 (sym (free_start_ill p f.0))

  module _ (figures : Figures) (e : ok_or answer IllFormed ≡ Ok figures) where
    pub live_number_read : is figures.live ≡ live_number_spec p
    live_number_read = let f = check_passed s m answer IllFormed a figures e in live_number_well p f.0 figures.live f.1.live_is

    pub free_start_read : is s.start_free_region ≡ free_start_spec p
    free_start_read = free_start_well_lem p (check_passed s m answer IllFormed a figures e).0

    module _ (i : ℕ) (used : Bool) (u : used ≡ live (point_store s (counts_alone m.reference_count [])) i) where
      pub count_of_dead : used ≡ false → refused 5 ≡ count_spec p i
      count_of_dead d = count_dead p (check_passed s m answer IllFormed a figures e).0 i (sym (u ∙ live_alone p i) ∙ d)

      pub count_of_live : used ≡ true → (n : ℕ) → n ≡ get_or m.reference_count i 0 → is n ≡ count_spec p i
      count_of_live d n f = count_live p (check_passed s m answer IllFormed a figures e).0 i (sym (u ∙ live_alone p i) ∙ d) n f
