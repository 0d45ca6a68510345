-- What an adjust knows after its check, whatever form its list has.
use Rattle.std.specs.Prelude.{ℕ, true, ◌≡◌, List, length, Option, Ok, Err}
use Rattle.std.specs.Option.{ok_or}
use Rattle.std.proofs.Common.{sym, ◌∙◌}
use Rattle.terms.specs.declared.Refusal.TheVariants.{IllFormed}
use Rattle.terms.specs.Refusals.{number}
use Rattle.store_definitions.specs.declared.AdjustRefusal.{AdjustRefusal}
use Rattle.store_definitions.specs.declared.Store.{Store}
use Rattle.store_definitions.specs.declared.tables.Tables.{Tables}
use Rattle.store_definitions.specs.Lent.{lent}
use Rattle.store_definitions.specs.Memory.{Memory, point_store}
use Rattle.store_definitions.specs.Answers.{refused_after, outcome}
use Rattle.store_definitions.specs.Counting.{Pairing, adjust_spec}
use Rattle.store_definitions.specs.WellFormed.{well_formed}
use Rattle.store_laws.specs.IllFormedLaws.{adjust_ill}
use Rattle.store_check.specs.declared.Figures.{Figures}
use Rattle.store_check.specs.CheckLaws.{elementless}
use Rattle.store_check.specs.Tables.{tables_lent}
use Rattle.store_check.specs.Checked.{checked, checked_lengths, lent_checked}
use Rattle.store_counts.specs.ReadingLaws.{checked_well, checked_ill}

-- no pair stands before it
abbrev pub ill_formed : AdjustRefusal
ill_formed = record { why = IllFormed; pairs_before = 0 }

-- the slices are lent to the check as one value
module _ (s : Store) (m : Memory ℕ) (t : Tables) (answer : Option Figures) (e : lent m.store m.last_known_shingle t ≡ m) (a : answer ≡ checked (point_store s (tables_lent (length m.store) (length m.last_known_shingle) t))) where
  pub adjust_ready : (f : Figures) → ok_or answer ill_formed ≡ Ok f → well_formed (point_store s (elementless m)) ≡ true
  adjust_ready f o = checked_well (point_store s (elementless m)) answer ill_formed f (lent_checked s m t answer e a) o

  pub adjust_ill_formed : (refusal : AdjustRefusal) → ok_or answer ill_formed ≡ Err refusal → (qs : List Pairing) → outcome (refused_after (number refusal.why) refusal.pairs_before) (point_store s m) ≡ adjust_spec (point_store s m) qs
  adjust_ill_formed refusal o qs =
      let f = checked_ill (point_store s m) answer ill_formed refusal (lent_checked s m t answer e a ∙ checked_lengths s m) o in
      rw f.1 (sym (adjust_ill (point_store s m) f.0 qs))
