-- The decisions of an inc and a dec, by the tests that lead to them.
use Rattle.std.specs.Prelude.{ℕ, ◌≤◌, ◌<◌, Bool, true, false, List, [], ◌≡◌, get_or, ltb, eqb, Result, Ok, Err}
use Rattle.std.proofs.Math.Bool.{cond}
use Rattle.std.proofs.Math.Path.{refl, sym, ap}
use Rattle.std.proofs.Common.{◌∙◌, lt-ltb, le-ltb}
use Rattle.terms.specs.declared.Refusal.{Refusal}
use Rattle.terms.specs.Refusals.{number}
use Rattle.interval_store_manager.specs.Calls.{Decided, go, refuse, decision_means}
use Rattle.labels.specs.Decisions.{inc_decided, dec_decided}
use Rattle.store_definitions.specs.declared.Store.{Store}
use Rattle.store_definitions.specs.Memory.{PointStore, point_store}
use Rattle.store_definitions.specs.Parts.{table_length}
use Rattle.store_definitions.specs.Decisions.{refuse_if, live, touch_decided}
use Rattle.store_definitions.specs.Counting.{inc_test, dec_test}
use Rattle.store_counts.specs.Tables.{counts_alone}

module _ {E : Type 0} (p : PointStore E) where
  -- nothing else of the store decides
  pub live_alone : (i : ℕ) → live (point_store p.header (counts_alone p.memory.reference_count [])) i ≡ live p i
  unfolding live
  live_alone i = refl

  pub inc_test_alone : (i l : ℕ) → inc_test (point_store p.header (counts_alone p.memory.reference_count p.memory.label_count)) i l ≡ inc_test p i l
  unfolding inc_test touch_decided live
  inc_test_alone i l = refl

  pub dec_test_alone : (i l : ℕ) → dec_test (point_store p.header (counts_alone p.memory.reference_count p.memory.label_count)) i l ≡ dec_test p i l
  unfolding dec_test touch_decided live
  dec_test_alone i l = refl

module _ (s : Store) (counts : List ℕ) (i : ℕ) where
  abbrev in_use : Bool
  in_use = live (point_store s (counts_alone counts [])) i

  pub in_use_below : i < table_length s → (v : ℕ) → v ≡ get_or counts i 0 → ltb 0 v ≡ in_use
  unfolding live
  in_use_below h v e = rw (lt-ltb i (table_length s) h, e)

  pub in_use_beyond : table_length s ≤ i → false ≡ in_use
  unfolding live
  in_use_beyond h = rw (le-ltb i (table_length s) h)

  module _ (label_counts : List ℕ) (l : ℕ) (b : Bool) (e : b ≡ in_use) where
    abbrev p : PointStore (Unit {0})
    p = point_store s (counts_alone counts label_counts)

    touched : touch_decided p i ≡ cond b go (refuse 5)
    unfolding touch_decided live
    touched = ap (λ (x : Bool). cond x go (refuse 5)) (sym e)

    pub inc_counted : b ≡ true → (d : Result Unit Refusal) → decision_means d ≡ inc_decided s.store_labels s.capacity label_counts l → d ≡ Ok tt → (r : Decided) → r ≡ refuse_if (eqb (get_or counts i 0) 65535) 7 → r ≡ inc_test p i l
    unfolding inc_test
    inc_counted t d f g r h = h ∙ rw (touched, t, sym f ∙ ap decision_means g)

    pub inc_label_refused : b ≡ true → (d : Result Unit Refusal) → decision_means d ≡ inc_decided s.store_labels s.capacity label_counts l → (r : Refusal) → d ≡ Err r → refuse (number r) ≡ inc_test p i l
    unfolding inc_test
    inc_label_refused t d f r g = rw (touched, t, sym f ∙ ap decision_means g)

    pub inc_dead : b ≡ false → refuse 5 ≡ inc_test p i l
    unfolding inc_test
    inc_dead t = rw (touched, t)

    pub dec_labelled : b ≡ true → (r : Decided) → r ≡ dec_decided s.store_labels s.capacity label_counts l → r ≡ dec_test p i l
    unfolding dec_test
    dec_labelled t r h = h ∙ rw (touched, t)

    pub dec_dead : b ≡ false → refuse 5 ≡ dec_test p i l
    unfolding dec_test
    dec_dead t = rw (touched, t)
