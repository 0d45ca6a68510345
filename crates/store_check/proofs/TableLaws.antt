-- The pass over the points' table decides the points' half of well-formedness.
use Prim.Native.Nat.{ℕ, ◌+◌, ◌-◌, ◌*◌, ◌<◌}
use native.Mathlib.Omega.{arith}
use mathlib.Core.List.{List}
use mathlib.Core.Bool.{Bool, true, false, ◌&&◌, ◌||◌, not, beq}
use mathlib.Core.Path.{◌≡◌, refl, sym, ◌∙◌, ap}
use lib.ListN.{get_or}
use lib.Dec.{leb, ltb, eqb}
use borrow.Author.Tests.{eq-eqb, ne_eqb, ltb-true}
use Rattle.terms.specs.Below.{one, both, every_below, every_at, every_and}
use Rattle.terms.specs.Entries.{any_default}
use Rattle.interval_store_manager.specs.Intervals.{is_free, free_number}
use Rattle.std.specs.Prelude.{Option, Some, None}
use Rattle.interval_store_manager.specs.Marks.{Marks, Marked}
use Rattle.interval_store_manager.specs.MarkLaws.{checked_some, checked_none}
use Rattle.interval_store_manager.specs.WellFormed as manager
use Rattle.labels.specs.Counted.{managed, free_uncounted}
use Rattle.label_check.specs.LabelPass.{every_same}
use Rattle.store_definitions.specs.declared.Store.{Store}
use Rattle.store_definitions.specs.Parts.{base_of, table_length}
use Rattle.store_definitions.specs.WellFormed.{empty_uncounted, places_end}
use Rattle.store_laws.specs.BoundsLaws.{in_bounds, base_some}
use Rattle.store_laws.specs.FigureLaws.{one_of_two}
use Rattle.store_check.specs.Entries.{place_limit, entry_well, entries_well, counts_live, PlacesBelow}
use Rattle.store_check.specs.PointsTest.{table_test, PointsReady, TableFound}
use Rattle.store_check.proofs.EntryLaws.{ends_below, limit_most}

mark_is : (b : Bool) → eqb (one b) 1 ≡ b
mark_is true = refl
mark_is false = refl

module _ (s : Store) (counts location starts ends marks : List ℕ) (r : PointsReady s counts location) where
  abbrev n : ℕ
  n = table_length s

  abbrev base : ℕ
  base = base_of s

  abbrev free : ℕ
  free = s.start_free_region

  abbrev limit : ℕ
  limit = place_limit base s.dimensions free

  free_test : ℕ → Bool
  free_test i = beq (is_free s.index_manager.last_in_use starts ends i) (eqb (get_or counts i 0) 0)

  empty_test : ℕ → Bool
  empty_test i = beq (eqb (get_or counts i 0) 0) (eqb (get_or location i 65535) 65535)

  end_test : ℕ → Bool
  end_test i = eqb (get_or location i 65535) 65535 || leb (get_or location i 65535 * base + s.dimensions) free

  -- the pass asks the three clauses at once
  entries_are : Marks s.index_manager.last_in_use starts ends marks → entries_well n limit marks counts location ≡ (every_below n free_test && (every_below n empty_test && every_below n end_test))
  unfolding entries_well entry_well free_test empty_test end_test
  entries_are m =
      let b = in_bounds s.dimensions s.shingle_size s.capacity r.bounds in
      every_same n
      (λ i. entry_well limit (get_or marks i 0) (get_or counts i 0) (get_or location i 0))
      (λ i. free_test i && (empty_test i && end_test i))
      (λ i l.
      rw (
        m i,
        mark_is (is_free s.index_manager.last_in_use starts ends i),
        any_default location i 0 65535 (omega (arith, r.places_lent, r.table_within)),
        ends_below base s.dimensions free (base_some s.dimensions s.shingle_size s.capacity b) (get_or location i 65535),
      ))
      ∙ (every_and n free_test (λ i. empty_test i && end_test i) ∙ ap (λ (b : Bool). every_below n free_test && b) (every_and n empty_test end_test))

  table_is : manager.well_formed s.index_manager starts ends ≡ true → Marks s.index_manager.last_in_use starts ends marks → entries_well n limit marks counts location ≡ table_test s counts location starts ends
  unfolding table_test managed free_uncounted empty_uncounted places_end free_test empty_test end_test
  table_is w m = entries_are m ∙ rw (w, eq-eqb n n refl)

  table_fails : manager.well_formed s.index_manager starts ends ≡ false → false ≡ table_test s counts location starts ends
  unfolding table_test managed
  table_fails w = rw w

  entry_at : entries_well n limit marks counts location ≡ true → (i : ℕ) → i < n → entry_well limit (get_or marks i 0) (get_or counts i 0) (get_or location i 0) ≡ true
  unfolding entries_well
  entry_at e i l = every_at n (λ i. entry_well limit (get_or marks i 0) (get_or counts i 0) (get_or location i 0)) e i l

  -- where every entry is well, a live place is below the limit
  table_below : entries_well n limit marks counts location ≡ true → PlacesBelow limit n location
  unfolding entry_well
  table_below e i l d =
      let p = get_or location i 0 in
      let f = eqb (get_or marks i 0) 1 in
      let g = eqb (get_or counts i 0) 0 in
      let h = ltb p limit in
      let t : (eqb p 65535 || h) ≡ true = (both (beq g (eqb p 65535)) (eqb p 65535 || h) (both (beq f g) (beq g (eqb p 65535) && (eqb p 65535 || h)) (entry_at e i l)).1).1 in
      ltb-true p limit (sym (ap (λ (b : Bool). b || h) (ne_eqb p 65535 d)) ∙ t)

  -- and what is not free is live
  table_live : Marks s.index_manager.last_in_use starts ends marks → entries_well n limit marks counts location ≡ true → counts_live n counts + free_number n s.index_manager.last_in_use starts ends ≡ n
  unfolding counts_live free_number entry_well
  table_live m e =
      one_of_two n (λ i. not (eqb (get_or counts i 0) 0)) (is_free s.index_manager.last_in_use starts ends)
      (λ i l.
      let f = is_free s.index_manager.last_in_use starts ends i in
      let g = eqb (get_or counts i 0) 0 in
      let same = (both (beq (eqb (get_or marks i 0) 1) g) _ (entry_at e i l)).0 in
      ap not (beq_same f g (sym (ap (λ (b : Bool). beq b g) (ap (λ (k : ℕ). eqb k 1) (m i) ∙ mark_is f)) ∙ same)))
    where
      beq_same : (a b : Bool) → beq a b ≡ true → b ≡ a
      beq_same true true e = refl
      beq_same true false e = e
      beq_same false true e = sym e
      beq_same false false e = refl

  -- what the manager's check and the pass over the entries find, with the limit that the pass was given
  module _ (answer : Option ℕ) (found : ℕ) (checked : Marked s.index_manager starts ends marks answer) (q : found ≡ limit) where
    known : (number : ℕ) → answer ≡ Some number → (manager.well_formed s.index_manager starts ends ≡ true) × (number ≡ free_number n s.index_manager.last_in_use starts ends)
    known number w = checked_some s.index_manager starts ends number (sym checked.is ∙ w)

    entries : (b : Bool) → entries_well n found marks counts location ≡ b → entries_well n limit marks counts location ≡ b
    entries b e = ap (λ (k : ℕ). entries_well n k marks counts location) (sym q) ∙ e

    pub all_or_live : (number : ℕ) → answer ≡ Some number → entries_well n found marks counts location ≡ true → counts_live n counts + number ≡ n
    all_or_live number w e =
        omega (arith, table_live (checked.marked (known number w).0) (entries true e), (known number w).1)

    pub entries_decide : {b : Bool} (number : ℕ) → answer ≡ Some number → entries_well n found marks counts location ≡ b → b ≡ table_test s counts location starts ends
    entries_decide {b} number w e = let k = known number w in sym (entries b e) ∙ table_is k.0 (checked.marked k.0)

    pub entries_pass : (number : ℕ) → answer ≡ Some number → entries_well n found marks counts location ≡ true → TableFound s counts location (n - number) found
    entries_pass number w e =
        let b = in_bounds s.dimensions s.shingle_size s.capacity r.bounds in
        record {
          live_is = omega (arith, all_or_live number w e);
          limit_most = rw q (limit_most base s.dimensions free b.dims_least r.free_most);
          places_below = rw q (table_below (entries true e));
        }

    pub manager_fails : answer ≡ None → false ≡ table_test s counts location starts ends
    manager_fails w = table_fails (checked_none s.index_manager starts ends (sym checked.is ∙ w))
