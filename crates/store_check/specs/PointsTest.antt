-- The points' half of well-formedness over the lists that it reads, and what the pass over them relies on.
use Rattle.std.specs.Prelude.{ℕ, ◌≤◌, List, Bool, true, false, Option, Some, None, is_some, IfSome, ◌&&◌, ◌≡◌, refl, length}
use Rattle.std.specs.Bool.{then_some}
use Rattle.std.proofs.Common.{sym, ap, ap₂, ◌∙◌}
use Rattle.std.proofs.lemmas.Option.{none-some, same_Some}
use Rattle.std.proofs.Math.Bool.{and-true, and-false}
use Rattle.labels.specs.Counted.{counted, managed, free_uncounted}
use Rattle.store_definitions.specs.declared.Store.{Store}
use Rattle.store_definitions.specs.Parts.{table_length}
use Rattle.store_definitions.specs.Bounds.{bounds_hold}
use Rattle.store_definitions.specs.WellFormed.{empty_uncounted, places_distinct, places_end}
use Rattle.store_check.specs.declared.table.TableChecked.{TableChecked}
use Rattle.store_check.specs.Entries.{counts_live, PlacesBelow}

-- the clauses in the order in which the check asks them
unfoldable pub points_test : Store → (counts location starts ends : List ℕ) → Bool
points_test s counts location starts ends =
    let n = table_length s in
    let t = counted s.index_manager counts starts ends in
    managed n t && (free_uncounted n t && (empty_uncounted n counts location && (places_distinct n location && places_end n s location)))

-- the same but that places are distinct
unfoldable pub table_test : Store → (counts location starts ends : List ℕ) → Bool
table_test s counts location starts ends =
    let n = table_length s in
    let t = counted s.index_manager counts starts ends in
    managed n t && (free_uncounted n t && (empty_uncounted n counts location && places_end n s location))

pub points_are : (s : Store) (counts location starts ends : List ℕ) → (table_test s counts location starts ends && places_distinct (table_length s) location) ≡ points_test s counts location starts ends
unfolding table_test points_test
points_are s counts location starts ends =
    let n = table_length s in
    let t = counted s.index_manager counts starts ends in
    last_but_one (managed n t) (free_uncounted n t) (empty_uncounted n counts location) (places_distinct n location) (places_end n s location)
  where
    last_but_one : (a b c d e : Bool) → (a && (b && (c && e)) && d) ≡ (a && (b && (c && (d && e))))
    last_but_one true true true true e = and-true e
    last_but_one true true true false e = and-false e
    last_but_one true true false d e = refl
    last_but_one true false c d e = refl
    last_but_one false b c d e = refl

-- the two tests in turn, with what is counted
pub points_decide : (s : Store) (counts location starts ends : List ℕ) (table distinct : Bool) (live : ℕ) → table ≡ table_test s counts location starts ends → distinct ≡ places_distinct (table_length s) location → (table ≡ true → live ≡ counts_live (table_length s) counts) → then_some (table && distinct) live ≡ then_some (points_test s counts location starts ends) (counts_live (table_length s) counts)
points_decide s counts location starts ends table distinct live e f g =
    let same = ap₂ (λ (a b : Bool). a && b) e f ∙ points_are s counts location starts ends in
    counted_alike table distinct g ∙ ap (λ (b : Bool). then_some b (counts_live (table_length s) counts)) same
  where
    counted_alike : (a b : Bool) → (a ≡ true → live ≡ counts_live (table_length s) counts) → then_some (a && b) live ≡ then_some (a && b) (counts_live (table_length s) counts)
    counted_alike true b h = ap (λ (n : ℕ). then_some b n) (h refl)
    counted_alike false b h = refl

-- what an answer says of the test
pub test_passed : {A : Type 0} (test : Bool) (x y : A) → Some y ≡ then_some test x → (test ≡ true) × (y ≡ x)
test_passed true x y e = (refl, same_Some y x e)
test_passed false x y e = absurd (none-some y (sym e))

pub test_failed : {A : Type 0} (test : Bool) (x : A) → None ≡ then_some test x → test ≡ false
test_failed true x e = absurd (none-some x e)
test_failed false x e = refl

-- what is known before the pass: bounds, lengths, a free start within the floats
pub record PointsReady (s : Store) (counts location : List ℕ) : Type 0 where
  pub bounds : bounds_hold s.dimensions s.shingle_size s.capacity ≡ true
  pub free_most : s.start_free_region ≤ 16384
  pub table_within : table_length s ≤ s.capacity
  pub counts_lent : s.capacity ≤ length counts
  pub places_lent : s.capacity ≤ length location

-- what the pass finds where the table's test holds: every live place is below a limit
pub record TableFound (s : Store) (counts location : List ℕ) (live limit : ℕ) : Type 0 where
  pub live_is : live ≡ counts_live (table_length s) counts
  pub limit_most : limit ≤ 16384
  pub places_below : PlacesBelow limit (table_length s) location

-- what the pass answers: whether the table's test holds and, where it does, what is found
abbrev pub TableTold : Store → (counts location starts ends : List ℕ) → Option TableChecked → Type 0
TableTold s counts location starts ends table =
    (is_some table ≡ table_test s counts location starts ends) × IfSome table (λ t. TableFound s counts location t.live t.limit)
