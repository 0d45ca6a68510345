-- What the well-formedness check marks and adds up.
use Rattle.std.specs.Prelude.{ℕ, List, true, cond, ◌&&◌, ◌≡◌, Option, Some, None, get_or, leb, ltb}
use Rattle.terms.specs.Below.{one}
use Rattle.interval_store_manager.specs.declared.IntervalStoreManager.{IntervalStoreManager}
use Rattle.interval_store_manager.specs.Intervals.{is_free, free_number, in_bounds}
use Rattle.interval_store_manager.specs.WellFormed.{well_formed}
use Rattle.interval_store_manager.specs.StackLaws.{sizes}

-- entry k after the entries from `from` up to `to` were set to 1
abbrev pub filled : List ℕ → ℕ → ℕ → ℕ → ℕ
filled marks from to k = cond (leb from k && ltb k to) 1 (get_or marks k 0)

-- no index is marked
abbrev pub Unmarked : List ℕ → Type 0
Unmarked marks = (k : ℕ) → get_or marks k 0 ≡ 0

-- the indices that the first n intervals hold are marked, and no others
abbrev pub Marks : ℕ → List ℕ → List ℕ → List ℕ → Type 0
Marks n starts ends marks = (k : ℕ) → get_or marks k 0 ≡ one (is_free n starts ends k)

-- what a pass over the first n intervals adds up: their sizes, where all lie in bounds and the sizes do not pass the capacity
unfoldable pub sizes_checked : ℕ → ℕ → List ℕ → List ℕ → Option ℕ
sizes_checked capacity n starts ends =
    cond (in_bounds capacity n starts ends && leb (sizes capacity n starts ends) capacity) (Some (sizes capacity n starts ends)) None

-- after a pass over the first n intervals
pub record Swept (capacity n : ℕ) (starts ends marks : List ℕ) (total : Option ℕ) : Type 0 where
  pub is : total ≡ sizes_checked capacity n starts ends
  pub marked : (t : ℕ) → total ≡ Some t → Marks n starts ends marks

-- what the whole check answers: how many indices are free, where the manager is well-formed
abbrev pub free_checked : IntervalStoreManager → List ℕ → List ℕ → Option ℕ
free_checked m starts ends = cond (well_formed m starts ends) (Some (free_number m.capacity m.last_in_use starts ends)) None

-- after the whole check
pub record Marked (m : IntervalStoreManager) (starts ends marks : List ℕ) (free : Option ℕ) : Type 0 where
  pub is : free ≡ free_checked m starts ends
  pub marked : well_formed m starts ends ≡ true → Marks m.last_in_use starts ends marks
