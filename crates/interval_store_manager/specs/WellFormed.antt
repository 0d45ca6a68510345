-- Document 01, 'Interval manager': when a manager over two lent slices is well-formed.
use Rattle.std.specs.Prelude.{ℕ, List, Bool, ◌&&◌, length, leb}
use Rattle.interval_store_manager.specs.declared.IntervalStoreManager.{IntervalStoreManager}
use Rattle.interval_store_manager.specs.Intervals.{in_bounds, none_shared}

-- 'capacity is 1 to 1,024'
unfoldable pub capacity_allowed : ℕ → Bool
capacity_allowed capacity = leb 1 capacity && leb capacity 1024

-- both lists have at least n entries
unfoldable pub lent_enough : ℕ → List ℕ → List ℕ → Bool
lent_enough n starts ends = leb n (length starts) && leb n (length ends)

-- 'A manager is well-formed if its capacity is 1 to 1,024, each interval's start is at most its end, all lie below
-- capacity and no two share an index. Its stack has at least capacity entries': the entries in use are such entries too
unfoldable pub well_formed : IntervalStoreManager → List ℕ → List ℕ → Bool
well_formed m starts ends =
    capacity_allowed m.capacity
    && (lent_enough m.capacity starts ends
    && (lent_enough m.last_in_use starts ends
    && (in_bounds m.capacity m.last_in_use starts ends && none_shared m.capacity m.last_in_use starts ends)))
