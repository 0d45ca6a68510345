-- Document 01, 'Interval manager': a stack of free intervals [start, end]. The stack is two lists, of which the first n
-- entries are in use; entry n - 1 is its top. The list functions here recurse on n, so that what lies at or above n plays
-- no part.
use Rattle.std.specs.Prelude.{ℕ, zero, suc, ◌+◌, ◌-◌, List, Bool, true, ◌&&◌, get_or, leb, ltb}
use Rattle.terms.specs.Below.{one, count_below, every_below}

-- the entry at the stack's top: of the starts, the index that get gives
abbrev pub at_top : ℕ → List ℕ → ℕ
at_top n entries = get_or entries (n - 1) 0

-- index i lies in [start, end]
unfoldable pub inside : ℕ → ℕ → ℕ → Bool
inside start end i = leb start i && leb i end

-- how many of the n intervals hold index i
unfoldable pub holders : ℕ → List ℕ → List ℕ → ℕ → ℕ
holders zero starts ends i = 0
holders (suc n) starts ends i = holders n starts ends i + one (inside (get_or starts n 0) (get_or ends n 0) i)

-- index i is free: an interval holds it
unfoldable pub is_free : ℕ → List ℕ → List ℕ → ℕ → Bool
is_free n starts ends i = ltb 0 (holders n starts ends i)

-- how many indices below the capacity are free
unfoldable pub free_number : ℕ → ℕ → List ℕ → List ℕ → ℕ
free_number capacity n starts ends = count_below capacity (is_free n starts ends)

-- 'each interval's start is at most its end, all lie below capacity'
unfoldable pub in_bounds : ℕ → ℕ → List ℕ → List ℕ → Bool
in_bounds capacity zero starts ends = true
in_bounds capacity (suc n) starts ends =
    in_bounds capacity n starts ends && (leb (get_or starts n 0) (get_or ends n 0) && ltb (get_or ends n 0) capacity)

-- 'no two share an index'
unfoldable pub none_shared : ℕ → ℕ → List ℕ → List ℕ → Bool
none_shared capacity n starts ends = every_below capacity (λ i. leb (holders n starts ends i) 1)
