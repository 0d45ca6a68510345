-- A table of counts with the manager of its indices: document 01's 'each with one count more' and 'At 0 the index is
-- released', once for every table that has counts and a manager.
use Rattle.std.specs.Prelude.{ℕ, ◌+◌, ◌-◌, List, Bool, cond, ◌&&◌, get_or, set, leb, ltb, eqb}
use Rattle.std.specs.Bool.{beq}
use Rattle.terms.specs.Below.{every_below, count_below}
use Rattle.interval_store_manager.specs.declared.IntervalStoreManager.{IntervalStoreManager}
use Rattle.interval_store_manager.specs.Intervals.{at_top, is_free, free_number}
use Rattle.interval_store_manager.specs.WellFormed.{well_formed}
use Rattle.interval_store_manager.specs.Answers.{done, Outcome, outcome}
use Rattle.interval_store_manager.specs.Calls.{taken, released}

pub record Counted : Type 0 where
  pub manager : IntervalStoreManager
  pub counts : List ℕ
  pub starts : List ℕ
  pub ends : List ℕ

abbrev pub counted : IntervalStoreManager → List ℕ → List ℕ → List ℕ → Counted
counted m counts starts ends = record { manager = m; counts = counts; starts = starts; ends = ends }

abbrev pub count_at : Counted → ℕ → ℕ
count_at t i = get_or t.counts i 0

abbrev pub free : Counted → ℕ → Bool
free t i = is_free t.manager.last_in_use t.starts t.ends i

-- the index that the manager gives next
abbrev pub next_index : Counted → ℕ
next_index t = at_top t.manager.last_in_use t.starts

-- how many indices are free
abbrev pub free_indices : Counted → ℕ
free_indices t = free_number t.manager.capacity t.manager.last_in_use t.starts t.ends

-- how many indices are live
unfoldable pub live_number : ℕ → Counted → ℕ
live_number capacity t = count_below capacity (λ i. ltb 0 (count_at t i))

-- 'Each manager is well-formed', with this capacity
unfoldable pub managed : ℕ → Counted → Bool
managed capacity t = well_formed t.manager t.starts t.ends && eqb t.manager.capacity capacity

-- the free indices 'are those with count 0'
unfoldable pub free_uncounted : ℕ → Counted → Bool
free_uncounted capacity t = every_below capacity (λ i. beq (free t i) (eqb (count_at t i) 0))

-- 'Counts .. are at most 65,535': of a `u16` slice by type
unfoldable pub counts_fit : ℕ → List ℕ → Bool
counts_fit capacity counts = every_below capacity (λ i. leb (get_or counts i 0) 65535)

-- the manager's get, and count 1 for the index that it gives
unfoldable pub index_taken : Counted → Counted
index_taken t =
    let o = taken t.manager t.starts t.ends in
    counted o.manager (set t.counts (next_index t) 1) o.starts o.ends

-- one count more
unfoldable pub raised : Counted → ℕ → Counted
raised t i = counted t.manager (set t.counts i (count_at t i + 1)) t.starts t.ends

-- one count less; 'At 0 the index is released'
unfoldable pub lowered : Counted → ℕ → Counted
lowered t i =
    let counts = set t.counts i (count_at t i - 1) in
    let o = released t.manager t.starts t.ends i in
    cond (eqb (count_at t i) 1) (counted o.manager counts o.starts o.ends)
    (counted t.manager counts t.starts t.ends)

-- an index is released where its count was 1
unfoldable pub released_at_one : IntervalStoreManager → List ℕ → List ℕ → ℕ → ℕ → Outcome
released_at_one m starts ends i count = cond (eqb count 1) (released m starts ends i) (outcome done m starts ends)
