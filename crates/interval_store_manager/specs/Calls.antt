-- Document 01, 'Interval manager': one definition for each call, in the Rust's names. A decision comes first, the refusals
-- in 01's order, then what is carried out. A refused call leaves manager and lists as they were.
use Rattle.std.specs.Prelude.{ℕ, ◌+◌, ◌-◌, List, Result, Ok, Err, cond, ◌&&◌, ◌||◌, set, leb, ltb, eqb}
use Rattle.terms.specs.declared.Refusal.{Refusal}
use Rattle.terms.specs.Refusals.{number}
use Rattle.interval_store_manager.specs.declared.IntervalStoreManager.{IntervalStoreManager}
use Rattle.interval_store_manager.specs.Intervals.{at_top, is_free, free_number}
use Rattle.interval_store_manager.specs.WellFormed.{capacity_allowed, lent_enough, well_formed}
use Rattle.interval_store_manager.specs.Answers.{Answer, opened, done, given, holds, says, refused, Opening, opening, Outcome, outcome}

abbrev pub manager : ℕ → ℕ → IntervalStoreManager
manager capacity n = record { capacity = capacity; last_in_use = n }

-- the manager's stack with [start, end] pushed
unfoldable pub pushed : Answer → ℕ → ℕ → List ℕ → List ℕ → ℕ → ℕ → Outcome
pushed a capacity n starts ends start end = outcome a (manager capacity (n + 1)) (set starts n start) (set ends n end)

-- what is decided of a call before anything is written: to go on, or the number of its refusal
pub data Decided : Type 0 where
  go : Decided
  refuse : ℕ → Decided

abbrev pub decision_means : Result Unit Refusal → Decided
decision_means (Ok _) = go
decision_means (Err r) = refuse (number r)

-- a decision carried out
abbrev pub carried_out : Decided → IntervalStoreManager → List ℕ → List ℕ → Outcome → Outcome
carried_out go m starts ends o = o
carried_out (refuse n) m starts ends o = outcome (refused n) m starts ends

-- 'at first [0, capacity − 1]'
unfoldable pub new_spec : ℕ → List ℕ → List ℕ → Opening
new_spec size starts ends =
    cond (capacity_allowed size)
    (cond (lent_enough size starts ends) (opening (opened (manager size 1)) (set starts 0 0) (set ends 0 (size - 1)))
    (opening (refused 1) starts ends))
    (opening (refused 13) starts ends)

-- 'A change upwards pushes [old, new − 1]; any other does nothing.'
unfoldable pub changed : IntervalStoreManager → List ℕ → List ℕ → ℕ → Outcome
changed m starts ends new =
    cond (ltb m.capacity new) (pushed done new m.last_in_use starts ends m.capacity (new - 1))
    (outcome done m starts ends)

unfoldable pub change_decided : IntervalStoreManager → List ℕ → List ℕ → ℕ → Decided
change_decided m starts ends new =
    cond (ltb 1024 new) (refuse 13) (cond (well_formed m starts ends && lent_enough new starts ends) go (refuse 1))

unfoldable pub change_spec : IntervalStoreManager → List ℕ → List ℕ → ℕ → Outcome
change_spec m starts ends new = carried_out (change_decided m starts ends new) m starts ends (changed m starts ends new)

-- document 02: 'returns, with the index, how many remain free in it', the stack being the one after the get
abbrev pub gives : ℕ → IntervalStoreManager → List ℕ → List ℕ → Outcome
gives index m starts ends = outcome (given index (free_number m.capacity m.last_in_use starts ends)) m starts ends

-- 'Get takes the top's start; the interval is popped if that was its end.'
unfoldable pub taken : IntervalStoreManager → List ℕ → List ℕ → Outcome
taken m starts ends =
    let n = m.last_in_use in
    let start = at_top n starts in
    cond (eqb start (at_top n ends)) (gives start (manager m.capacity (n - 1)) starts ends)
    (gives start m (set starts (n - 1) (start + 1)) ends)

unfoldable pub get_decided : IntervalStoreManager → List ℕ → List ℕ → Decided
get_decided m starts ends = cond (well_formed m starts ends) (cond (eqb m.last_in_use 0) (refuse 9) go) (refuse 1)

unfoldable pub get_spec : IntervalStoreManager → List ℕ → List ℕ → Outcome
get_spec m starts ends = carried_out (get_decided m starts ends) m starts ends (taken m starts ends)

-- 'Release of i: if the top's start is i + 1 it becomes i; else if the top's end + 1 is i, the end becomes i; else [i, i]
-- is pushed. No other merging; entries past the stack's top keep what they held.'
unfoldable pub released : IntervalStoreManager → List ℕ → List ℕ → ℕ → Outcome
released m starts ends i =
    let n = m.last_in_use in
    cond (ltb 0 n && eqb (at_top n starts) (i + 1)) (outcome done m (set starts (n - 1) i) ends)
    (cond (ltb 0 n && eqb (at_top n ends + 1) i) (outcome done m starts (set ends (n - 1) i))
    (pushed done m.capacity n starts ends i i))

unfoldable pub release_decided : IntervalStoreManager → List ℕ → List ℕ → ℕ → Decided
release_decided m starts ends i =
    cond (well_formed m starts ends)
    (cond (leb m.capacity i || is_free m.last_in_use starts ends i) (refuse 14) go)
    (refuse 1)

unfoldable pub release_spec : IntervalStoreManager → List ℕ → List ℕ → ℕ → Outcome
release_spec m starts ends i = carried_out (release_decided m starts ends i) m starts ends (released m starts ends i)

-- the readings change nothing: 1, or the value
unfoldable pub reading : IntervalStoreManager → List ℕ → List ℕ → Answer → Answer
reading m starts ends a = cond (well_formed m starts ends) a (refused 1)

-- 'Used is capacity less the free indices.'
unfoldable pub used_spec : IntervalStoreManager → List ℕ → List ℕ → Answer
used_spec m starts ends = reading m starts ends (holds (m.capacity - free_number m.capacity m.last_in_use starts ends))

unfoldable pub is_empty_spec : IntervalStoreManager → List ℕ → List ℕ → Answer
is_empty_spec m starts ends = reading m starts ends (says (eqb m.last_in_use 0))

unfoldable pub get_capacity_spec : IntervalStoreManager → List ℕ → List ℕ → Answer
get_capacity_spec m starts ends = reading m starts ends (holds m.capacity)
