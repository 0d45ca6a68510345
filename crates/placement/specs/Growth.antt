-- How the table and the store length grow.
use Rattle.std.specs.Prelude.{ℕ, ◌+◌, ◌*◌, ◌/◌, ◌≤◌, ◌<◌, min, max, ◌≡◌}
use Rattle.std.proofs.Common.{arith}

-- By a fifth (whole division), and at least by `least`, up to the limit: 'the table gains at least one index, the store length at
-- least one point's floats, both still capped by capacity'.
unfoldable pub grown : (length least limit : ℕ) → ℕ
grown length least limit = min limit (length + max least (length / 5))

-- nothing is lost, and the limit holds
pub grown_within_lem : (length least limit : ℕ) → length ≤ limit → (length ≤ grown length least limit) × (grown length least limit ≤ limit)
unfolding grown
grown_within_lem length least limit h = omega arith

-- below the limit the whole least gain is had, or the limit is reached
pub grown_gains : (length least limit need : ℕ) → need ≤ length + least → need ≤ limit → need ≤ grown length least limit
unfolding grown
grown_gains length least limit need h l = omega arith

-- growth by nothing is at the limit alone
pub grown_stays : (length least limit : ℕ) → 0 < least → length ≤ limit → grown length least limit ≡ length → length ≡ limit
unfolding grown
grown_stays length least limit some h e = omega (arith, e)

-- what is short of the least gain is at the limit
pub grown_short : (length least limit need : ℕ) → need ≤ length + least → grown length least limit < need → grown length least limit ≡ limit
unfolding grown
grown_short length least limit need h l = omega (arith, l)

-- From a fifth that is the least gain up, growth is by a fifth alone: a table from 5 indices up, floats from 5 points' up.
pub grown_fifth : (length least limit : ℕ) → 5 * least ≤ length → grown length least limit ≡ grown length 0 limit
unfolding grown
grown_fifth length least limit h = omega arith

pub table_from_five : (length capacity : ℕ) → 5 ≤ length → grown length 1 capacity ≡ grown length 0 capacity
table_from_five length capacity h = grown_fifth length 1 capacity h

pub floats_from_five : (length dims capacity : ℕ) → 5 * dims ≤ length → grown length dims (capacity * dims) ≡ grown length 0 (capacity * dims)
floats_from_five length dims capacity h = grown_fifth length dims (capacity * dims) h
