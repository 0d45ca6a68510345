-- What the check asks of each entry of the points' table, and of the places met so far.
use Rattle.std.specs.Prelude.{ℕ, zero, suc, ◌+◌, ◌-◌, ◌/◌, ◌≤◌, ◌<◌, ◌≡◌, List, Bool, true, false, cond, ◌&&◌, ◌||◌, not, get_or, set, ltb, eqb}
use Rattle.std.proofs.Common.{arith}
use Rattle.std.specs.Bool.{beq}
use Rattle.terms.specs.Below.{every_below, count_below}

-- the first place whose row would end past the free start
unfoldable pub place_limit : (base dims free : ℕ) → ℕ
place_limit base dims free = cond (ltb free dims) 0 ((free - dims) / base + 1)

-- count 0 exactly where the index is marked free and exactly where the place is empty; a place that is not is below the limit
unfoldable pub entry_well : (limit mark count place : ℕ) → Bool
entry_well limit mark count place =
    beq (eqb mark 1) (eqb count 0)
    && (beq (eqb count 0) (eqb place 65535) && (eqb place 65535 || ltb place limit))

unfoldable pub entries_well : (n limit : ℕ) → (marks counts location : List ℕ) → Bool
entries_well n limit marks counts location =
    every_below n (λ i. entry_well limit (get_or marks i 0) (get_or counts i 0) (get_or location i 0))

-- how many counts are above 0
unfoldable pub counts_live : ℕ → List ℕ → ℕ
counts_live n counts = count_below n (λ i. not (eqb (get_or counts i 0) 0))

-- some index below n stands at a place
unfoldable pub stands : ℕ → List ℕ → ℕ → Bool
stands zero location place = false
stands (suc n) location place = stands n location place || eqb place (get_or location n 65535)

-- a place that is not empty and is marked already, and the marks with it
unfoldable pub place_met : ℕ → List Bool → Bool
place_met place marks = not (eqb place 65535) && get_or marks place false

unfoldable pub place_marked : ℕ → List Bool → List Bool
place_marked place marks = cond (eqb place 65535) marks (set marks place true)

-- no place is marked
abbrev pub NoneMarked : List Bool → Type 0
NoneMarked marks = (q : ℕ) → get_or marks q false ≡ false

-- the live places of the first n entries are below a limit
abbrev pub PlacesBelow : ℕ → ℕ → List ℕ → Type 0
PlacesBelow limit n location = (i : ℕ) → i < n → (get_or location i 0 ≡ 65535 → ⊥) → get_or location i 0 < limit

pub below_larger : (a b n : ℕ) (location : List ℕ) → a ≤ b → PlacesBelow a n location → PlacesBelow b n location
below_larger a b n location h p i l d = omega (arith, p i l d)
