-- The list guarantee: what holds after every list of calls on a fresh store. One record, with a field for each clause. What is
-- said of calls is said of their answers alone; the history comes from the calls and their answers.
use Rattle.std.specs.Prelude.{ℕ, ◌+◌, ◌*◌, ◌-◌, ◌/◌, ◌≤◌, ◌<◌, Bool, true, false, cond, List, [], ◌∷◌, ◌≡◌, length, get_or}
use Rattle.terms.specs.Below.{sum_below, count_below}
use Rattle.terms.specs.Rows.{Exact}
use Rattle.placement.specs.declared.Laid.{Laid}
use Rattle.placement.specs.Copying.{turn, turned}
use Rattle.placement.specs.Growth.{grown}
use Rattle.store_definitions.specs.declared.Shape.{Shape}
use Rattle.store_definitions.specs.Memory.{PointStore}
use Rattle.store_definitions.specs.Answers.{Answer, kept, waiting, done, is, says, refused, refused_after, output}
use Rattle.store_definitions.specs.Parts.{table_length}
use Rattle.guarantee.specs.Calls.{copy_call, count_call, live_number_call, free_start_call}
use Rattle.guarantee.specs.Run.{Call, add, inc, dec, adjust, compact, after, answer_to}
use Rattle.guarantee.specs.History.{Given, Life, dead, alive, count, is_live, History, history}

-- a count call's answer: the count of a live index, and 5 for any other
abbrev pub count_answer : {E : Type 0} → Life E → Answer
count_answer dead = refused 5
count_answer (alive incs decs g) = is (count (alive incs decs g))

-- the number that a call answers, 0 for a refusal
abbrev pub number_in : Answer → ℕ
number_in (kept i l laid left) = 0
number_in waiting = 0
number_in done = 0
number_in (is n) = n
number_in (says b) = 0
number_in (refused n) = 0
number_in (refused_after n k) = 0

-- the index is live, since that add
abbrev pub LiveSince : {E : Type 0} → History E → ℕ → Given E → Type 0
LiveSince s i g = (incs : ℕ) × (decs : ℕ) × (s.life i ≡ alive incs decs g)

-- how many indices below n are live
unfoldable pub live_indices : {E : Type 0} → ℕ → History E → ℕ
live_indices n s = count_below n (λ i. is_live (s.life i))

-- of every call of a list, with the calls before it
abbrev pub EachCall : {E : Type 0} → (Call E → List (Call E) → Type 0) → List (Call E) → Type 0
EachCall P [] = Unit {0}
EachCall P (c ∷ before) = P c before × EachCall P before

module _ {E : Type 0} (eq : E → E → Bool) (zero_element : E) (h : Shape) (start : PointStore E) where
  abbrev pub base : ℕ
  base = h.dimensions / h.shingle_size

  -- a point's room after a compact: dimensions, or with rotation 2 × dimensions − base
  abbrev pub room : ℕ
  room = cond h.internal_rotation (2 * h.dimensions - base) h.dimensions

  abbrev pub past : List (Call E) → History E
  past calls = history eq zero_element h start calls

  abbrev pub store_after : List (Call E) → PointStore E
  store_after calls = after eq zero_element start calls

  -- an add that is not refused for float space
  abbrev pub NotShort : Call E → List (Call E) → Type 0
  NotShort (add point code) before = answer_to eq zero_element start (add point code) before ≡ refused 10 → ⊥
  NotShort (inc i l) before = Unit {0}
  NotShort (dec i l) before = Unit {0}
  NotShort (adjust pairs) before = Unit {0}
  NotShort compact before = Unit {0}

  -- the store length that growth would give
  abbrev pub length_grown : List (Call E) → ℕ
  length_grown calls = grown (store_after calls).header.store_length h.dimensions (h.capacity * h.dimensions)

  -- one that is not while the room of the live indices plus dimensions, counted before it, fits that length
  abbrev pub NotShortWithin : Call E → List (Call E) → Type 0
  NotShortWithin c before =
      live_indices h.capacity (past before) * room + h.dimensions ≤ length_grown before → NotShort c before

  -- a kept add's figure and the live indices right after it, the new one among them, make up the table as the add left it
  abbrev pub RestFree : Call E → List (Call E) → Type 0
  RestFree (add point code) before =
      (i l : ℕ) (laid : Laid) (left : ℕ) → answer_to eq zero_element start (add point code) before ≡ kept i l laid left
      → left + live_indices h.capacity (past (add point code ∷ before)) ≡ table_length (store_after (add point code ∷ before)).header
  RestFree (inc i l) before = Unit {0}
  RestFree (dec i l) before = Unit {0}
  RestFree (adjust pairs) before = Unit {0}
  RestFree compact before = Unit {0}

  pub record Guarantee (calls : List (Call E)) : Type 0 where
    -- (a) the count call answers for live indices and no others, with one plus incs less decs accepted since the add that last
    -- gave the index
    pub counts : (i : ℕ) → count_call (store_after calls) i ≡ count_answer ((past calls).life i)
    pub live_below_lem : (i : ℕ) → is_live ((past calls).life i) ≡ true → i < h.capacity
    -- (b) each live index copies out, bit for bit, what it did right after that add
    pub copies_kept : (i : ℕ) (g : Given E) → LiveSince (past calls) i g
        → (out : List E) → copy_call (store_after calls) i out ≡ copy_call (store_after g.calls) i out
    -- (c) that copy is the add's row exactly, turned by the place in the add's answer, for every element whose equality is exact
    pub copies_row : Exact eq → (i : ℕ) (g : Given E) → LiveSince (past calls) i g
        → (out : List E) → length out ≡ h.dimensions
        → copy_call (store_after calls) i out ≡ output done (turned h.dimensions (turn h.internal_rotation h.dimensions base g.place) g.row)
    -- (d) all live counts sum to kept adds plus accepted incs less accepted decs
    pub sum : sum_below h.capacity (λ i. number_in (count_call (store_after calls) i)) + (past calls).decs ≡ (past calls).adds + (past calls).incs
    -- (e) live places are distinct and end by the free start
    pub places_distinct_lem : (i j : ℕ) → is_live ((past calls).life i) ≡ true → is_live ((past calls).life j) ≡ true
        → get_or (store_after calls).memory.location i 65535 ≡ get_or (store_after calls).memory.location j 65535 → i ≡ j
    pub places_end_lem : (i : ℕ) → is_live ((past calls).life i) ≡ true
        → get_or (store_after calls).memory.location i 65535 * base + h.dimensions ≤ (store_after calls).header.start_free_region
    -- (f) where the last call is compact, the free start is at most the live indices' room
    pub compact_room : (before : List (Call E)) → calls ≡ compact ∷ before
        → (store_after calls).header.start_free_region ≤ live_indices h.capacity (past calls) * room
    -- (g) without rotation no add of the list is refused for float space
    pub float_space : h.internal_rotation ≡ false → EachCall NotShort calls
    -- (h) with it none is while that bound plus dimensions, counted before the add, fits the store length that growth would give
    pub float_space_within : EachCall NotShortWithin calls
    -- (i) each kept add of the list gave as its figure the table length less the live indices, both right after it
    pub figures : EachCall RestFree calls
    -- the live-number and free-start calls
    pub live_number_lem : live_number_call (store_after calls) ≡ is (live_indices h.capacity (past calls))
    pub free_start : free_start_call (store_after calls) ≡ is (store_after calls).header.start_free_region
