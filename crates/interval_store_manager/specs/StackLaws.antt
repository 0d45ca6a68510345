-- Laws of a stack of n intervals, for every n: it reads no entry from n on; its sizes add up to the indices that its
-- intervals hold; where no two share an index, that is the number of free indices.
use Rattle.std.specs.Prelude.{ℕ, zero, suc, ◌+◌, ◌-◌, ◌≤◌, ◌<◌, List, true, ◌&&◌, ◌≡◌, refl, get_or, set, leb, ltb}
use Rattle.std.proofs.Common.{arith, sym, ◌∙◌, ap, ⊎_elim, get_or-set_other, le-leb, lt-ltb, le-ltb, leb-true, ltb-true}
use Rattle.std.proofs.Math.Decide.{dec_lt}
use Rattle.terms.specs.Below.{one, one_le, both, and_make, below_or_last, sum_below, sum_same, sum_zeros, sum_add, sum_le, sum_tight, count_below, every_make}
use Rattle.interval_store_manager.specs.Intervals.{inside, holders, is_free, free_number, in_bounds, none_shared}
use Rattle.interval_store_manager.specs.IntervalLaws.{interval_size}

-- the lists agree below n
abbrev pub Agree : ℕ → List ℕ → List ℕ → Type 0
Agree n xs ys = (k : ℕ) → k < n → get_or xs k 0 ≡ get_or ys k 0

pub agree_set : (n : ℕ) (xs : List ℕ) (j v : ℕ) → n ≤ j → Agree n (set xs j v) xs
agree_set n xs j v h k l = get_or-set_other xs j k v 0 (λ e. omega arith)

pub agree_self : (n : ℕ) (xs : List ℕ) → Agree n xs xs
agree_self n xs k l = refl

pub holders_same : (n : ℕ) (ss ts es fs : List ℕ) (i : ℕ) → Agree n ss ts → Agree n es fs → holders n ss es i ≡ holders n ts fs i
unfolding holders
holders_same zero ss ts es fs i h g = refl
holders_same (suc n) ss ts es fs i h g =
    rw (holders_same n ss ts es fs i (λ k l. h k (omega arith)) (λ k l. g k (omega arith)), h n (omega arith), g n (omega arith))

-- each interval in order and below the capacity, as a fact of every entry
pub record Bounded (capacity n : ℕ) (starts ends : List ℕ) : Type 0 where
  pub ordered : (j : ℕ) → j < n → get_or starts j 0 ≤ get_or ends j 0
  pub below : (j : ℕ) → j < n → get_or ends j 0 < capacity

pub bounded : (capacity n : ℕ) (ss es : List ℕ) → in_bounds capacity n ss es ≡ true → Bounded capacity n ss es
unfolding in_bounds
bounded c zero ss es e = record { ordered = λ j l. absurd (omega arith); below = λ j l. absurd (omega arith) }
bounded c (suc n) ss es e =
    let p = both (in_bounds c n ss es) (leb (get_or ss n 0) (get_or es n 0) && ltb (get_or es n 0) c) e in
    let q = both (leb (get_or ss n 0) (get_or es n 0)) (ltb (get_or es n 0) c) p.1 in
    let r = bounded c n ss es p.0 in
    record {
      ordered = λ j l. ⊎_elim (λ m. r.ordered j m) (λ m. rw m (leb-true (get_or ss n 0) (get_or es n 0) q.0)) (below_or_last n j l);
      below = λ j l. ⊎_elim (λ m. r.below j m) (λ m. rw m (ltb-true (get_or es n 0) c q.1)) (below_or_last n j l);
    }

pub bounded_make : (capacity n : ℕ) (ss es : List ℕ) → Bounded capacity n ss es → in_bounds capacity n ss es ≡ true
unfolding in_bounds
bounded_make c zero ss es b = refl
bounded_make c (suc n) ss es b =
    and_make _ _
    (bounded_make c n ss es (record { ordered = λ j l. b.ordered j (omega arith); below = λ j l. b.below j (omega arith) }))
    (and_make _ _ (le-leb _ _ (b.ordered n (omega arith))) (lt-ltb _ _ (b.below n (omega arith))))

-- how many indices the intervals hold, each counted as often as it is held
unfoldable pub sizes : ℕ → ℕ → List ℕ → List ℕ → ℕ
sizes capacity n starts ends = sum_below capacity (holders n starts ends)

pub sizes_none : (c : ℕ) (ss es : List ℕ) → sizes c 0 ss es ≡ 0
unfolding sizes holders
sizes_none c ss es = sum_zeros c

-- one interval more adds its size
pub sizes_more : (c n : ℕ) (ss es : List ℕ) → get_or ss n 0 ≤ get_or es n 0 → get_or es n 0 < c → sizes c (suc n) ss es ≡ sizes c n ss es + (get_or es n 0 - get_or ss n 0 + 1)
unfolding sizes holders
sizes_more c n ss es h g =
    sum_add c (holders n ss es) (λ i. one (inside (get_or ss n 0) (get_or es n 0) i))
    ∙ ap (λ (x : ℕ). sum_below c (holders n ss es) + x) (interval_size c (get_or ss n 0) (get_or es n 0) h g)

-- each interval holds at least one index
pub entries_le_sizes : (c n : ℕ) (ss es : List ℕ) → Bounded c n ss es → n ≤ sizes c n ss es
entries_le_sizes c zero ss es b = omega arith
entries_le_sizes c (suc n) ss es b =
    omega (
      arith,
      sizes_more c n ss es (b.ordered n (omega arith)) (b.below n (omega arith)),
      entries_le_sizes c n ss es (record { ordered = λ j l. b.ordered j (omega arith); below = λ j l. b.below j (omega arith) }),
    )

-- more intervals hold more indices
holders_grow : (i n : ℕ) (ss es : List ℕ) (k : ℕ) → i ≤ n → holders i ss es k ≤ holders n ss es k
unfolding holders
holders_grow i zero ss es k h = let e : i ≡ 0 = omega arith in rw e (omega arith)
holders_grow i (suc n) ss es k h =
    elim (dec_lt n i) [
      | yes l ↦ let e : i ≡ suc n = omega arith in rw e (omega arith)
      | no g ↦ omega (arith, holders_grow i n ss es k (omega arith))
    ]

pub sizes_grow : (c i n : ℕ) (ss es : List ℕ) → i ≤ n → sizes c i ss es ≤ sizes c n ss es
unfolding sizes
sizes_grow c i n ss es h = sum_le c (holders i ss es) (holders n ss es) (λ k l. holders_grow i n ss es k h)

-- a number is counted once as often as it is held, or less
once_le : (h : ℕ) → one (ltb 0 h) ≤ h
once_le h = elim (dec_lt 0 h) [ yes l ↦ rw (lt-ltb 0 h l) (omega arith) | no g ↦ rw (le-ltb 0 h (omega arith)) (omega arith) ]

once_eq : (h : ℕ) → h ≤ 1 → one (ltb 0 h) ≡ h
once_eq h g = elim (dec_lt 0 h) [ yes l ↦ rw (lt-ltb 0 h l) (omega arith) | no f ↦ rw (le-ltb 0 h (omega arith)) (omega arith) ]

-- where no two share an index, the free indices are as many as the sizes add up to
pub free_number_lem : (c n : ℕ) (ss es : List ℕ) → ((i : ℕ) → i < c → holders n ss es i ≤ 1) → free_number c n ss es ≡ sizes c n ss es
unfolding free_number sizes count_below is_free
free_number_lem c n ss es h = sum_same c (λ i. one (ltb 0 (holders n ss es i))) (holders n ss es) (λ i l. once_eq (holders n ss es i) (h i l))

-- and only there
pub none_shared_lem : (c n : ℕ) (ss es : List ℕ) → free_number c n ss es ≡ sizes c n ss es → none_shared c n ss es ≡ true
unfolding free_number sizes count_below is_free none_shared
none_shared_lem c n ss es e =
    every_make c (λ i. leb (holders n ss es i) 1)
    (λ i l.
    le-leb (holders n ss es i) 1
    (rw
    (sym (sum_tight c (λ k. one (ltb 0 (holders n ss es k))) (holders n ss es) (λ k m. once_le (holders n ss es k)) e i l))
    (one_le (ltb 0 (holders n ss es i)))))
