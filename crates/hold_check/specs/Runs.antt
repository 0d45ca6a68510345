-- A list that is at most two runs of indices: first, first + 1, .. below an end, and then 0, 1, .. Where the table's places rise along
-- the runs and over the seam, they rise along the list.
use Rattle.std.specs.Prelude.{◌≡◌, ℕ, zero, suc, ◌+◌, ◌-◌, ◌<◌, ◌≤◌, Bool, true, false, cond, ◌&&◌, leb, List, [], length, take, ◌≢◌, nat_eq, nat_le, nat_lt, slice_index, slice_index_or, refl}
use Rattle.std.proofs.Math.Decide.{dec_lt}
use Rattle.std.proofs.Common.{arith, ⊎_elim, sym, ap, ◌∙◌, take-suc}
use borrow.Author.Tests.{eqb-true, leb-false, lt-ltb, le-ltb, le-leb, lt-leb}
use Rattle.terms.specs.Below.{one, every_below, every_at, sum_below, count_below, fails, below_or_last}
use Rattle.hold_check.specs.Rising.{Rises, rises_none, rises_more}

-- indices are counted on from 0 after the end
unfoldable pub turned : (end at : ℕ) → ℕ
turned end at = cond (nat_lt at end) at (at - end)

unfoldable pub runs_listed : (held first end : ℕ) → List ℕ → Bool
runs_listed held first end list = every_below held (λ k. nat_eq (slice_index list k) (turned end (first + k)))

-- the place of i is not below that of i + 1
abbrev pub falls : List ℕ → ℕ → Bool
falls location i = nat_le (slice_index location (i + 1)) (slice_index location i)

abbrev pub falls_before : ℕ → List ℕ → Bool
falls_before first location = nat_le 1 first && nat_le (slice_index location first) (slice_index location (first - 1))

-- places rise along a list that is not empty, up to that of its last entry
pub record RunsRise (n held : ℕ) (location list : List ℕ) : Type 0 where
  pub some : 1 ≤ held
  pub top : slice_index_or location (slice_index list (held - 1)) 0 < 65535
  pub rises : Rises n (slice_index location (slice_index list (held - 1)) + 1) location (take held list)

-- a test that holds somewhere is counted once, one that holds at two places twice
count_one : (n : ℕ) (p : ℕ → Bool) (i : ℕ) → i < n → p i ≡ true → 1 ≤ count_below n p
unfolding count_below sum_below
count_one zero p i l e = absurd (omega arith)
count_one (suc n) p i l e =
    ⊎_elim (λ m. omega (arith, count_one n p i m e)) (λ q. let t : one (p n) ≡ 1 = ap (λ (k : ℕ). one (p k)) (sym q) ∙ ap (λ (b : Bool). one b) e in omega (arith, t)) (below_or_last n i l)

count_two : (n : ℕ) (p : ℕ → Bool) (i j : ℕ) → i < j → j < n → p i ≡ true → p j ≡ true → 2 ≤ count_below n p
unfolding count_below sum_below
count_two zero p i j h l e f = absurd (omega arith)
count_two (suc n) p i j h l e f =
    ⊎_elim (λ m. omega (arith, count_two n p i j h m e f))
    (λ q. let t : one (p n) ≡ 1 = ap (λ (k : ℕ). one (p k)) (sym q) ∙ ap (λ (b : Bool). one b) f in omega (arith, t, count_one n p i (omega (arith, q)) e))
    (below_or_last n j l)

-- where all that is counted holds at one place, it holds nowhere else
count_there : (n : ℕ) (p : ℕ → Bool) (j : ℕ) → j < n → count_below n p ≡ one (p j) → (i : ℕ) → i < n → (i ≢ j) → p i ≡ false
count_there n p j m c i l d =
    fails (p i) (λ e. there (p j) refl e)
  where
    there : (b : Bool) → b ≡ p j → p i ≢ true
    there true q e =
        elim (dec_lt i j) [
          | yes h ↦ omega (arith, count_two n p i j h m e (sym q), c, ap (λ (b : Bool). one b) (sym q))
          | no g ↦ omega (arith, count_two n p j i (omega (arith, d)) l (sym q) e, c, ap (λ (b : Bool). one b) (sym q))
        ]
    there false q e = omega (arith, count_one n p i l e, c, ap (λ (b : Bool). one b) (sym q))

pub turned_below : (end at : ℕ) → at < end → turned end at ≡ at
unfolding turned
turned_below end at l = rw (lt-ltb at end l)

pub turned_on : (end at : ℕ) → end ≤ at → turned end at ≡ at - end
unfolding turned
turned_on end at l = rw (le-ltb at end l)

module _ (n held first end : ℕ) (location list : List ℕ) (some : 1 ≤ held) (lent : held ≤ length list) (started : first < end) (fit : held ≤ end) (inside : end ≤ n) (listed : runs_listed held first end list ≡ true) (climb : count_below (end - 1) (falls location) ≡ one (falls_before first location)) (seam : end < first + held → slice_index location (end - 1) < slice_index location 0) (top : slice_index_or location (slice_index list (held - 1)) 0 < 65535) where
  abbrev entry : ℕ → ℕ
  entry k = slice_index list k

  abbrev place : ℕ → ℕ
  place i = slice_index location i

  entry_is : (k : ℕ) → k < held → entry k ≡ turned end (first + k)
  unfolding runs_listed
  entry_is k l = eqb-true (entry k) (turned end (first + k)) (every_at held (λ j. nat_eq (slice_index list j) (turned end (first + j))) listed k l)

  -- the one fall that may be counted is the one before the first entry
  no_fall : (i : ℕ) → i + 1 < end → (i + 1 ≢ first) → falls location i ≡ false
  no_fall i l d =
      elim (dec_lt 0 first) [
        | yes h ↦
            let back : first - 1 + 1 ≡ first = omega arith in
            let there : falls location (first - 1) ≡ falls_before first location =
            rw (le-leb 1 first h) (ap (λ (j : ℕ). leb (place j) (place (first - 1))) back) in
            count_there (end - 1) (falls location) (first - 1) (omega arith) (climb ∙ ap (λ (b : Bool). one b) (sym there)) i (omega arith) (λ e. d (omega (arith, e)))
        | no g ↦
            let none : falls_before first location ≡ false = rw (lt-leb 1 first (omega arith)) in
            fails (falls location i) (λ e. omega (arith, count_one (end - 1) (falls location) i (omega arith) e, climb, ap (λ (b : Bool). one b) none))
      ]

  rises_at : (i : ℕ) → i + 1 < end → (i + 1 ≢ first) → place i < place (i + 1)
  rises_at i l d = leb-false (place (i + 1)) (place i) (no_fall i l d)

  from_to : (k a b : ℕ) → entry k ≡ a → entry (suc k) ≡ b → place a < place b → place (entry k) < place (entry (suc k))
  from_to k a b e f l = omega (arith, l, ap (λ (i : ℕ). place i) e, ap (λ (i : ℕ). place i) f)

  step : (k : ℕ) → suc k < held → place (entry k) < place (entry (suc k))
  step k l =
      let this : entry k ≡ turned end (first + k) = entry_is k (omega arith) in
      let next : entry (suc k) ≡ turned end (first + suc k) = entry_is (suc k) l in
      elim (dec_lt (first + suc k) end) [
        | yes h ↦
            let b : first + suc k ≡ first + k + 1 = omega arith in
            from_to k (first + k) (first + k + 1) (this ∙ turned_below end (first + k) (omega arith))
            (next ∙ turned_below end (first + suc k) h ∙ b)
            (rises_at (first + k) (omega arith) (λ e. omega (arith, e)))
        | no g ↦
            elim (dec_lt (first + k) end) [
              | yes h ↦
                  let a : first + k ≡ end - 1 = omega arith in
                  let b : first + suc k - end ≡ 0 = omega arith in
                  from_to k (end - 1) 0 (this ∙ turned_below end (first + k) h ∙ a)
                  (next ∙ turned_on end (first + suc k) (omega arith) ∙ b)
                  (seam (omega arith))
              | no h ↦
                  let b : first + suc k - end ≡ first + k - end + 1 = omega arith in
                  from_to k (first + k - end) (first + k - end + 1) (this ∙ turned_on end (first + k) (omega arith))
                  (next ∙ turned_on end (first + suc k) (omega arith) ∙ b)
                  (rises_at (first + k - end) (omega arith) (λ e. omega (arith, e)))
            ]
      ]

  entry_below : (k : ℕ) → k < held → entry k < n
  entry_below k l =
      elim (dec_lt (first + k) end) [
        | yes h ↦ omega (arith, entry_is k l, turned_below end (first + k) h)
        | no g ↦ omega (arith, entry_is k l, turned_on end (first + k) (omega arith))
      ]

  up : (k : ℕ) → k < held → Rises n (place (entry k) + 1) location (take (suc k) list)
  up zero l =
      rw (take-suc list 0 0 (omega arith))
      (rises_more n 0 location [] (rises_none n 0 location) (entry 0) (entry_below 0 l) (omega arith))
  up (suc k) l =
      rw (take-suc list (suc k) 0 (omega arith))
      (rises_more n (place (entry k) + 1) location (take (suc k) list) (up k (omega arith)) (entry (suc k)) (entry_below (suc k) l) (omega (arith, step k l)))

  pub runs_rise : RunsRise n held location list
  runs_rise =
      let whole : suc (held - 1) ≡ held = omega arith in
      record { some = some; top = top; rises = rw whole at (up (held - 1) (omega arith)) }
