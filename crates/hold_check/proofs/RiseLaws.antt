-- One entry more of a list along which places rise.
use Rattle.std.proofs.Common.{◌≡◌, ℕ, suc, ◌+◌, ◌-◌, ◌<◌, ◌≤◌, Bool, true, false, ◌&&◌, ◌||◌, eqb, ltb, leb, List, [], ◌∷◌, ◌++◌, length, get_or, take, sym, refl, ap, ◌∙◌, add-one, arith, take-suc, length-take-le, ltb-false, ltb-true, eqb-true, leb-true}
use mir.Val.{bool_byte}
use borrow.Author.Tests.{lt-leb}
use Rattle.std.proofs.lemmas.List.{get_or-take}
use Rattle.terms.specs.Below.{one, both, every_below, every_at, sum_below, count_below, sum_same}
use Rattle.hold_check.specs.Rising.{Rises, rises_more}
use Rattle.hold_check.specs.Runs.{runs_listed, falls, falls_before, RunsRise, runs_rise}

pub fall_most : (b : Bool) → bool_byte b ≤ 1
fall_most true = omega arith
fall_most false = omega arith

pub fall_one : (b : Bool) → bool_byte b ≡ one b
fall_one true = refl
fall_one false = refl

pub count_more : (i : ℕ) (p : ℕ → Bool) (count : ℕ) → count ≡ count_below i p → count + bool_byte (p i) ≡ count_below (i + 1) p
unfolding count_below sum_below
count_more i p count e = rw (add-one i) (omega (arith, e, fall_one (p i)))

-- the falls of a part that ends at `end` are those before its last place
pub falls_part : (end : ℕ) (location : List ℕ) → end ≤ length location → count_below (length (take end location) - 1) (falls (take end location)) ≡ count_below (end - 1) (falls location)
unfolding count_below
falls_part end location l =
    rw (length-take-le end location l)
    (sum_same (end - 1) _ _ (λ i m. rw (get_or-take end location i 0 (omega arith), get_or-take end location (i + 1) 0 (omega arith)) refl))

-- an entry of a list whose entries are below n
pub listed_at : (n : ℕ) (list : List ℕ) (k : ℕ) → every_below (length list) (λ j. ltb (get_or list j 0) n) ≡ true → k < length list → get_or list k 0 < n
listed_at n list k e l = ltb-true (get_or list k 0) n (every_at (length list) (λ j. ltb (get_or list j 0) n) e k l)

-- the tests before the runs are looked at, taken apart
pub some_held : (n held : ℕ) → (leb 1 held && leb held n) ≡ true → (1 ≤ held) × (held ≤ n)
some_held n held t =
    let b = both (leb 1 held) (leb held n) t in (leb-true 1 held b.0, leb-true held n b.1)

pub ends_within : (n held first last end : ℕ) → ((ltb first end && ltb last end) && (leb held end && leb end n)) ≡ true → ((first < end) × (last < end)) × ((held ≤ end) × (end ≤ n))
ends_within n held first last end t =
    let b = both (ltb first end && ltb last end) (leb held end && leb end n) t in
    let low = both (ltb first end) (ltb last end) b.0 in
    let high = both (leb held end) (leb end n) b.1 in
    ((ltb-true first end low.0, ltb-true last end low.1), (leb-true held end high.0, leb-true end n high.1))

-- what the four tests of two runs give
module _ (n held first end : ℕ) (location list : List ℕ) (some : 1 ≤ held) (lent : held ≤ length list) (started : first < end) (fit : held ≤ end) (inside : end ≤ n) where
  abbrev seamed : Bool
  seamed = leb (first + held) end || ltb (get_or location (end - 1) 0) (get_or location 0 0)

  over_seam : seamed ≡ true → end < first + held → get_or location (end - 1) 0 < get_or location 0 0
  over_seam t l = ltb-true (get_or location (end - 1) 0) (get_or location 0 0) (rw (lt-leb (first + held) end l) at t)

  pub runs_tested : (listed fall : Bool) (count : ℕ) → listed ≡ runs_listed held first end list → count ≡ count_below (end - 1) (falls location) → fall ≡ falls_before first location → ((listed && eqb count (bool_byte fall)) && (seamed && ltb (get_or location (get_or list (held - 1) 0) 0) 65535)) ≡ true → RunsRise n held location list
  runs_tested listed fall count e f g t =
      let b = both (listed && eqb count (bool_byte fall)) (seamed && ltb (get_or location (get_or list (held - 1) 0) 0) 65535) t in
      let runs = both listed (eqb count (bool_byte fall)) b.0 in
      let ends = both seamed (ltb (get_or location (get_or list (held - 1) 0) 0) 65535) b.1 in
      runs_rise n held first end location list some lent started fit inside (sym e ∙ runs.0)
      (sym f ∙ eqb-true count (bool_byte fall) runs.1 ∙ fall_one fall ∙ ap (λ (d : Bool). one d) g)
      (over_seam ends.0)
      (ltb-true (get_or location (get_or list (held - 1) 0) 0) 65535 ends.1)

module _ (n next : ℕ) (location list : List ℕ) (k falls : ℕ) (r : falls ≡ 0 → Rises n next location (take k list)) (lent : suc k ≤ length list) (inside : get_or list k 0 < n) where
  abbrev entry : ℕ
  entry = get_or list k 0

  abbrev place : ℕ
  place = get_or location entry 0

  no_fall : (b : Bool) → bool_byte b ≡ 0 → b ≡ false
  no_fall true e = absurd (omega arith)
  no_fall false e = refl

  pub rises_step : falls + bool_byte (ltb place next) ≡ 0 → Rises n (place + 1) location (take (k + 1) list)
  rises_step e =
      let more : take (k + 1) list ≡ take k list ++ entry ∷ [] = ap (λ (j : ℕ). take j list) (add-one k) ∙ take-suc list k 0 lent in
      let high = ltb-false place next (no_fall (ltb place next) (omega arith)) in
      rw more (rises_more n next location (take k list) (r (omega arith)) entry inside high)
