-- What is found of the first n entries of a table is so of the table, since it is asked of indices below n alone.
use Rattle.std.proofs.Common.{◌≡◌, ℕ, suc, ◌+◌, ◌-◌, ◌<◌, ◌≤◌, [], ◌∷◌, ◌++◌, Bool, ltb, List, length, get_or, take, sym, refl, ap, subst, ◌∙◌, arith, take-suc, take_all, length-take-le}
use Rattle.std.proofs.lemmas.List.{get_or-take}
use Rattle.terms.specs.Below.{every_below}
use Rattle.label_check.specs.LabelPass.{every_same}
use Rattle.store_definitions.specs.WellFormed.{places_distinct}
use Rattle.store_check.specs.Entries.{PlacesBelow}
use Rattle.hold_definitions.specs.Listed.{times, times_more, times_self}
use Rattle.hold_check.specs.ListedOnce.{listed_once, same_test, listed_sound, listed_make}
use Rattle.hold_check.specs.Rising.{Rises, rises_within, single_counts}
use Rattle.hold_check.specs.Runs.{RunsRise}
use Rattle.hold_check.specs.Steady.{entries_held}
use Rattle.hold_check.specs.CheckLaws.{list_holds}

module _ (n : ℕ) (table : List ℕ) (lent : n ≤ length table) where
  abbrev part : List ℕ
  part = take n table

  pub sized : length part ≡ n
  sized = length-take-le n table lent

  same : (i : ℕ) → i < n → get_or part i 0 ≡ get_or table i 0
  same i l = get_or-take n table i 0 l

  -- ---- counts

  pub once_part : (xs : List ℕ) → listed_once (length part) part xs ≡ listed_once n table xs
  once_part xs =
      ap (λ (k : ℕ). listed_once k part xs) sized
      ∙ same_test (listed_once n part xs) (listed_once n table xs)
      (λ e.
      listed_make n table xs
      (λ i h.
      let o = listed_sound n part xs e i h in
      record { below = o.below; counted = sym (same i o.below) ∙ o.counted; once = o.once }))
      (λ e.
      listed_make n part xs
      (λ i h.
      let o = listed_sound n table xs e i h in
      record { below = o.below; counted = same i o.below ∙ o.counted; once = o.once }))

  pub single_part : single_counts (length part) part ≡ single_counts n table
  unfolding single_counts
  single_part =
      ap (λ (k : ℕ). every_below k (λ i. ltb (get_or part i 0) 2)) sized
      ∙ every_same n (λ i. ltb (get_or part i 0) 2) (λ i. ltb (get_or table i 0) 2) (λ i l. ap (λ (c : ℕ). ltb c 2) (same i l))

  -- ---- places

  pub distinct_part : places_distinct (length part) part ≡ places_distinct n table
  unfolding places_distinct
  distinct_part =
      rw sized
      (every_same n _ _ (λ i l. every_same i _ _ (λ j m. rw (get_or-take n table i 65535 l, get_or-take n table j 65535 (omega arith)) refl)))

  pub below_part : (limit : ℕ) → PlacesBelow limit n table → PlacesBelow limit (length part) part
  below_part limit p i l d =
      let e = same i (omega (arith, sized)) in omega (arith, e, p i (omega (arith, sized)) (λ f. d (e ∙ f)))

  pub rises_part : (bound : ℕ) (xs : List ℕ) → Rises (length part) bound part xs → Rises n bound table xs
  rises_part bound xs s =
      let r = subst (λ (k : ℕ). Rises k bound part xs) sized s in
      record {
        below = r.below;
        placed = λ i h. omega (arith, r.placed i h, same i (r.below i h));
        once = r.once;
        apart = λ i j h g e. r.apart i j h g (same i (r.below i h) ∙ e ∙ sym (same j (r.below j g)));
      }

  -- the last entry of a list is on it, so its place is in the part
  pub runs_part : (list : List ℕ) → RunsRise (length part) (length list) part list → RunsRise n (length list) table list
  runs_part list r =
      let last = get_or list (length list - 1) 0 in
      let front = take (length list - 1) list in
      let whole : take (length list) list ≡ front ++ last ∷ [] = ap (λ (k : ℕ). take k list) (let z : length list ≡ suc (length list - 1) = omega (arith, r.some) in z) ∙ take-suc list (length list - 1) 0 (omega (arith, r.some)) in
      let named : 0 < times last (take (length list) list) = rw whole (omega (arith, times_more last last front, times_self last)) in
      let there = same last (omega (arith, r.rises.below last named, sized)) in
      record {
        some = r.some;
        top = omega (arith, r.top, there);
        rises = rises_within n (get_or part last 0 + 1) table (take (length list) list) (rises_part (get_or part last 0 + 1) (take (length list) list) r.rises) (get_or table last 0 + 1) (omega (arith, there));
      }

-- ---- entries

pub entries_part : (n start more other further : ℕ) (counts location : List ℕ) → n ≤ length counts → entries_held (length (take n counts)) start more other further (take n counts) (take n location) ≡ entries_held n start more other further counts location
unfolding entries_held
entries_part n start more other further counts location lent =
    rw (sized n counts lent)
    (every_same n _ _ (λ i l. rw (get_or-take n counts i 0 l, get_or-take n location i 0 l) refl))

-- ---- the list's test, by the list and the first n counts

pub list_part : (live held n capacity : ℕ) (on : Bool) (counts label_counts indices labels : List ℕ) → n ≤ length counts → held ≤ length indices → list_holds live (length (take held indices)) (length (take n counts)) capacity on (take n counts) label_counts (take held indices) labels ≡ list_holds live held n capacity on counts label_counts indices labels
unfolding list_holds
list_part live held n capacity on counts label_counts indices labels lent room =
    let long = length-take-le held indices room in
    rw (long, take_all held (take held indices) (omega (arith, long)), once_part n counts lent (take held indices)) refl
