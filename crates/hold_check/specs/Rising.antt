-- A list of indices along whose entries the places rise: it names no index twice and no two at one place. Where it names as many as
-- are live, it names all of them.
use Rattle.std.specs.Prelude.{◌≡◌, ℕ, ◌+◌, ◌<◌, ◌≤◌, Bool, true, false, not, ◌||◌, List, [], ◌∷◌, ◌++◌, length, get_or, ◌==◌, ◌≢◌, nat_lt, slice_index, slice_index_or}
use Rattle.std.proofs.Math.Decide.{dec_lt, ℕ_discrete}
use native.Mathlib.Omega.{arith}
use Rattle.std.proofs.Math.Bool.{or-true, beq}
use Rattle.std.proofs.Math.Path.{refl, sym}
use Rattle.std.proofs.Common.{ap, ◌∙◌}
use borrow.Author.Tests.{eq-eqb, ne_eqb, eqb-false, lt-ltb, ltb-true}
use Rattle.terms.specs.Below.{one, every_below, every_at, every_make, count_below, sum_tight}
use Rattle.terms.specs.Entries.{any_default}
use Rattle.store_definitions.specs.WellFormed.{empty_uncounted, places_distinct}
use Rattle.store_check.specs.Entries.{counts_live}
use Rattle.hold_definitions.specs.Listed.{times, sum_times, times_self, times_more, times_other}
use Rattle.hold_check.specs.ListedOnce.{listed_once, same_test, listed_sound, listed_make}

-- the entries of a list are below n, at places that rise and stay below a bound
pub record Rises (n bound : ℕ) (location xs : List ℕ) : Type 0 where
  pub below : (i : ℕ) → 0 < times i xs → i < n
  pub placed : (i : ℕ) → 0 < times i xs → slice_index location i < bound
  pub once : (i : ℕ) → times i xs ≤ 1
  pub apart : (i j : ℕ) → 0 < times i xs → 0 < times j xs → slice_index location i ≡ slice_index location j → i ≡ j

pub rises_none : (n bound : ℕ) (location : List ℕ) → Rises n bound location []
unfolding times
rises_none n bound location =
    record {
      below = λ i h. absurd (omega arith);
      placed = λ i h. absurd (omega arith);
      once = λ i. omega arith;
      apart = λ i j h g e. absurd (omega arith);
    }

module _ (n bound : ℕ) (location xs : List ℕ) (r : Rises n bound location xs) where
  pub rises_within : (larger : ℕ) → bound ≤ larger → Rises n larger location xs
  rises_within larger h =
      record { below = r.below; placed = λ i l. omega (arith, r.placed i l, h); once = r.once; apart = r.apart }

  -- one entry more, at a place that is not below the bound
  module _ (x : ℕ) (inside : x < n) (high : bound ≤ slice_index location x) where
    new : times x xs ≡ 0
    new = elim (dec_lt 0 (times x xs)) [ yes l ↦ absurd (omega (arith, r.placed x l, high)) | no g ↦ omega arith ]

    earlier : (i : ℕ) → (i ≢ x) → 0 < times i (xs ++ x ∷ []) → 0 < times i xs
    earlier i d h = omega (arith, times_more i x xs, times_other x i d, h)

    pub rises_more : Rises n (slice_index location x + 1) location (xs ++ x ∷ [])
    rises_more =
        record {
          below = λ i h. elim (ℕ_discrete i x) [ yes e ↦ rw e inside | no d ↦ r.below i (earlier i d h) ];
          placed = λ i h. elim (ℕ_discrete i x) [ yes e ↦ rw e (omega arith) | no d ↦ omega (arith, r.placed i (earlier i d h), high) ];
          once = λ i.
              elim (ℕ_discrete i x) [
                | yes e ↦ rw e (omega (arith, times_more x x xs, times_self x, new))
                | no d ↦ omega (arith, times_more i x xs, times_other x i d, r.once i)
              ];
          apart = λ i j h g e.
              elim (ℕ_discrete i x) [
                | yes p ↦
                    elim (ℕ_discrete j x) [
                      | yes q ↦ p ∙ sym q
                      | no d ↦ absurd (let same = ap (λ (k : ℕ). slice_index location k) p in omega (arith, r.placed j (earlier j d g), high, e, same))
                    ]
                | no d ↦
                    elim (ℕ_discrete j x) [
                      | yes q ↦ absurd (let same = ap (λ (k : ℕ). slice_index location k) q in omega (arith, r.placed i (earlier i d h), high, e, same))
                      | no f ↦ r.apart i j (earlier i d h) (earlier j f g) e
                    ]
              ];
        }

-- no count is above 1
unfoldable pub single_counts : ℕ → List ℕ → Bool
single_counts n counts = every_below n (λ i. nat_lt (slice_index counts i) 2)

-- the list is known to name each live point once, each with count 1
abbrev pub ListKnown : (live : ℕ) → (counts list : List ℕ) → Bool → Type 0
ListKnown live counts list listed = listed ≡ true → (length list ≡ live) × (listed_once (length counts) counts list ≡ true)

module _ (n : ℕ) (counts location xs : List ℕ) (r : Rises n 65535 location xs) (lent : n ≤ length location) (empty : empty_uncounted n counts location ≡ true) (all : length xs ≡ counts_live n counts) where
  abbrev alive : ℕ → ℕ
  alive i = one (not (slice_index counts i == 0))

  place_is : (i : ℕ) → i < n → slice_index_or location i 65535 ≡ slice_index location i
  place_is i l = any_default location i 65535 0 (omega (arith, lent))

  -- an index with a place is counted
  counted : (i : ℕ) → i < n → (slice_index location i ≢ 65535) → (slice_index counts i == 0) ≡ false
  unfolding empty_uncounted
  counted i l d =
      let test = every_at n (λ k. beq (slice_index counts k == 0) (slice_index_or location k 65535 == 65535)) empty i l in
      beq_false (slice_index counts i == 0)
      (ap (λ (b : Bool). beq (slice_index counts i == 0) b) (sym (ne_eqb (slice_index_or location i 65535) 65535 (λ e. d (sym (place_is i l) ∙ e)))) ∙ test)
    where
      beq_false : (b : Bool) → beq b false ≡ true → b ≡ false
      beq_false true e = sym e
      beq_false false e = refl

  placed_counted : (i : ℕ) → 0 < times i xs → (slice_index counts i == 0) ≡ false
  placed_counted i h = counted i (r.below i h) (λ e. omega (arith, r.placed i h, e))

  named_alive : (i : ℕ) → times i xs ≤ alive i
  named_alive i =
      elim (dec_lt 0 (times i xs)) [ yes h ↦ rw (placed_counted i h) (r.once i) | no g ↦ omega arith ]

  all_named : (i : ℕ) → i < n → times i xs ≡ alive i
  unfolding counts_live count_below
  all_named i l = sum_tight n (λ k. times k xs) alive (λ k m. named_alive k) (sum_times n xs r.below ∙ all) i l

  -- an index with a place is on the list
  pub named : (i : ℕ) → i < n → (slice_index location i ≢ 65535) → 0 < times i xs
  named i l d = let e = rw (counted i l d) at (all_named i l) in omega (arith, e)

  pair_apart_lem : (i j : ℕ) → i < n → j < i → (not (slice_index_or location i 65535 == slice_index_or location j 65535) || slice_index_or location i 65535 == 65535) ≡ true
  pair_apart_lem i j l m =
      let p = get_or location i 65535 in
      let q = get_or location j 65535 in
      elim (ℕ_discrete p 65535) [
        | yes e ↦ rw (eq-eqb p 65535 e) (or-true (not (p == q)))
        | no d ↦
            elim (ℕ_discrete p q) [
              | yes e ↦
                  let k : j < n = omega arith in
                  let one_place = sym (place_is i l) ∙ e ∙ place_is j k in
                  let same =
                  r.apart i j (named i l (λ f. d (place_is i l ∙ f))) (named j k (λ f. d (e ∙ place_is j k ∙ f))) one_place in
                  absurd (omega (arith, same, m))
              | no f ↦ rw (ne_eqb p q f)
            ]
      ]

  pub rising_distinct : places_distinct n location ≡ true
  unfolding places_distinct
  rising_distinct =
      every_make n
      (λ i. every_below i (λ j. not (slice_index_or location i 65535 == slice_index_or location j 65535) || slice_index_or location i 65535 == 65535))
      (λ i l.
      every_make i (λ j. not (slice_index_or location i 65535 == slice_index_or location j 65535) || slice_index_or location i 65535 == 65535)
      (λ j m. pair_apart_lem i j l m))

  none_alive : (c : ℕ) → 0 ≡ one (not (c == 0)) → c ≡ 0
  none_alive c e =
      elim (ℕ_discrete c 0) [ yes q ↦ q | no d ↦ absurd (let z = rw (ne_eqb c 0 d) at e in omega (arith, z)) ]

  single_one : (c : ℕ) → c < 2 → (c == 0) ≡ false → c ≡ 1
  single_one c l e = elim (ℕ_discrete c 0) [ yes q ↦ absurd (eqb-false c 0 e q) | no d ↦ omega arith ]

  pub rising_listed : single_counts n counts ≡ listed_once n counts xs
  unfolding single_counts
  rising_listed =
      same_test (every_below n (λ k. nat_lt (slice_index counts k) 2)) (listed_once n counts xs)
      (λ e.
      listed_make n counts xs
      (λ i h.
      record {
        below = r.below i h;
        counted = single_one (slice_index counts i) (ltb-true (slice_index counts i) 2 (every_at n (λ k. nat_lt (slice_index counts k) 2) e i (r.below i h))) (placed_counted i h);
        once = omega (arith, r.once i, h);
      }))
      (λ e.
      every_make n (λ k. nat_lt (slice_index counts k) 2)
      (λ i l.
      elim (dec_lt 0 (times i xs)) [
        | yes h ↦ lt-ltb (slice_index counts i) 2 (omega (arith, (listed_sound n counts xs e i h).counted))
        | no g ↦
            let none : 0 ≡ alive i = (let z : 0 ≡ times i xs = omega arith in z) ∙ all_named i l in
            lt-ltb (slice_index counts i) 2 (omega (arith, none_alive (slice_index counts i) none))
      ]))
