-- The tests of the table's places as the facts that placement's laws take: over the table's part of the lent places.
use Rattle.std.specs.Prelude.{ℕ, ◌+◌, ◌*◌, ◌≤◌, ◌<◌, Bool, not, ◌||◌, List, refl, length, get_or, take, leb, eqb}
use native.Mathlib.Omega.{arith}
use Rattle.std.proofs.Math.Decide.{dec_lt, ℕ_discrete}
use Rattle.std.proofs.Math.Bool.{true, false, or-true}
use Rattle.std.proofs.Math.Path.{◌≡◌, sym}
use Rattle.std.proofs.Common.{◌∙◌, length-take-le}
use Rattle.std.proofs.Math.Seq.{get_or-take}
use borrow.Author.Tests.{eq-eqb, ne_eqb, eqb-false, le-leb, leb-true}
use Rattle.terms.specs.Below.{every_below, every_at, every_make}
use Rattle.placement.specs.Places.{Live, Distinct}
use Rattle.store_definitions.specs.declared.Store.{Store}
use Rattle.store_definitions.specs.Parts.{base_of}
use Rattle.store_definitions.specs.WellFormed.{places_distinct, places_end}

-- a test that is asked only where another fails
asked : (a b : Bool) → (a || b) ≡ true → a ≡ false → b ≡ true
asked true b e h = absurd (let t : true ≡ false = h in let z : ◌≡◌ {A = ℕ} 0 1 = cc in omega arith)
asked false b e h = e

asked_make : (a b : Bool) → (a ≡ false → b ≡ true) → (a || b) ≡ true
asked_make true b f = refl
asked_make false b f = f refl

module _ (n : ℕ) (location : List ℕ) (lent : n ≤ length location) where
  abbrev at : ℕ → ℕ
  at i = get_or location i 65535

  -- a live index of the table
  pub live_below_lem : (i : ℕ) → Live (take n location) i → i < n
  live_below_lem i l = rw (length-take-le n location lent) at l.listed

  pub live_placed : (i : ℕ) → Live (take n location) i → at i ≡ 65535 → ⊥
  live_placed i l e = l.placed (get_or-take n location i 65535 (live_below_lem i l) ∙ e)

  pub live_make : (i : ℕ) → i < n → (at i ≡ 65535 → ⊥) → Live (take n location) i
  live_make i h d =
      record {
        listed = rw (length-take-le n location lent) h;
        placed = λ e. d (sym (get_or-take n location i 65535 h) ∙ e);
      }

  -- 'live places are distinct'
  apart : ℕ → ℕ → Bool
  apart i j = not (eqb (at i) (at j)) || eqb (at i) 65535

  apart_no : (i j : ℕ) → at i ≡ at j → (at i ≡ 65535 → ⊥) → apart i j ≡ false
  unfolding apart
  apart_no i j e d = rw (eq-eqb (at i) (at j) e, ne_eqb (at i) 65535 d)

  pub distinct : places_distinct n location ≡ true → Distinct (take n location)
  unfolding places_distinct apart
  distinct e i j l m q =
      let same : at i ≡ at j =
      sym (get_or-take n location i 65535 (live_below_lem i l)) ∙ q ∙ get_or-take n location j 65535 (live_below_lem j m) in
      let clash : (a b : ℕ) → a < n → b < a → at a ≡ at b → (at a ≡ 65535 → ⊥) → ⊥ = λ a b h k s d.
      let yes : apart a b ≡ true = every_at a (apart a) (every_at n (λ c. every_below c (apart c)) e a h) b k in
      let t : true ≡ false = sym yes ∙ apart_no a b s d in
      let z : ◌≡◌ {A = ℕ} 0 1 = cc in
      omega arith in
      elim (dec_lt i j) [
        | yes h ↦ absurd (clash j i (live_below_lem j m) h (sym same) (live_placed j m))
        | no g ↦ elim (dec_lt j i) [ yes h ↦ absurd (clash i j (live_below_lem i l) h same (live_placed i l)) | no f ↦ omega arith ]
      ]

  pub distinct_make : Distinct (take n location) → places_distinct n location ≡ true
  unfolding places_distinct apart
  distinct_make d =
      every_make n (λ i. every_below i (apart i)) (λ i h. every_make i (apart i) (λ j k. differ i j h k))
    where
      differ : (i j : ℕ) → i < n → j < i → apart i j ≡ true
      differ i j h k =
          elim (ℕ_discrete (at i) 65535) [
            | yes e ↦ rw (eq-eqb (at i) 65535 e) (or-true (not (eqb (at i) (at j))))
            | no g ↦
                elim (ℕ_discrete (at i) (at j)) [
                  | yes e ↦
                      absurd (omega (
                        arith,
                        d i j (live_make i h g) (live_make j (omega arith) (λ q. g (e ∙ q)))
                            (get_or-take n location i 65535 h ∙ e ∙ sym (get_or-take n location j 65535 (omega arith))),
                      ))
                  | no f ↦ rw (ne_eqb (at i) (at j) f)
                ]
          ]

  -- 'place × base + dimensions is at most the free start'
  module _ (s : Store) where
    abbrev free : ℕ
    free = s.start_free_region

    ends_at : ℕ → Bool
    ends_at i = eqb (at i) 65535 || leb (at i * base_of s + s.dimensions) free

    pub ends : places_end n s location ≡ true → (i : ℕ) → Live (take n location) i → get_or (take n location) i 65535 * base_of s + s.dimensions ≤ free
    unfolding places_end ends_at
    ends e i l =
        rw (get_or-take n location i 65535 (live_below_lem i l))
        (leb-true (at i * base_of s + s.dimensions) free
        (asked (eqb (at i) 65535) _ (every_at n ends_at e i (live_below_lem i l)) (ne_eqb (at i) 65535 (live_placed i l))))

    pub ends_make : ((i : ℕ) → Live (take n location) i → get_or (take n location) i 65535 * base_of s + s.dimensions ≤ free) → places_end n s location ≡ true
    unfolding places_end ends_at
    ends_make f =
        every_make n ends_at
        (λ i h.
        asked_make (eqb (at i) 65535) (leb (at i * base_of s + s.dimensions) free)
        (λ d.
        le-leb (at i * base_of s + s.dimensions) free
        (rw (get_or-take n location i 65535 h) at (f i (live_make i h (eqb-false (at i) 65535 d))))))
