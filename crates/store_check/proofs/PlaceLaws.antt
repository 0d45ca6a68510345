-- Places marked one after another: which are marked, and that a place marked already stands at an earlier index.
use Prim.Native.Nat.{ℕ, zero, suc, ◌+◌, ◌<◌, ◌≤◌}
use native.Mathlib.Decide.{ℕ_discrete}
use native.Mathlib.Numerals.{add-one}
use mathlib.Core.List.{List}
use mathlib.Core.Bool.{Bool, true, false, ◌&&◌, ◌||◌, not, or-true, or-false, and-true}
use mathlib.Core.Path.{◌≡◌, refl, sym, ◌∙◌, ap}
use lib.ListN.{length, get_or, take}
use lib.Seq.{get_or-set_same, get_or-set_other, get_or-take}
use native.Mathlib.Omega.{arith}
use Rattle.std.proofs.lemmas.List.{length-take-le}
use lib.Dec.{eqb}
use borrow.Author.Tests.{eq-eqb, ne_eqb}
use Rattle.terms.specs.Below.{every_below}
use Rattle.store_definitions.specs.WellFormed.{places_distinct}
use Rattle.store_check.specs.Entries.{stands, place_met, place_marked, NoneMarked}
use Rattle.label_check.specs.LabelPass.{every_same}

apart : List ℕ → ℕ → ℕ → Bool
apart location i j = not (eqb (get_or location i 65535) (get_or location j 65535)) || eqb (get_or location i 65535) 65535

-- the first n entries, cut out
module _ (n : ℕ) (location : List ℕ) (lent : n ≤ length location) where
  pub part_distinct : places_distinct (length (take n location)) (take n location) ≡ places_distinct n location
  unfolding places_distinct apart
  part_distinct =
      rw (length-take-le n location lent)
      (every_same n (λ i. every_below i (apart (take n location) i)) (λ i. every_below i (apart location i))
      (λ i l.
      every_same i (apart (take n location) i) (apart location i)
      (λ j m. rw (get_or-take n location i 65535 l, get_or-take n location j 65535 (omega arith)) refl)))

-- the places of the first i entries are marked, and no others
abbrev pub PlacesMarked : ℕ → List ℕ → List Bool → Type 0
PlacesMarked i location marks = (q : ℕ) → (q ≡ 65535 → ⊥) → get_or marks q false ≡ stands i location q

pub none_yet : (location : List ℕ) (marks : List Bool) → NoneMarked marks → PlacesMarked 0 location marks
unfolding stands
none_yet location marks u q d = u q

neither : (a b : Bool) → not (a || b) ≡ (not a && not b)
neither true b = refl
neither false b = refl

-- no earlier entry has the place p: it is empty, or does not stand below i
alone : (i : ℕ) (location : List ℕ) (p : ℕ) (e : Bool) → eqb p 65535 ≡ e → every_below i (λ j. not (eqb p (get_or location j 65535)) || eqb p 65535) ≡ (e || not (stands i location p))
unfolding every_below stands
alone zero location p true h = refl
alone zero location p false h = refl
alone (suc i) location p true h = rw (h, or-true (not (eqb p (get_or location i 65535)))) (and-true _ ∙ (ap (λ (b : Bool). every_below i (λ j. not (eqb p (get_or location j 65535)) || b)) (sym h) ∙ alone i location p true h))
alone (suc i) location p false h =
    rw (alone i location p false h, h, or-false (not (eqb p (get_or location i 65535)))) (sym (neither (stands i location p) (eqb p (get_or location i 65535))))

pub fresh_is : (i : ℕ) (location : List ℕ) (marks : List Bool) (p : ℕ) → PlacesMarked i location marks → every_below i (λ j. not (eqb p (get_or location j 65535)) || eqb p 65535) ≡ not (place_met p marks)
unfolding place_met
fresh_is i location marks p m =
    elim (ℕ_discrete p 65535) [
      | yes e ↦ alone i location p true (eq-eqb p 65535 e) ∙ rw (eq-eqb p 65535 e)
      | no d ↦ alone i location p false (ne_eqb p 65535 d) ∙ rw (ne_eqb p 65535 d, m p d)
    ]

-- a place that does not stand at i stands below i + 1 exactly where it does below i
not_last : (i : ℕ) (location : List ℕ) (q : ℕ) → (q ≡ get_or location i 65535 → ⊥) → stands (suc i) location q ≡ stands i location q
unfolding stands
not_last i location q d = rw (ne_eqb q (get_or location i 65535) d) (or-false (stands i location q))

last : (i : ℕ) (location : List ℕ) (q : ℕ) → q ≡ get_or location i 65535 → stands (suc i) location q ≡ true
unfolding stands
last i location q e = rw (eq-eqb q (get_or location i 65535) e) (or-true (stands i location q))

-- one entry more
pub marks_more : (i : ℕ) (location : List ℕ) (marks : List Bool) → PlacesMarked i location marks → ((get_or location i 65535 ≡ 65535 → ⊥) → get_or location i 65535 < length marks) → PlacesMarked (i + 1) location (place_marked (get_or location i 65535) marks)
unfolding place_marked
marks_more i location marks m h q d =
    let p = get_or location i 65535 in
    rw (add-one i)
    (elim (ℕ_discrete p 65535) [
      | yes e ↦ rw (eq-eqb p 65535 e, not_last i location q (λ f. d (f ∙ e))) (m q d)
      | no f ↦
          rw (ne_eqb p 65535 f)
          (elim (ℕ_discrete q p) [
            | yes e ↦ rw (last i location q e, e) (get_or-set_same marks p true false (h f))
            | no g ↦ rw (not_last i location q g) (get_or-set_other marks p q true false g ∙ m q d)
          ])
    ])

pub distinct_more : (i : ℕ) (location : List ℕ) (marks : List Bool) (met again : Bool) → PlacesMarked i location marks → not met ≡ places_distinct i location → again ≡ place_met (get_or location i 65535) marks → not (met || again) ≡ places_distinct (i + 1) location
unfolding places_distinct every_below
distinct_more i location marks met again m e f =
    neither met again ∙ rw (add-one i, e, f, fresh_is i location marks (get_or location i 65535) m)
