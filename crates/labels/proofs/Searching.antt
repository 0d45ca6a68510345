-- A search over the parts of the classes and the counts finds the slot of the class.
use Prim.Native.Nat.{ℕ, ◌≤◌, ◌<◌}
use native.Mathlib.Omega.{arith}
use mathlib.Core.Bool.{Bool, ◌&&◌, cond}
use mathlib.Core.List.{List}
use mathlib.Core.Path.{◌≡◌, refl, ◌∙◌}
use lib.Dec.{eqb, ltb}
use lib.ListN.{length, take, get_or}
use Rattle.std.specs.Prelude.{Some, None}
use Rattle.std.specs.List.{zip, position_or_len}
use Rattle.std.proofs.lemmas.List.{get_or-take, length-take-le}
use Rattle.std.proofs.lemmas.List.Sums.{position_or_len_is}
use Rattle.std.proofs.lemmas.Slice.Zip.{length-zip, get_or-zip}
use Rattle.terms.specs.Search.{first_below, first}
use Rattle.labels.specs.Labels.{holds_class, class_slot, live_slot}

-- the test of a slot's class and count
abbrev pub holds : ℕ → ℕ × ℕ → Bool
holds class s = ltb 0 s.1 && eqb s.0 class

module _ (c : ℕ) (held counts : List ℕ) (class : ℕ) (h : c ≤ length held) (k : c ≤ length counts) where
  abbrev pub slots : List (ℕ × ℕ)
  slots = zip (take c held) (take c counts)

  sized : length slots ≡ c
  sized = omega (arith, length-zip (take c held) (take c counts), length-take-le c held h, length-take-le c counts k)

  slot_is : (i : ℕ) → i < c → holds class (get_or slots i (0, 0)) ≡ holds_class held counts class i
  unfolding holds_class
  slot_is i l =
      let a : i < length (take c held) = omega (arith, length-take-le c held h) in
      let b : i < length (take c counts) = omega (arith, length-take-le c counts k) in
      rw (get_or-zip (take c held) (take c counts) i (0, 0) a b, get_or-take c held i 0 l, get_or-take c counts i 0 l) refl

  place : position_or_len (holds class) slots ≡ first_below c (holds_class held counts class)
  place =
      let p = holds_class held counts class in
      let f = first c p in
      position_or_len_is (holds class) slots (first_below c p) (0, 0) (omega (arith, f.within, sized))
      (λ i l. slot_is i (omega (arith, f.within)) ∙ f.none_before i l)
      (λ l. let m : first_below c p < c = omega (arith, sized) in slot_is (first_below c p) m ∙ f.passes m)

  pub slot_found : cond (ltb (position_or_len (holds class) slots) (length slots)) (Some (position_or_len (holds class) slots)) None ≡ live_slot c held counts class
  unfolding class_slot
  slot_found = rw (sized, place) refl
