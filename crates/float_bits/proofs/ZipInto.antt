-- One turn of a loop that takes a list into another, element by element, for any elements.
use Prim.Native.Nat.{ℕ, suc, ◌+◌, ◌≤◌, ◌<◌}
use native.Mathlib.Numerals.{add-one}
use native.Mathlib.Omega.{arith}
use mathlib.Core.Path.{◌≡◌}
use mathlib.Core.List.{List, ◌++◌, append-nil}
use lib.ListN.{length, take, drop, get_or, set, drop_of_length-le}
use lib.Seq.{drop-cons, take-suc-set, drop-set-lt, take_all, append_snoc}
use Rattle.float_bits.specs.Rows.{zip_into}

module _ {S E : Type 0} (f : S → E → S) (es : List E) where
  -- the list once its first i elements are done: those, and what the others become
  abbrev pub rest : List S → ℕ → List S
  rest ss i = take i ss ++ zip_into f (drop i ss) (drop i es)

  pub taken_turn : (d : S) (c : E) (ss : List S) (i : ℕ) → i < length ss → i < length es → rest (set ss i (f (get_or ss i d) (get_or es i c))) (i + 1) ≡ rest ss i
  unfolding zip_into
  taken_turn d c ss i h k =
      let v = f (get_or ss i d) (get_or es i c) in
      rw (add-one, take-suc-set ss i v h, drop-set-lt (suc i) ss i v (omega arith), append_snoc, drop-cons ss i d h, drop-cons es i c k)

  pub all_taken : (ss : List S) (i : ℕ) → length ss ≤ i → rest ss i ≡ ss
  unfolding zip_into
  all_taken ss i h = rw (take_all i ss h, drop_of_length-le ss {i = i} h) (append-nil ss)
