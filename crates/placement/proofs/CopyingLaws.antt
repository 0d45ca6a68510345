-- Document 01's own sentence on a copy.
use Rattle.std.specs.Prelude.{Bool, ◌≡◌, ℕ, ◌+◌, ◌*◌, ◌-◌, ◌%◌, ◌≤◌, ◌<◌, length, take, get_or}
use Rattle.std.proofs.Math.Bool.{true, false}
use mathlib.Core.List.{List, ◌++◌}
use Rattle.std.proofs.Common.{ap, ◌∙◌, mod-lt, mod-eq_of_lt, length-drop, length-append, get_or-append-add}
use Rattle.std.proofs.Math.Nat.{le_of_lt, add-mod_right}
use Rattle.std.proofs.Math.Decide.{dec_lt}
use native.Mathlib.Omega.{arith}
use Rattle.std.proofs.Math.ListN.{drop, length-take, get_or-append}
use Rattle.std.proofs.Math.Seq.{get_or-take, get_or-drop}
use Rattle.placement.specs.Copying.{turn, turned, copied}
use Rattle.placement.specs.Pieces.{length_piece}
use Rattle.placement.specs.Row.{piece}

module _ {E : Type 0} (dims t : ℕ) (stored : List E) (whole : length stored ≡ dims) (small : t ≤ dims) where
  -- a turned row, entry by entry
  turned_entry : (i : ℕ) (d : E) → i < dims → get_or (turned dims t stored) ((i + t) % dims) d ≡ get_or stored i d
  unfolding turned
  turned_entry i d h = go (dec_lt (i + t) dims)
    where
      last : List E
      last = drop (dims - t) stored

      counted : length last ≡ t
      counted = simp length-drop (omega arith)

      go : Dec (i + t < dims) → get_or (last ++ take (dims - t) stored) ((i + t) % dims) d ≡ get_or stored i d
      go (yes inside) =
          let e : (i + t) % dims ≡ length last + i = mod-eq_of_lt inside ∙ omega (arith, counted) in
          rw e (get_or-append-add last (take (dims - t) stored) i d ∙ get_or-take (dims - t) stored i d (omega arith))
      go (no past) =
          let k : ℕ = i + t - dims in
          let e : (i + t) % dims ≡ k = ap (λ (n : ℕ). n % dims) (let q : i + t ≡ k + dims = omega arith in q) ∙ add-mod_right k dims ∙ mod-eq_of_lt (omega arith) in
          rw e
          (get_or-append last (take (dims - t) stored) d k (omega (arith, counted))
          ∙ get_or-drop (dims - t) stored k d
          ∙ ap (λ (n : ℕ). get_or stored n d) (omega arith))

  length_turned : length (turned dims t stored) ≡ dims
  unfolding turned
  length_turned = simp (length-append, length-take, length-drop) (omega arith)

module _ {E : Type 0} (rotation : Bool) (dims base place : ℕ) (elements : List E) (some : 0 < dims) (ends : place * base + dims ≤ length elements) where
  turn_within : (rotation : Bool) → turn rotation dims base place ≤ dims
  unfolding turn
  turn_within true = le_of_lt (mod-lt (place * base) some)
  turn_within false = omega arith

  -- 'Entry (i + t) mod dimensions is stored float i'
  pub copied_entry : (i : ℕ) (d : E) → i < dims → get_or (copied rotation dims base place elements) ((i + turn rotation dims base place) % dims) d ≡ get_or elements (place * base + i) d
  unfolding copied
  copied_entry i d h =
      turned_entry dims (turn rotation dims base place) (piece (place * base) dims elements) (length_piece (place * base) dims elements ends) (turn_within rotation) i d h
      ∙ get_or-take dims (drop (place * base) elements) i d h
      ∙ get_or-drop (place * base) elements i d

  pub length_copied : length (copied rotation dims base place elements) ≡ dims
  unfolding copied
  length_copied = length_turned dims (turn rotation dims base place) (piece (place * base) dims elements) (length_piece (place * base) dims elements ends) (turn_within rotation)
