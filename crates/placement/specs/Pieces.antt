-- List facts about `piece`, pieces that meet and a piece of a longer list, and about the window.
use Rattle.std.specs.Prelude.{List, [], ◌∷◌, ◌++◌, ◌≡◌, ℕ, zero, suc, ◌+◌, ◌-◌, ◌≤◌, length, take, drop}
use Rattle.std.proofs.Common.{sym, ap, ◌∙◌, suc-add, zero-add, arith, length-take, length-drop, take-add, drop-drop}
use Rattle.std.proofs.Math.ListN.{length-append}
use Rattle.std.proofs.lemmas.List.{drop-append-le, take-append-le}
use Rattle.std.proofs.Math.Seq.{take-nil}
use Rattle.placement.specs.Row.{moved_window, piece}

module _ {E : Type 0} where
  -- a piece up to b and one from there up to c
  pub piece_join : (a b c : ℕ) (l : List E) → a ≤ b → b ≤ c → piece a (b - a) l ++ piece b (c - b) l ≡ piece a (c - a) l
  piece_join a b c l h k =
      let to : a + (b - a) ≡ b = omega arith in
      let all : b - a + (c - b) ≡ c - a = omega arith in
      ap (λ (n : ℕ). piece a (b - a) l ++ take (c - b) (drop n l)) (sym to)
      ∙ ap (λ (r : List E). piece a (b - a) l ++ take (c - b) r) (sym (drop-drop (b - a) a l))
      ∙ sym (take-add (b - a) (c - b) (drop a l))
      ∙ ap (λ (n : ℕ). piece a n l) all

  pub drop_piece : (at m n : ℕ) (l : List E) → drop m (piece at (m + n) l) ≡ piece (at + m) n l
  drop_piece at m n l = rw (← (drop-drop m at l)) (drop_take m (drop at l))
    where
      drop_take : (m : ℕ) (l : List E) → drop m (take (m + n) l) ≡ take n (drop m l)
      drop_take zero l = rw zero-add
      drop_take (suc m) [] = rw (suc-add, take-nil)
      drop_take (suc m) (x ∷ xs) = rw suc-add (drop_take m xs)

  pub length_piece : (at n : ℕ) (l : List E) → at + n ≤ length l → length (piece at n l) ≡ n
  length_piece at n l h = simp (length-take, length-drop) (omega arith)

  -- a piece that lies in the first of two lists
  pub piece_front : (at n : ℕ) (xs ys : List E) → at + n ≤ length xs → piece at n (xs ++ ys) ≡ piece at n xs
  piece_front at n xs ys h =
      ap (take n) (drop-append-le at xs ys (omega arith))
      ∙ take-append-le n (drop at xs) ys (simp length-drop (omega arith))

  -- a list whose first elements are replaced by as many
  pub length_front : (l front : List E) (n : ℕ) → length front ≡ n → n ≤ length l → length (front ++ drop n l) ≡ length l
  length_front l front n counted inside = length-append front (drop n l) ∙ rw (counted, length-drop) (omega arith)

  -- a window keeps its length as it moves
  pub length_window : (base : ℕ) (window point : List E) → length point ≡ base → base ≤ length window → length (moved_window base window point) ≡ length window
  unfolding moved_window
  length_window base window point h k = length-append (drop base window) point ∙ rw (h, length-drop) (omega arith)
