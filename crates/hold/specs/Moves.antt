-- A table with one entry more in use, and with its entries moved down by one.
use Rattle.std.specs.Prelude.{ℕ, zero, suc, ◌+◌, ◌-◌, ◌≤◌, ◌<◌, List, [], ◌∷◌, ◌++◌, ◌≡◌, length, get_or, take, drop, set}
use Rattle.std.proofs.Common.{arith, add-one, sym, ap, ◌∙◌, length-append, length-take-le, length-drop, drop-cons}
use Rattle.std.proofs.Math.Seq.{append_snoc, take-length}
use Rattle.std.proofs.lemmas.List.{append-nil, drop_all, set_split, set_at}
use Rattle.std.proofs.Math.Seq.{paste}
use Rattle.hold_definitions.specs.Adding.{written_to}

-- one entry more
pub pushed : (list : List ℕ) (held e : ℕ) → held < length list → set list held e ≡ written_to list (take held list ++ e ∷ [])
pushed list held e h =
    let long : length (take held list ++ e ∷ []) ≡ suc held = length-append (take held list) (e ∷ []) ∙ ap (λ (n : ℕ). n + 1) (length-take-le held list (omega arith)) ∙ add-one held in
    set_split list held e h
    ∙ sym (append_snoc (take held list) e (drop (suc held) list))
    ∙ ap (λ (n : ℕ). take held list ++ e ∷ [] ++ drop n list) (sym long)

-- the first n entries moved down
pub slid_down : (list : List ℕ) (n : ℕ) → paste list 0 (drop 1 list) n ≡ take n (drop 1 list) ++ drop n list
slid_down list n = let none : 0 + n ≡ n = omega arith in ap (λ (k : ℕ). take n (drop 1 list) ++ drop k list) none

-- all of them moved, and a new entry at the end
pub slid_done : (list now : List ℕ) (held last e : ℕ) → 0 < held → held ≤ length list → last ≡ held - 1 → now ≡ take last (drop 1 list) ++ drop last list → set now last e ≡ written_to list (drop 1 (take held list ++ e ∷ []))
slid_done [] now held last e p h l q = absurd (omega arith)
slid_done (x ∷ xs) now zero last e p h l q = absurd (omega arith)
slid_done (x ∷ xs) now (suc m) last e p h l q =
    let same : last ≡ m = omega arith in
    let front : length (take m xs) ≡ m = length-take-le m xs (omega arith) in
    let long : length (take m xs ++ e ∷ []) ≡ suc m = length-append (take m xs) (e ∷ []) ∙ ap (λ (n : ℕ). n + 1) front ∙ add-one m in
    ap (λ (n : ℕ). set now n e) same
    ∙ ap (λ (ys : List ℕ). set ys m e) (q ∙ ap (λ (n : ℕ). take n xs ++ drop n (x ∷ xs)) same ∙ ap (λ (ys : List ℕ). take m xs ++ ys) (drop-cons (x ∷ xs) m 0 (omega arith)))
    ∙ set_at (take m xs) (get_or (x ∷ xs) m 0) (drop (suc m) (x ∷ xs)) e m front
    ∙ sym (append_snoc (take m xs) e (drop m xs))
    ∙ ap (λ (n : ℕ). take m xs ++ e ∷ [] ++ drop n (x ∷ xs)) (sym long)

-- so of a whole list
pub slid_whole : (list now : List ℕ) (last e : ℕ) → 0 < length list → last ≡ length list - 1 → now ≡ take last (drop 1 list) ++ drop last list → set now last e ≡ drop 1 (list ++ e ∷ [])
slid_whole list now last e p q r =
    let xs = drop 1 (list ++ e ∷ []) in
    let long : length xs ≡ length list = length-drop 1 (list ++ e ∷ []) ∙ ap (λ (n : ℕ). n - 1) (length-append list (e ∷ [])) ∙ (let z : length list + 1 - 1 ≡ length list = omega arith in z) in
    slid_done list now (length list) last e p (omega arith) q r
    ∙ ap (λ (ys : List ℕ). written_to list (drop 1 (ys ++ e ∷ []))) (take-length list)
    ∙ ap (λ (ys : List ℕ). xs ++ ys) (drop_all (length xs) list (omega (arith, long)))
    ∙ append-nil xs

-- so of the part of a table that is in use
pub slid_part : (list : List ℕ) (held e : ℕ) → held ≤ length list → drop 1 (take held list ++ e ∷ []) ++ drop held list ≡ written_to list (drop 1 (take held list ++ e ∷ []))
slid_part list held e l =
    let xs = drop 1 (take held list ++ e ∷ []) in
    let long : length xs ≡ held = length-drop 1 (take held list ++ e ∷ []) ∙ ap (λ (n : ℕ). n - 1) (length-append (take held list) (e ∷ []) ∙ ap (λ (n : ℕ). n + 1) (length-take-le held list l)) ∙ (let z : held + 1 - 1 ≡ held = omega arith in z) in
    ap (λ (n : ℕ). xs ++ drop n list) (sym long)
