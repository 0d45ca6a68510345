-- A segment put into a text at a place; all else stays. Every writer's contract says what it puts, and `put_put` joins two.
use Rattle.std.specs.Prelude.{ℕ, ◌+◌, ◌≤◌, List, [], ◌++◌, ◌≡◌, length, take, drop}
use Rattle.std.proofs.Common.{add_assoc, add-zero, arith, append_assoc, sym, ap, ◌∙◌, length-append, length-drop, take-append-drop, take_at, drop_at, drop-drop, length-take-le}

unfoldable pub put : ℕ → List ℕ → List ℕ → List ℕ
put at segment t = take at t ++ (segment ++ drop (at + length segment) t)

pub put_none : (t : List ℕ) (at : ℕ) → t ≡ put at [] t
unfolding put
put_none t at = sym (ap (λ (k : ℕ). take at t ++ drop k t) (add-zero at) ∙ take-append-drop at t)

pub length_put : (t a : List ℕ) (at : ℕ) → at + length a ≤ length t → length (put at a t) ≡ length t
unfolding put
length_put t a at h =
    rw (length-append (take at t) (a ++ drop (at + length a) t), length-append a (drop (at + length a) t), length-take-le at t (omega arith), length-drop (at + length a) t)
    (omega arith)

-- a segment and one right behind it are one segment
pub put_put : (t a b : List ℕ) (at : ℕ) → at + length a + length b ≤ length t → put (at + length a) b (put at a t) ≡ put at (a ++ b) t
unfolding put
put_put t a b at h =
    let front : List ℕ = take at t in
    let rest : List ℕ = drop (at + length a) t in
    let n : length (front ++ a) ≡ at + length a = length-append front a ∙ ap (λ (k : ℕ). k + length a) (length-take-le at t (omega arith)) in
    let m : at + length (a ++ b) ≡ at + length a + length b = ap (λ (k : ℕ). at + k) (length-append a b) ∙ sym (add_assoc at (length a) (length b)) in
    rw (
      m,
      ← append_assoc front a rest,
      take_at (front ++ a) rest (at + length a) n,
      ← drop-drop (length b) (at + length a) ((front ++ a) ++ rest),
      drop_at (front ++ a) rest (at + length a) n,
      drop-drop (length b) (at + length a) t,
      append_assoc front a (b ++ drop (at + length a + length b) t),
      append_assoc a b (drop (at + length a + length b) t),
    )
