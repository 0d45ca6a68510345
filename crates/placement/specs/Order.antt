-- Every element of a list, places in order, and moves in order.
use Rattle.std.specs.Prelude.{List, [], ◌∷◌, ◌++◌, ℕ, suc, ◌≤◌, ◌<◌}
use Rattle.placement.specs.Compaction.{Move}

-- P holds of every element
abbrev pub Each : {A : Type 0} → (A → Type 0) → List A → Type 0
Each P [] = Unit {0}
Each P (x ∷ xs) = P x × Each P xs

-- the places rise, and start at `least` or above
abbrev pub Rising : ℕ → List ℕ → Type 0
Rising least [] = Unit {0}
Rising least (p ∷ ps) = (least ≤ p) × Rising (suc p) ps

-- a move from a lower place to a lower one
abbrev pub Below : Move → Move → Type 0
Below m n = (m.old < n.old) × (m.new < n.new)

-- the moves keep the order of places
abbrev pub Ranked : List Move → Type 0
Ranked [] = Unit {0}
Ranked (m ∷ ms) = Each (Below m) ms × Ranked ms

pub each_map : {A : Type 0} {P Q : A → Type 0} → ((x : A) → P x → Q x) → (xs : List A) → Each P xs → Each Q xs
each_map f [] h = tt
each_map f (x ∷ xs) h = (f x h.0, each_map f xs h.1)

pub each_last : {A : Type 0} (P : A → Type 0) (xs : List A) (x : A) → Each P xs → P x → Each P (xs ++ x ∷ [])
each_last P [] x h p = (p, tt)
each_last P (y ∷ xs) x h p = (h.0, each_last P xs x h.1 p)

pub rising_last : (least : ℕ) (ps : List ℕ) (p : ℕ) → Rising least ps → Each (λ q. q < p) ps → least ≤ p → Rising least (ps ++ p ∷ [])
rising_last least [] p r e h = (h, tt)
rising_last least (q ∷ ps) p r e h = (r.0, rising_last (suc q) ps p r.1 e.1 e.0)

pub ranked_last : (ms : List Move) (m : Move) → Ranked ms → Each (λ l. Below l m) ms → Ranked (ms ++ m ∷ [])
ranked_last [] m r e = (tt, tt)
ranked_last (l ∷ ms) m r e = (each_last (Below l) ms m r.0 e.0, ranked_last ms m r.1 e.1)
