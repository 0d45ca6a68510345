-- Laws of rows listed: lengths, what each row is, and lists of the same rows.
use Rattle.std.specs.Prelude.{ℕ, zero, suc, ◌+◌, ◌*◌, ◌≤◌, ◌<◌, Bool, true, false, cond, ◌&&◌, List, [], ◌∷◌, ◌++◌, ◌≡◌, refl, length, ltb, eqb}
use Rattle.std.proofs.Math.Decide.{dec_lt, ℕ_discrete}
use Rattle.std.proofs.Common.{suc-mul, zero-mul, arith, append-nil, sym, ap, ap₂, ◌∙◌, length-append, eq-eqb, ne_eqb, lt-ltb, le-ltb}
use Rattle.terms.specs.Below.{sum_below, count_below, one}
use Rattle.decimal.specs.Lines.{line, lines, Fit, RowsFit}
use Rattle.decimal.proofs.LinesLaws.{length_line, lines_append}
use Rattle.page.specs.Listed.{listed, row_of}

-- ---- one number more

pub listed_in : (n : ℕ) (test : ℕ → Bool) (cells : ℕ → List ℕ) (w : ℕ) → test n ≡ true → lines w (listed (suc n) test cells) ≡ lines w (listed n test cells) ++ line w (n ∷ cells n)
unfolding listed lines
listed_in n test cells w e =
    rw e (lines_append w (listed n test cells) ((n ∷ cells n) ∷ []) ∙ ap (λ (x : List ℕ). lines w (listed n test cells) ++ x) (append-nil (line w (n ∷ cells n))))

pub listed_out : (n : ℕ) (test : ℕ → Bool) (cells : ℕ → List ℕ) → test n ≡ false → listed (suc n) test cells ≡ listed n test cells
unfolding listed
listed_out n test cells e = rw e (append-nil (listed n test cells))

-- ---- lengths

-- a line of k numbers for each that passes
pub length_listed : (n : ℕ) (test : ℕ → Bool) (cells : ℕ → List ℕ) (w k : ℕ) → ((i : ℕ) → length (cells i) ≡ k) → length (lines w (listed n test cells)) ≡ count_below n test * (suc k * w + 1)
unfolding count_below sum_below listed lines
length_listed zero test cells w k l = sym (zero-mul (suc k * w + 1))
length_listed (suc n) test cells w k l = by (test n) refl (length_listed n test cells w k l)
  where
    by : (b : Bool) → test n ≡ b → length (lines w (listed n test cells)) ≡ sum_below n (λ i. one (test i)) * (suc k * w + 1)
        → length (lines w (listed n test cells ++ cond b ((n ∷ cells n) ∷ []) [])) ≡ (sum_below n (λ i. one (test i)) + one b) * (suc k * w + 1)
    by true e before =
        let s : ℕ = sum_below n (λ i. one (test i)) in
        let m : (s + 1) * (suc k * w + 1) ≡ s * (suc k * w + 1) + (suc k * w + 1) = ap (λ (x : ℕ). x * (suc k * w + 1)) (plus s) ∙ suc-mul s (suc k * w + 1) in
        let f : length (line w (n ∷ cells n)) ≡ suc k * w + 1 = length_line w (n ∷ cells n) ∙ (rw (l n)) in
        rw (lines_append w (listed n test cells) ((n ∷ cells n) ∷ []), append-nil (line w (n ∷ cells n)), length-append (lines w (listed n test cells)) (line w (n ∷ cells n)), f, before, m)
      where
        plus : (s : ℕ) → s + 1 ≡ suc s
        plus s = omega arith
    by false e before =
        let z : sum_below n (λ i. one (test i)) + 0 ≡ sum_below n (λ i. one (test i)) = omega arith in
        rw (append-nil (listed n test cells), z, before)

-- every row fits where those that pass do
rows_append : (w k : ℕ) (rs ss : List (List ℕ)) → RowsFit w k rs → RowsFit w k ss → RowsFit w k (rs ++ ss)
rows_append w k [] ss f g = g
rows_append w k (r ∷ rs) ss f g = (f.0, rows_append w k rs ss f.1 g)

pub listed_fit : (n : ℕ) (test : ℕ → Bool) (cells : ℕ → List ℕ) (w k : ℕ) → ((i : ℕ) → i < n → test i ≡ true → (length (i ∷ cells i) ≡ k) × Fit w (i ∷ cells i)) → RowsFit w k (listed n test cells)
unfolding listed
listed_fit zero test cells w k h = tt
listed_fit (suc n) test cells w k h =
    rows_append w k (listed n test cells) (cond (test n) ((n ∷ cells n) ∷ []) []) (listed_fit n test cells w k (λ i l. h i (omega arith)))
    (by (test n) refl (h n (omega arith)))
  where
    by : (b : Bool) → test n ≡ b → (test n ≡ true → (length (n ∷ cells n) ≡ k) × Fit w (n ∷ cells n)) → RowsFit w k (cond b ((n ∷ cells n) ∷ []) [])
    by true e f = (f e, tt)
    by false e f = tt

-- ---- what a listing holds of each number

behind : List ℕ → List ℕ → List ℕ
behind [] ys = ys
behind (x ∷ xs) ys = x ∷ xs

row_append : (i : ℕ) (rs ss : List (List ℕ)) → row_of i (rs ++ ss) ≡ behind (row_of i rs) (row_of i ss)
unfolding row_of behind
row_append i [] ss = refl
row_append i ([] ∷ rs) ss = row_append i rs ss
row_append i ((x ∷ xs) ∷ rs) ss = by (eqb x i) (row_append i rs ss)
  where
    by : (b : Bool) → row_of i (rs ++ ss) ≡ behind (row_of i rs) (row_of i ss) → cond b (x ∷ xs) (row_of i (rs ++ ss)) ≡ behind (cond b (x ∷ xs) (row_of i rs)) (row_of i ss)
    by true e = refl
    by false e = e

row_here : (i n : ℕ) (b : Bool) (cells : List ℕ) → row_of i (cond b ((n ∷ cells) ∷ []) []) ≡ cond (eqb n i && b) (n ∷ cells) []
unfolding row_of
row_here i n true cells = by (eqb n i)
  where
    by : (t : Bool) → cond t (n ∷ cells) [] ≡ cond (t && true) (n ∷ cells) []
    by true = refl
    by false = refl
row_here i n false cells = by (eqb n i)
  where
    by : (t : Bool) → ◌≡◌ {A = List ℕ} [] (cond (t && false) (n ∷ cells) [])
    by true = refl
    by false = refl

behind_none : (xs : List ℕ) → behind xs [] ≡ xs
unfolding behind
behind_none [] = refl
behind_none (x ∷ xs) = refl

-- the row of a number that passes and is below n, and of no other
pub listed_row : (n : ℕ) (test : ℕ → Bool) (cells : ℕ → List ℕ) (i : ℕ) → row_of i (listed n test cells) ≡ cond (ltb i n && test i) (i ∷ cells i) []
unfolding listed row_of behind
listed_row zero test cells i = rw (le-ltb i 0 (omega arith))
listed_row (suc n) test cells i =
    row_append i (listed n test cells) (cond (test n) ((n ∷ cells n) ∷ []) [])
    ∙ ap₂ (λ (xs ys : List ℕ). behind xs ys) (listed_row n test cells i) (row_here i n (test n) (cells n))
    ∙ elim (ℕ_discrete n i) [
      | yes e ↦ rw (← e, le-ltb n n (omega arith), eq-eqb n n refl, lt-ltb n (suc n) (omega arith))
      | no d ↦
          rw (ne_eqb n i d)
          (behind_none (cond (ltb i n && test i) (i ∷ cells i) [])
          ∙ elim (dec_lt i n) [
            | yes l ↦ rw (lt-ltb i n l, lt-ltb i (suc n) (omega arith))
            | no g ↦ rw (le-ltb i n (omega arith), le-ltb i (suc n) (beyond n i d g))
          ])
    ]
  where
    beyond : (n i : ℕ) → (n ≡ i → ⊥) → (i < n → ⊥) → suc n ≤ i
    beyond n i d g = elim (dec_lt n i) [ yes l ↦ l | no k ↦ absurd (d (omega arith)) ]

-- ---- two listings are one

pub listed_same : (n : ℕ) (p q : ℕ → Bool) (f g : ℕ → List ℕ) → ((i : ℕ) → i < n → p i ≡ q i) → ((i : ℕ) → i < n → p i ≡ true → f i ≡ g i) → listed n p f ≡ listed n q g
unfolding listed
listed_same zero p q f g s e = refl
listed_same (suc n) p q f g s e =
    ap₂ (λ (xs ys : List (List ℕ)). xs ++ ys) (listed_same n p q f g (λ i l. s i (omega arith)) (λ i l. e i (omega arith)))
    (ap (λ (b : Bool). cond b ((n ∷ f n) ∷ []) []) (s n (omega arith)) ∙ by (q n) (λ t. e n (omega arith) (s n (omega arith) ∙ t)) refl)
  where
    by : (b : Bool) → (q n ≡ true → f n ≡ g n) → q n ≡ b → ◌≡◌ {A = List (List ℕ)} (cond b ((n ∷ f n) ∷ []) []) (cond b ((n ∷ g n) ∷ []) [])
    by true h t = rw (h t)
    by false h t = refl

-- numbers beyond that do not pass list nothing
pub listed_beyond : (n d : ℕ) (test : ℕ → Bool) (cells : ℕ → List ℕ) → ((i : ℕ) → n ≤ i → test i ≡ false) → listed (n + d) test cells ≡ listed n test cells
listed_beyond n zero test cells h = let z : n + 0 ≡ n = omega arith in rw z
listed_beyond n (suc d) test cells h =
    let s : n + suc d ≡ suc (n + d) = omega arith in
    rw s (listed_out (n + d) test cells (h (n + d) (omega arith)) ∙ listed_beyond n d test cells h)
