-- That no class is missing, asked of one class after another: where a class occurs, the one before it does.
use Rattle.std.specs.Prelude.{ℕ, zero, suc, ◌+◌, ◌-◌, ◌≤◌, ◌<◌, Bool, true, false, cond, ◌||◌, List, ◌≡◌, refl, leb, ltb, eqb}
use Rattle.std.proofs.Math.Decide.{dec_lt}
use Rattle.std.proofs.Common.{arith, ⊎_elim, sym, eq-eqb, eqb-true, le-leb, leb-true, lt-ltb, le-ltb}
use Rattle.std.proofs.Math.Bool.{or-true}
use Rattle.std.proofs.lemmas.Bool.{false≢true}
use Rattle.terms.specs.Below.{every_below, one, below_or_last, every_at, every_make}
use Rattle.class_table.specs.Table.{class_of, some_below, largest_below, occurs, largest}

-- ---- some number below n

some_made : (n : ℕ) (p : ℕ → Bool) (i : ℕ) → i < n → p i ≡ true → some_below n p ≡ true
unfolding some_below
some_made zero p i h e = absurd (omega arith)
some_made (suc n) p i h e =
    ⊎_elim (λ l. rw (some_made n p i l e)) (λ q. rw (← q, e) (or-true (some_below i p))) (below_or_last n i h)

some_found : (G : Type 0) (n : ℕ) (p : ℕ → Bool) → some_below n p ≡ true → ((i : ℕ) → i < n → p i ≡ true → G) → G
unfolding some_below
some_found G zero p e told = absurd (false≢true e)
some_found G (suc n) p e told =
    either (some_below n p) refl e (λ f. some_found G n p f (λ i l. told i (omega arith))) (λ f. told n (omega arith) f)
  where
    either : (b : Bool) → some_below n p ≡ b → (b || p n) ≡ true → (some_below n p ≡ true → G) → (p n ≡ true → G) → G
    either true f e low top = low f
    either false f e low top = top e

-- ---- the largest

larger : (m n : ℕ) → (m ≤ cond (ltb m n) n m) × (n ≤ cond (ltb m n) n m)
larger m n =
    elim (dec_lt m n) [
      | yes l ↦ rw (lt-ltb m n l) (omega arith, omega arith)
      | no g ↦ rw (le-ltb m n (omega arith)) (omega arith, omega arith)
    ]

largest_most : (n : ℕ) (f : ℕ → ℕ) (i : ℕ) → i < n → f i ≤ largest_below n f
unfolding largest_below
largest_most zero f i h = absurd (omega arith)
largest_most (suc n) f i h =
    let both_most = larger (largest_below n f) (f n) in
    ⊎_elim (λ l. omega (arith, largest_most n f i l, both_most.0)) (λ q. rw q both_most.1) (below_or_last n i h)

-- it is one of them
largest_found : (G : Type 0) (n : ℕ) (f : ℕ → ℕ) → ((i : ℕ) → i < suc n → f i ≡ largest_below (suc n) f → G) → G
unfolding largest_below
largest_found G zero f told = told 0 (omega arith) (larger_is (f 0))
  where
    larger_is : (m : ℕ) → m ≡ cond (ltb 0 m) m 0
    larger_is m =
        elim (dec_lt 0 m) [
          | yes l ↦ rw (lt-ltb 0 m l)
          | no g ↦ rw (le-ltb 0 m (omega arith)) (omega arith)
        ]
largest_found G (suc n) f told =
    elim (dec_lt (largest_below (suc n) f) (f (suc n))) [
      | yes l ↦ told (suc n) (omega arith) (rw (lt-ltb (largest_below (suc n) f) (f (suc n)) l))
      | no g ↦ largest_found G n f (λ i l e. told i (omega arith) (rw (le-ltb (largest_below (suc n) f) (f (suc n)) (omega arith)) e))
    ]

-- ---- no class is missing

-- where class d + 1 occurs, class d does
abbrev pub follows : List ℕ → ℕ → Bool
follows classes d = leb (one (occurs classes (d + 1))) (one (occurs classes d))

one_is : (b : Bool) → b ≡ true → one b ≡ 1
one_is b e = rw e

module _ (classes : List ℕ) (small : every_below 24 (λ code. leb (class_of classes code) 9) ≡ true) where
  class_most : (code : ℕ) → code < 24 → class_of classes code ≤ 9
  class_most code h = leb-true (class_of classes code) 9 (every_at 24 (λ k. leb (class_of classes k) 9) small code h)

  largest_nine : largest classes ≤ 9
  largest_nine = largest_found (largest classes ≤ 9) 23 (class_of classes) (λ i l e. omega (arith, class_most i l))

  largest_occurs : occurs classes (largest classes) ≡ true
  largest_occurs =
      largest_found (occurs classes (largest classes) ≡ true) 23 (class_of classes)
      (λ i l e. some_made 24 (λ code. eqb (class_of classes code) (largest classes)) i l (eq-eqb (class_of classes i) (largest classes) e))

  occurs_most : (class : ℕ) → occurs classes class ≡ true → class ≤ largest classes
  occurs_most class e =
      some_found (class ≤ largest classes) 24 (λ code. eqb (class_of classes code) class) e
      (λ i l f. omega (arith, largest_most 24 (class_of classes) i l, eqb-true (class_of classes i) class f))

  -- from the largest class down
  down : every_below 9 (follows classes) ≡ true → (e d : ℕ) → d + e ≡ largest classes → occurs classes d ≡ true
  down f zero d q = let same : d ≡ largest classes = omega arith in rw same largest_occurs
  down f (suc e) d q =
      let next : occurs classes (d + 1) ≡ true = down f e (d + 1) (omega arith) in
      let step = leb-true (one (occurs classes (d + 1))) (one (occurs classes d)) (every_at 9 (follows classes) f d (omega (arith, largest_nine))) in
      certain (occurs classes d) (omega (arith, one_is (occurs classes (d + 1)) next))
    where
      certain : (b : Bool) → 1 ≤ one b → b ≡ true
      certain true h = refl
      certain false h = absurd (omega arith)

  -- 'every class from 0 to the largest used occurs'
  pub gapless : every_below 9 (follows classes) ≡ every_below (largest classes + 1) (occurs classes)
  gapless = agree (every_below 9 (follows classes)) (every_below (largest classes + 1) (occurs classes)) there back
    where
      agree : (a b : Bool) → (a ≡ true → b ≡ true) → (b ≡ true → a ≡ true) → a ≡ b
      agree true b f g = sym (f refl)
      agree false true f g = g refl
      agree false false f g = refl

      there : every_below 9 (follows classes) ≡ true → every_below (largest classes + 1) (occurs classes) ≡ true
      there f = every_make (largest classes + 1) (occurs classes) (λ d h. down f (largest classes - d) d (omega arith))

      step : (d : ℕ) → every_below (largest classes + 1) (occurs classes) ≡ true → (b : Bool) → occurs classes (d + 1) ≡ b → leb (one b) (one (occurs classes d)) ≡ true
      step d f true e =
          let here : occurs classes d ≡ true = every_at (largest classes + 1) (occurs classes) f d (omega (arith, occurs_most (d + 1) e)) in
          rw here
      step d f false e = le-leb 0 (one (occurs classes d)) (omega arith)

      back : every_below (largest classes + 1) (occurs classes) ≡ true → every_below 9 (follows classes) ≡ true
      back f = every_make 9 (follows classes) (λ d h. step d f (occurs classes (d + 1)) refl)
