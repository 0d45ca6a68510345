-- Document 01's reason classes, and their text.
use Rattle.std.specs.Prelude.{ℕ, ◌+◌, ◌≤◌, ◌<◌, Bool, true, ◌&&◌, List, [], ◌∷◌, ◌≡◌, refl, leb, eqb}
use Rattle.std.proofs.Common.{leb-true, eqb-true}
use Rattle.terms.specs.Below.{both, every_below, every_at}
use Rattle.class_table.specs.Table.{class_of, some_below, largest_below, table_allowed}

-- 'codes 0 to 23: 0,0,0,1,1,2,2,2,3,3,4,4,5,5,5,6,6,6,7,7,8,8,9,9'
unfoldable pub reason_classes : List ℕ
reason_classes =
    0 ∷ 0 ∷ 0 ∷ 1 ∷ 1 ∷ 2 ∷ 2 ∷ 2 ∷ 3 ∷ 3 ∷ 4 ∷ 4 ∷ 5 ∷ 5 ∷ 5 ∷ 6 ∷ 6 ∷ 6 ∷ 7 ∷ 7 ∷ 8 ∷ 8 ∷ 9 ∷ 9 ∷ []

-- from one code to the next the class never falls and rises by at most 1
abbrev step : List ℕ → ℕ → Bool
step classes k = leb (class_of classes k) (class_of classes (k + 1)) && leb (class_of classes (k + 1)) (class_of classes k + 1)

-- 'It begins at 0, never falls, rises by at most 1 and ends at 9.', as a test of the whole table and as facts of each code
unfoldable pub ruled : List ℕ → Bool
ruled classes = eqb (class_of classes 0) 0 && (every_below 23 (step classes) && eqb (class_of classes 23) 9)

pub record Rule (classes : List ℕ) : Type 0 where
  pub begins : class_of classes 0 ≡ 0
  pub never_falls : (k : ℕ) → k < 23 → class_of classes k ≤ class_of classes (k + 1)
  pub rises_by_one : (k : ℕ) → k < 23 → class_of classes (k + 1) ≤ class_of classes k + 1
  pub ends : class_of classes 23 ≡ 9

pub rule : (classes : List ℕ) → ruled classes ≡ true → Rule classes
unfolding ruled
rule classes e =
    let p = both (eqb (class_of classes 0) 0) (every_below 23 (step classes) && eqb (class_of classes 23) 9) e in
    let q = both (every_below 23 (step classes)) (eqb (class_of classes 23) 9) p.1 in
    let at : (k : ℕ) → k < 23 → (leb (class_of classes k) (class_of classes (k + 1)) ≡ true) × (leb (class_of classes (k + 1)) (class_of classes k + 1) ≡ true) = λ k l.
    both (leb (class_of classes k) (class_of classes (k + 1))) (leb (class_of classes (k + 1)) (class_of classes k + 1))
    (every_at 23 (step classes) q.0 k l) in
    record {
      begins = eqb-true (class_of classes 0) 0 p.0;
      never_falls = λ k l. leb-true (class_of classes k) (class_of classes (k + 1)) (at k l).0;
      rises_by_one = λ k l. leb-true (class_of classes (k + 1)) (class_of classes k + 1) (at k l).1;
      ends = eqb-true (class_of classes 23) 9 q.1;
    }

pub reason_rule : Rule reason_classes
unfolding reason_classes every_below ruled
reason_rule = rule reason_classes refl

pub reasons_allowed : table_allowed reason_classes ≡ true
unfolding reason_classes table_allowed every_below some_below largest_below
reasons_allowed = refl
