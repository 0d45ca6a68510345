-- 'The page is exact in length, and no two stores that differ in a live index, count or place share one.'
use Prim.Native.Nat.{ℕ, zero, suc, ◌+◌, ◌*◌, ◌≤◌, ◌<◌}
use Rattle.std.proofs.Common.{mul-suc, ◌∙◌, ltb-true, lt-ltb, le-ltb}
use native.Mathlib.Omega.{arith}
use Rattle.std.specs.Prelude.{Bool, true, false, cond, List, [], ◌∷◌, ◌≡◌, refl, length, get_or}
use Rattle.std.proofs.Math.Path.{sym, ap}
use Rattle.terms.specs.Below.{count_below}
use Rattle.labels.specs.Counted.{live_number}
use Rattle.decimal.specs.Lines.{lines, Fit, RowsFit}
use Rattle.decimal.proofs.LinesLaws.{lines_injective}
use Rattle.store_definitions.specs.Decisions.{live}
use Rattle.store_definitions.specs.Memory.{PointStore}
use Rattle.store_definitions.specs.Parts.{table_length, point_table}
use Rattle.store_definitions.specs.WellFormed.{well_formed}
use Rattle.store_laws.specs.Sound.{Sound, sound, place_ends}
use Rattle.page.specs.Listed.{listed, row_of}
use Rattle.page.proofs.ListedLaws.{length_listed, listed_fit, listed_row, listed_same, listed_beyond}
use Rattle.page.specs.Page.{counted, cells, page_text, page_of}

abbrev count_of : {E : Type 0} → PointStore E → ℕ → ℕ
count_of p i = get_or p.memory.reference_count i 0

abbrev place_of : {E : Type 0} → PointStore E → ℕ → ℕ
place_of p i = get_or p.memory.location i 65535

pub page_length : (n : ℕ) (counts location : List ℕ) → length (page_text n counts location) ≡ count_below n (counted counts) * 19
unfolding page_text
page_length n counts location = length_listed n (counted counts) (cells counts location) 6 2 (λ i. refl)

-- the page is exactly 19 × live points long
pub page_exact : {E : Type 0} (p : PointStore E) → length (page_of p) ≡ live_number (table_length p.header) (point_table p) * 19
unfolding live_number
page_exact p = page_length (table_length p.header) p.memory.reference_count p.memory.location

-- ---- every number of a page fits its six columns

at_most_times : (x b : ℕ) → 0 < b → x ≤ x * b
at_most_times x zero h = absurd (omega arith)
at_most_times x (suc b) h = rw (mul-suc x b) (omega arith)

module _ {E : Type 0} (p : PointStore E) (w : Sound p) where
  row_fits : (i : ℕ) → i < table_length p.header → counted p.memory.reference_count i ≡ true → (◌≡◌ {A = ℕ} 3 3) × Fit 6 (i ∷ cells p.memory.reference_count p.memory.location i)
  row_fits i h e =
      let place : place_of p i ≤ 65535 = omega (arith, at_most_times (place_of p i) _ w.rows.well_placed.shaped.some_base, place_ends p w i h (ltb-true 0 (count_of p i) e), w.rows.well_placed.small) in
      (refl, (omega (arith, w.table_within, w.bounds.capacity_most), (omega (arith, w.counts_most i h), (omega arith, tt))))

  rows_fit : RowsFit 6 3 (listed (table_length p.header) (counted p.memory.reference_count) (cells p.memory.reference_count p.memory.location))
  rows_fit = listed_fit (table_length p.header) (counted p.memory.reference_count) (cells p.memory.reference_count p.memory.location) 6 3 row_fits

-- ---- a page tells live indices, counts and places, and nothing else

pub record Agree {E F : Type 0} (p : PointStore E) (q : PointStore F) : Type 0 where
  pub live_same : (i : ℕ) → live p i ≡ live q i
  pub count_same : (i : ℕ) → live p i ≡ true → count_of p i ≡ count_of q i
  pub place_same : (i : ℕ) → live p i ≡ true → place_of p i ≡ place_of q i

abbrev page_rows : {E : Type 0} → PointStore E → List (List ℕ)
page_rows p = listed (table_length p.header) (counted p.memory.reference_count) (cells p.memory.reference_count p.memory.location)

row_of_lem : {E : Type 0} (p : PointStore E) (i : ℕ) → row_of i (page_rows p) ≡ cond (live p i) (i ∷ count_of p i ∷ place_of p i ∷ []) []
unfolding live
row_of_lem p i = listed_row (table_length p.header) (counted p.memory.reference_count) (cells p.memory.reference_count p.memory.location) i

-- two rows that may be missing
record SameRow (a b : Bool) (x y u v : ℕ) : Type 0 where
  live_same : a ≡ b
  count_same : a ≡ true → x ≡ u
  place_same : a ≡ true → y ≡ v

same_row : (a b : Bool) (i x y u v : ℕ) → cond a (i ∷ x ∷ y ∷ []) [] ≡ cond b (i ∷ u ∷ v ∷ []) [] → SameRow a b x y u v
same_row true true i x y u v e = record { live_same = refl; count_same = λ t. cc; place_same = λ t. cc }
same_row true false i x y u v e = absurd (let z : ◌≡◌ {A = ℕ} 0 1 = cc in omega arith)
same_row false true i x y u v e = absurd (let z : ◌≡◌ {A = ℕ} 0 1 = cc in omega arith)
same_row false false i x y u v e = record { live_same = refl; count_same = λ t. absurd (no t); place_same = λ t. absurd (no t) }
  where
    no : false ≡ true → ⊥
    no t = let z : ◌≡◌ {A = ℕ} 0 1 = cc in omega arith

module _ {E F : Type 0} (p : PointStore E) (q : PointStore F) where
  pub same_page : well_formed p ≡ true → well_formed q ≡ true → page_of p ≡ page_of q → Agree p q
  unfolding page_text
  same_page v w e =
      let rows : page_rows p ≡ page_rows q = lines_injective 6 3 (page_rows p) (page_rows q) (rows_fit p (sound p v)) (rows_fit q (sound q w)) e in
      let at : (i : ℕ) → SameRow (live p i) (live q i) (count_of p i) (place_of p i) (count_of q i) (place_of q i) = λ i.
      same_row (live p i) (live q i) i (count_of p i) (place_of p i) (count_of q i) (place_of q i) (sym (row_of_lem p i) ∙ ap (row_of i) rows ∙ row_of_lem q i) in
      record { live_same = λ i. (at i).live_same; count_same = λ i. (at i).count_same; place_same = λ i. (at i).place_same }

-- the rows of the live indices below any bound that reaches past the table
live_is : {E : Type 0} (p : PointStore E) (i : ℕ) → i < table_length p.header → counted p.memory.reference_count i ≡ live p i
unfolding live
live_is p i h = rw (lt-ltb i (table_length p.header) h)

dead_is : {E : Type 0} (p : PointStore E) (i : ℕ) → table_length p.header ≤ i → live p i ≡ false
unfolding live
dead_is p i h = rw (le-ltb i (table_length p.header) h)

further : {E : Type 0} (p : PointStore E) (d : ℕ) → page_rows p ≡ listed (table_length p.header + d) (live p) (cells p.memory.reference_count p.memory.location)
further p d =
    listed_same (table_length p.header) (counted p.memory.reference_count) (live p) (cells p.memory.reference_count p.memory.location) (cells p.memory.reference_count p.memory.location) (live_is p) (λ i h e. refl)
    ∙ sym (listed_beyond (table_length p.header) d (live p) (cells p.memory.reference_count p.memory.location) (dead_is p))

module _ {E F : Type 0} (p : PointStore E) (q : PointStore F) where
  pub agree_page : Agree p q → page_of p ≡ page_of q
  unfolding page_text
  agree_page a =
      let n : ℕ = table_length p.header in
      let m : ℕ = table_length q.header in
      let swap : n + m ≡ m + n = omega arith in
      ap (lines 6)
      (further p m
      ∙ listed_same (n + m) (live p) (live q) (cells p.memory.reference_count p.memory.location) (cells q.memory.reference_count q.memory.location)
      (λ i h. a.live_same i) (λ i h e. rw (a.count_same i e, a.place_same i e))
      ∙ ap (λ (k : ℕ). listed k (live q) (cells q.memory.reference_count q.memory.location)) swap
      ∙ sym (further q n))
