-- Laws of the sum: what its parts read, an item at a time, and the ways out.
use Prim.Native.Nat.{ℕ, zero, suc, ◌+◌, ◌*◌, ◌-◌, ◌≤◌, ◌<◌}
use Rattle.std.proofs.Common.{add-one, arith, ◌∙◌, drop_of_length-le}
use Rattle.std.specs.Prelude.{Bool, true, false, ◌≡◌, length, get_or, drop, ltb}
use mathlib.Core.List.{List, [], ◌∷◌}
use Rattle.std.proofs.Math.Path.{refl, sym, ap}
use Rattle.std.proofs.Math.ListN.{replicate}
use Rattle.std.proofs.Math.Seq.{drop-cons}
use borrow.Author.Tests.{lt-ltb, le-ltb, eq-eqb, ne_eqb, ltb-false}
use Rattle.interval_store_manager.specs.Calls.{Decided, go, refuse}
use Rattle.placement.specs.Row.{piece}
use Rattle.store_definitions.specs.declared.Item.{Item}
use Rattle.store_definitions.specs.declared.Store.{Store}
use Rattle.store_definitions.specs.Memory.{PointStore, point_store, rows_alone}
use Rattle.store_definitions.specs.Answers.{done, refused, output}
use Rattle.store_definitions.specs.Parts.{base_of}
use Rattle.store_definitions.specs.Decisions.{and_then, refuse_if, form_decided, live, touch_decided}
use Rattle.store_definitions.specs.Sums.{Weighted, items_decided, stored_row, summed, sum_written, point_sum_spec}
use Rattle.store_definitions.specs.WellFormed.{well_formed}
use Rattle.store_laws.specs.DecisionLaws.{touch_go}
use Rattle.store_rows.specs.Copying.{Readable, row_inside, read_place_lem}
use Rattle.store_counts.specs.Tables.{counts_alone}
use Rattle.row_readings.specs.Items.{weighted, weighting_of, weightings_of, no_item, item_at, Addable, AllAddable, checked_sum}

-- ---- decisions in a row

then_go : (a b : Decided) → and_then a b ≡ go → (a ≡ go) × (b ≡ go)
then_go go b e = (refl, e)
then_go (refuse n) b e = absurd (let z : ◌≡◌ {A = ℕ} 0 1 = cc in omega arith)

then_none : (a : Decided) → and_then a go ≡ a
then_none go = refl
then_none (refuse n) = refl

then_assoc : (a b c : Decided) → and_then a (and_then b c) ≡ and_then (and_then a b) c
then_assoc go b c = refl
then_assoc (refuse n) b c = refl

unless_heavy : (b : Bool) → refuse_if b 11 ≡ go → b ≡ false
unless_heavy true e = absurd (let z : ◌≡◌ {A = ℕ} 0 1 = cc in omega arith)
unless_heavy false e = refl

-- ---- what a sum reads of a store

module _ {E : Type 0} (p : PointStore E) where
  pub items_alone : (ws : List Weighted) → items_decided (point_store p.header (counts_alone p.memory.reference_count [])) ws ≡ items_decided p ws
  unfolding items_decided touch_decided live
  items_alone [] = refl
  items_alone (w ∷ ws) = rw (items_alone ws)

  pub summed_alone : {S : Type 0} (add : ℕ → List S → List E → List S) (ws : List Weighted) (sums : List S) → summed add (point_store p.header (rows_alone p.memory.store [] p.memory.location)) ws sums ≡ summed add p ws sums
  unfolding summed stored_row
  summed_alone add [] sums = refl
  summed_alone add (w ∷ ws) sums = summed_alone add ws (add w.weight sums (stored_row p w.index))

  -- ---- an item at a time

  -- the first item is decided by itself, then the others
  pub first_decided : (w : Weighted) (ws : List Weighted) → items_decided p (w ∷ ws) ≡ and_then (items_decided p (w ∷ [])) (items_decided p ws)
  unfolding items_decided
  first_decided w ws =
      let heavy = refuse_if (ltb 16777216 w.weight) 11 in
      then_assoc (touch_decided p w.index) heavy (items_decided p ws)
      ∙ ap (λ (d : Decided). and_then (and_then (touch_decided p w.index) d) (items_decided p ws)) (sym (then_none heavy))

  -- the first item is added, then the others
  pub first_added : {S : Type 0} (add : ℕ → List S → List E → List S) (w : Weighted) (ws : List Weighted) (sums : List S) → summed add p (w ∷ ws) sums ≡ summed add p ws (add w.weight sums (stored_row p w.index))
  unfolding summed
  first_added add w ws sums = refl

  -- a decision to go holds of each item
  pub each_goes : (items : List Item) → items_decided p (weightings_of items) ≡ go → (k : ℕ) → k < length items → items_decided p (weighting_of (item_at items k) ∷ []) ≡ go
  unfolding weightings_of
  each_goes [] e k h = absurd (omega arith)
  each_goes (r ∷ rs) e zero h = (then_go (items_decided p (weighting_of r ∷ [])) (items_decided p (weightings_of rs)) (sym (first_decided (weighting_of r) (weightings_of rs)) ∙ e)).0
  each_goes (r ∷ rs) e (suc k) h =
      each_goes rs (then_go (items_decided p (weighting_of r ∷ [])) (items_decided p (weightings_of rs)) (sym (first_decided (weighting_of r) (weightings_of rs)) ∙ e)).1 k (omega arith)

  -- ---- the loops: from item i on

  module _ (items : List Item) (i : ℕ) (h : i < length items) where
    next_item : weightings_of (drop i items) ≡ weighting_of (item_at items i) ∷ weightings_of (drop (i + 1) items)
    unfolding weightings_of
    next_item = rw (add-one i, drop-cons items i no_item h)

    next_decided : items_decided p (weightings_of (drop i items)) ≡ and_then (items_decided p (weighting_of (item_at items i) ∷ [])) (items_decided p (weightings_of (drop (i + 1) items)))
    next_decided = ap (items_decided p) next_item ∙ first_decided (weighting_of (item_at items i)) (weightings_of (drop (i + 1) items))

    pub next_added : {S : Type 0} (add : ℕ → List S → List E → List S) (sums : List S) → summed add p (weightings_of (drop i items)) sums ≡ summed add p (weightings_of (drop (i + 1) items)) (add (weighting_of (item_at items i)).weight sums (stored_row p (weighting_of (item_at items i)).index))
    next_added add sums = ap (λ (ws : List Weighted). summed add p ws sums) next_item ∙ first_added add (weighting_of (item_at items i)) (weightings_of (drop (i + 1) items)) sums

    -- a refusal of the item is the list's
    pub refused_here : (d : Decided) → d ≡ items_decided p (weighting_of (item_at items i) ∷ []) → (n : ℕ) → d ≡ refuse n → refuse n ≡ items_decided p (weightings_of (drop i items))
    refused_here d e n f = sym (next_decided ∙ rw (sym e ∙ f))

    -- else the others decide
    pub goes_here : (d : Decided) → d ≡ items_decided p (weighting_of (item_at items i) ∷ []) → d ≡ go → items_decided p (weightings_of (drop (i + 1) items)) ≡ items_decided p (weightings_of (drop i items))
    goes_here d e f = sym (next_decided ∙ rw (sym e ∙ f))

  pub none_decided : (items : List Item) (i : ℕ) → length items ≤ i → items_decided p (weightings_of (drop i items)) ≡ go
  unfolding items_decided weightings_of
  none_decided items i h = rw (drop_of_length-le items {i = i} h)

  pub none_added : {S : Type 0} (add : ℕ → List S → List E → List S) (items : List Item) (i : ℕ) (sums : List S) → length items ≤ i → summed add p (weightings_of (drop i items)) sums ≡ sums
  unfolding summed weightings_of
  none_added add items i sums h = rw (drop_of_length-le items {i = i} h)

  -- ---- the ways out of one item's test

  pub item_dead : (i w : ℕ) → live p i ≡ false → refuse 5 ≡ items_decided p (weighted i w ∷ [])
  unfolding items_decided touch_decided
  item_dead i w e = rw e

  pub item_heavy : (i w : ℕ) → live p i ≡ true → 16777216 < w → refuse 11 ≡ items_decided p (weighted i w ∷ [])
  unfolding items_decided touch_decided
  item_heavy i w e h = rw (e, lt-ltb 16777216 w h)

  pub item_goes : (i w : ℕ) → live p i ≡ true → w ≤ 16777216 → go ≡ items_decided p (weighted i w ∷ [])
  unfolding items_decided touch_decided
  item_goes i w e h = rw (e, le-ltb 16777216 w h)

-- ---- an item that was judged can be added

module _ (s : Store) (floats : ℕ) (counts location : List ℕ) (r : Readable s floats counts location) where
  pub addable : (w : Weighted) → items_decided (point_store s (counts_alone counts [])) (w ∷ []) ≡ go → Addable s floats location w
  unfolding items_decided
  addable w e =
      let p = point_store s (counts_alone counts []) in
      let heavy = refuse_if (ltb 16777216 w.weight) 11 in
      let parts = then_go (touch_decided p w.index) (and_then heavy go) e in
      let used = touch_go p w.index parts.0 in
      record {
        shingle_some = r.shingle_some;
        place_lent = omega (arith, r.places_lent, used.0);
        row_within = row_inside s floats counts location r w.index used.0 used.1;
        weight_most = ltb-false 16777216 w.weight (unless_heavy (ltb 16777216 w.weight) (then_go heavy go parts.1).0);
      }

  pub all_addable : (items : List Item) → items_decided (point_store s (counts_alone counts [])) (weightings_of items) ≡ go → AllAddable s floats location items
  all_addable items e =
      record { each = λ k h. addable (weighting_of (item_at items k)) (each_goes (point_store s (counts_alone counts [])) items e k h) }

-- the row that the code reads
pub row_read : {E : Type 0} (s : Store) (elements : List E) (location : List ℕ) (i : ℕ) → i < length location
    → piece (get_or location i 0 * base_of s) (get_or location i 0 * base_of s + s.dimensions - get_or location i 0 * base_of s) elements ≡ stored_row (point_store s (rows_alone elements [] location)) i
unfolding stored_row
row_read s elements location i h =
    let start = get_or location i 0 * base_of s in
    let count : start + s.dimensions - start ≡ s.dimensions = omega arith in
    rw (count, read_place_lem location i h)

-- ---- the ways out of the sum

module _ {E S : Type 0} (add : ℕ → List S → List E → List S) (zero_sum : S) where
  pub sum_checked : (p : PointStore E) (ws : List Weighted) (out : List S) → well_formed p ≡ true → checked_sum add zero_sum p.header p.memory.store p.memory.reference_count p.memory.location ws out ≡ point_sum_spec add zero_sum p ws out
  unfolding sum_written point_sum_spec form_decided
  sum_checked p ws out e =
      let q : PointStore E = point_store p.header (rows_alone p.memory.store p.memory.reference_count p.memory.location) in
      let zeros : List S = replicate p.header.dimensions zero_sum in
      rw (e, sym (items_alone p ws), sym (items_alone q ws), sym (summed_alone p add ws zeros), sym (summed_alone q add ws zeros))

  module _ (s : Store) (elements : List E) (counts location : List ℕ) (ws : List Weighted) (out : List S) where
    abbrev q : PointStore E
    q = point_store s (rows_alone elements counts location)

    pub sum_length : (length out ≡ s.dimensions → ⊥) → output (refused 3) out ≡ checked_sum add zero_sum s elements counts location ws out
    unfolding sum_written
    sum_length d = rw (ne_eqb (length out) s.dimensions d)

    pub sum_refused : length out ≡ s.dimensions → (n : ℕ) → items_decided (point_store s (counts_alone counts [])) ws ≡ refuse n → output (refused n) out ≡ checked_sum add zero_sum s elements counts location ws out
    unfolding sum_written
    sum_refused l n e = rw (eq-eqb (length out) s.dimensions l, sym (items_alone q ws) ∙ e)

    pub sum_written_lem : length out ≡ s.dimensions → items_decided (point_store s (counts_alone counts [])) ws ≡ go → (after : List S) → after ≡ summed add (point_store s (rows_alone elements [] location)) ws (replicate (length out) zero_sum) → output done after ≡ checked_sum add zero_sum s elements counts location ws out
    unfolding sum_written
    sum_written_lem l e after f =
        rw (eq-eqb (length out) s.dimensions l, sym (items_alone q ws) ∙ e, f, l, sym (summed_alone q add ws (replicate s.dimensions zero_sum)))
