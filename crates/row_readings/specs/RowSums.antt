-- The laws of the sum where an item is a row of two plain numbers, from those of items.
use Prim.Native.Nat.{ℕ, ◌+◌, ◌≤◌, ◌<◌}
use Rattle.std.proofs.Common.{arith, ◌∙◌}
use Rattle.std.specs.Prelude.{◌≡◌, length, get_or, drop}
use mathlib.Core.List.{List, [], ◌∷◌, map}
use Rattle.std.proofs.Math.Path.{refl, sym, ap, ap₂}
use Rattle.std.proofs.Math.ListN.{get_or-map}
use Rattle.std.proofs.lemmas.List.{length-map, drop-map}
use Rattle.interval_store_manager.specs.Calls.{Decided, go, refuse}
use Rattle.store_definitions.specs.declared.Item.{Item}
use Rattle.store_definitions.specs.declared.Store.{Store}
use Rattle.store_definitions.specs.Memory.{PointStore, point_store}
use Rattle.store_definitions.specs.Sums.{Weighted, items_decided, stored_row, summed}
use Rattle.store_rows.specs.Copying.{Readable}
use Rattle.store_counts.specs.Tables.{counts_alone}
use Rattle.row_readings.specs.Items.{weighting_of, weightings_of, item_at, weighting, weightings, Addable}
use Rattle.row_readings.specs.SumLaws.{each_goes, next_added, refused_here, goes_here, none_decided, none_added, all_addable}

abbrev pub item_of : List ℕ → Item
item_of r = record { index = record { 0 = get_or r 0 0 }; weight = get_or r 1 0 }

pub rows_as_items : (rows : List (List ℕ)) → weightings_of (map item_of rows) ≡ weightings rows
unfolding weightings_of weightings
rows_as_items [] = refl
rows_as_items (r ∷ rs) = ap (λ (ws : List Weighted). weighting r ∷ ws) (rows_as_items rs)

module _ (rows : List (List ℕ)) where
  abbrev items : List Item
  items = map item_of rows

  rest_as_items : (i : ℕ) → weightings_of (drop i items) ≡ weightings (drop i rows)
  rest_as_items i = ap weightings_of (drop-map item_of i rows) ∙ rows_as_items (drop i rows)

  row_as_item : (i : ℕ) → item_at items i ≡ item_of (get_or rows i [])
  row_as_item i = get_or-map item_of rows i []

  as_long : length items ≡ length rows
  as_long = length-map rows item_of

module _ {E : Type 0} (p : PointStore E) (rows : List (List ℕ)) where
  -- a decision to go holds of each row
  pub each_row_goes : items_decided p (weightings rows) ≡ go → (k : ℕ) → k < length rows → items_decided p (weighting (get_or rows k []) ∷ []) ≡ go
  each_row_goes e k h =
      ap (λ (x : Item). items_decided p (weighting_of x ∷ [])) (sym (row_as_item rows k))
      ∙ each_goes p (items rows) (ap (items_decided p) (rows_as_items rows) ∙ e) k (omega (arith, as_long rows))

  module _ (i : ℕ) (h : i < length rows) where
    pub next_row_added : {S : Type 0} (add : ℕ → List S → List E → List S) (sums : List S) → summed add p (weightings (drop i rows)) sums ≡ summed add p (weightings (drop (i + 1) rows)) (add (weighting (get_or rows i [])).weight sums (stored_row p (weighting (get_or rows i [])).index))
    next_row_added add sums =
        ap (λ (ws : List Weighted). summed add p ws sums) (sym (rest_as_items rows i))
        ∙ next_added p (items rows) i (omega (arith, as_long rows)) add sums
        ∙ ap₂ (λ (ws : List Weighted) (x : Item). summed add p ws (add (weighting_of x).weight sums (stored_row p (weighting_of x).index))) (rest_as_items rows (i + 1)) (row_as_item rows i)

    row_decided : (d : Decided) → d ≡ items_decided p (weighting (get_or rows i []) ∷ []) → d ≡ items_decided p (weighting_of (item_at (items rows) i) ∷ [])
    row_decided d e = e ∙ ap (λ (x : Item). items_decided p (weighting_of x ∷ [])) (sym (row_as_item rows i))

    -- a refusal of the row is the list's
    pub row_refused_here : (d : Decided) → d ≡ items_decided p (weighting (get_or rows i []) ∷ []) → (n : ℕ) → d ≡ refuse n → refuse n ≡ items_decided p (weightings (drop i rows))
    row_refused_here d e n f =
        refused_here p (items rows) i (omega (arith, as_long rows)) d (row_decided d e) n f
        ∙ ap (items_decided p) (rest_as_items rows i)

    -- else the others decide
    pub row_goes_here : (d : Decided) → d ≡ items_decided p (weighting (get_or rows i []) ∷ []) → d ≡ go → items_decided p (weightings (drop (i + 1) rows)) ≡ items_decided p (weightings (drop i rows))
    row_goes_here d e f =
        ap (items_decided p) (sym (rest_as_items rows (i + 1)))
        ∙ goes_here p (items rows) i (omega (arith, as_long rows)) d (row_decided d e) f
        ∙ ap (items_decided p) (rest_as_items rows i)

  pub no_row_decided : (i : ℕ) → length rows ≤ i → items_decided p (weightings (drop i rows)) ≡ go
  no_row_decided i h =
      ap (items_decided p) (sym (rest_as_items rows i))
      ∙ none_decided p (items rows) i (omega (arith, as_long rows))

  pub no_row_added : {S : Type 0} (add : ℕ → List S → List E → List S) (i : ℕ) (sums : List S) → length rows ≤ i → summed add p (weightings (drop i rows)) sums ≡ sums
  no_row_added add i sums h =
      ap (λ (ws : List Weighted). summed add p ws sums) (sym (rest_as_items rows i))
      ∙ none_added p add (items rows) i sums (omega (arith, as_long rows))

pub record AllRowsAddable (s : Store) (floats : ℕ) (location : List ℕ) (rows : List (List ℕ)) : Type 0 where
  pub each : (k : ℕ) → k < length rows → Addable s floats location (weighting (get_or rows k []))

module _ (s : Store) (floats : ℕ) (counts location : List ℕ) (r : Readable s floats counts location) where
  pub all_rows_addable : (rows : List (List ℕ)) → items_decided (point_store s (counts_alone counts [])) (weightings rows) ≡ go → AllRowsAddable s floats location rows
  all_rows_addable rows e =
      let a = all_addable s floats counts location r (items rows) (ap (items_decided (point_store s (counts_alone counts []))) (rows_as_items rows) ∙ e) in
      record { each = λ k h. rw (row_as_item rows k) at (a.each k (omega (arith, as_long rows))) }
