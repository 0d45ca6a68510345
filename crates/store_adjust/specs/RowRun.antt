-- The run of an adjust where a pair is a row of four plain numbers, from that of pairs.
use Rattle.std.specs.Prelude.{ℕ, ◌+◌, ◌≤◌, ◌<◌, true, length, get_or, drop}
use Rattle.std.proofs.Common.{arith, ◌∙◌}
use mathlib.Core.List.{List, [], ◌∷◌, map}
use Rattle.std.proofs.Math.Path.{◌≡◌, refl, sym, ap}
use Rattle.std.proofs.Math.ListN.{get_or-map}
use Rattle.std.proofs.lemmas.List.{length-map, drop-map}
use Rattle.store_definitions.specs.declared.Pair.{Pair}
use Rattle.store_definitions.specs.Memory.{Memory, PointStore}
use Rattle.store_definitions.specs.Answers.{done, refused, refused_after, Outcome, outcome}
use Rattle.store_definitions.specs.Counting.{Pairing, adjust_from, adjust_spec}
use Rattle.store_definitions.specs.WellFormed.{well_formed}
use Rattle.store_adjust.specs.Pairs.{pairing_of, pairings_of, pairing, pairings, pair_spec}
use Rattle.store_adjust.specs.Run.{pair_at, State, start, stop, next, finish}

abbrev pub pair_made : List ℕ → Pair
pair_made r =
    record {
      insert = record { index = record { 0 = get_or r 0 0 }; label = record { 0 = get_or r 1 0 } };
      delete = record { index = record { 0 = get_or r 2 0 }; label = record { 0 = get_or r 3 0 } };
    }

pub rows_as_pairs : (rows : List (List ℕ)) → pairings_of (map pair_made rows) ≡ pairings rows
unfolding pairings_of pairings
rows_as_pairs [] = refl
rows_as_pairs (r ∷ rs) = ap (λ (qs : List Pairing). pairing r ∷ qs) (rows_as_pairs rs)

module _ (rows : List (List ℕ)) where
  abbrev pub pairs : List Pair
  pairs = map pair_made rows

  rest_as_pairs : (i : ℕ) → pairings_of (drop i pairs) ≡ pairings (drop i rows)
  rest_as_pairs i = ap pairings_of (drop-map pair_made i rows) ∙ rows_as_pairs (drop i rows)

  pub row_as_pair : (i : ℕ) → pair_at pairs i ≡ pair_made (get_or rows i [])
  row_as_pair i = get_or-map pair_made rows i []

  pub as_long : length pairs ≡ length rows
  as_long = length-map rows pair_made

-- the tables are as long as those
pub record Same {E : Type 0} (m k : Memory E) : Type 0 where
  pub counts : length m.reference_count ≡ length k.reference_count
  pub location : length m.location ≡ length k.location
  pub starts : length m.index_starts ≡ length k.index_starts
  pub ends : length m.index_ends ≡ length k.index_ends
  pub label_counts : length m.label_count ≡ length k.label_count
  pub label_starts : length m.label_starts ≡ length k.label_starts
  pub label_ends : length m.label_ends ≡ length k.label_ends
  pub slot_counts : length m.attribute_count ≡ length k.attribute_count
  pub slot_starts : length m.attribute_starts ≡ length k.attribute_starts
  pub slot_ends : length m.attribute_ends ≡ length k.attribute_ends

same_refl : {E : Type 0} (m : Memory E) → Same m m
same_refl m =
    record { counts = refl; location = refl; starts = refl; ends = refl; label_counts = refl; label_starts = refl; label_ends = refl; slot_counts = refl; slot_starts = refl; slot_ends = refl }

same_trans : {E : Type 0} (l m k : Memory E) → Same l m → Same m k → Same l k
same_trans l m k f g =
    record {
      counts = f.counts ∙ g.counts;
      location = f.location ∙ g.location;
      starts = f.starts ∙ g.starts;
      ends = f.ends ∙ g.ends;
      label_counts = f.label_counts ∙ g.label_counts;
      label_starts = f.label_starts ∙ g.label_starts;
      label_ends = f.label_ends ∙ g.label_ends;
      slot_counts = f.slot_counts ∙ g.slot_counts;
      slot_starts = f.slot_starts ∙ g.slot_starts;
      slot_ends = f.slot_ends ∙ g.slot_ends;
    }

-- where the loop stands: the rows from i on, from here, come to what all of them come to from the start
pub record RowState {E : Type 0} (rows : List (List ℕ)) (p₀ p : PointStore E) (i : ℕ) : Type 0 where
  pub bound : i ≤ length rows
  pub same : Same p.memory p₀.memory
  pub formed : well_formed p ≡ true
  pub run : adjust_from i (pairings (drop i rows)) p ≡ adjust_spec p₀ (pairings rows)

module _ {E : Type 0} (rows : List (List ℕ)) (p₀ p : PointStore E) (i : ℕ) where
  as_pairs : RowState rows p₀ p i → State (pairs rows) p₀ p i
  as_pairs f =
      record {
        bound = omega (arith, f.bound, as_long rows);
        formed = f.formed;
        run = ap (λ (qs : List Pairing). adjust_from i qs p) (rest_as_pairs rows i) ∙ f.run ∙ ap (adjust_spec p₀) (sym (rows_as_pairs rows));
      }

  as_rows : State (pairs rows) p₀ p i → Same p.memory p₀.memory → RowState rows p₀ p i
  as_rows f s =
      record {
        bound = omega (arith, f.bound, as_long rows);
        same = s;
        formed = f.formed;
        run = ap (λ (qs : List Pairing). adjust_from i qs p) (sym (rest_as_pairs rows i)) ∙ f.run ∙ ap (adjust_spec p₀) (rows_as_pairs rows);
      }

pub start_rows : {E : Type 0} (rows : List (List ℕ)) (p : PointStore E) → well_formed p ≡ true → RowState rows p p 0
start_rows rows p f = as_rows rows p p 0 (start (pairs rows) p f) (same_refl p.memory)

module _ {E : Type 0} (rows : List (List ℕ)) (p₀ p : PointStore E) (i : ℕ) (f : RowState rows p₀ p i) where
  module _ (h : i < length rows) (o : Outcome E) (e : o ≡ pair_spec p (pairing (get_or rows i []))) where
    as_pair : o ≡ pair_spec p (pairing_of (pair_at (pairs rows) i))
    as_pair = e ∙ ap (λ (x : Pair). pair_spec p (pairing_of x)) (sym (row_as_pair rows i))

    pub stop_at_row : (k : ℕ) → o.answer ≡ refused k → outcome (refused_after k i) o.after ≡ adjust_spec p₀ (pairings rows)
    stop_at_row k a =
        stop (pairs rows) p₀ p i (as_pairs rows p₀ p i f) (omega (arith, as_long rows)) o as_pair k a
        ∙ ap (adjust_spec p₀) (rows_as_pairs rows)

    pub next_row : o.answer ≡ done → Same o.after.memory p.memory → RowState rows p₀ o.after (i + 1)
    next_row a s =
        as_rows rows p₀ o.after (i + 1)
        (next (pairs rows) p₀ p i (as_pairs rows p₀ p i f) (omega (arith, as_long rows)) o as_pair a)
        (same_trans o.after.memory p.memory p₀.memory s f.same)

  pub finish_rows : length rows ≤ i → outcome done p ≡ adjust_spec p₀ (pairings rows)
  finish_rows h =
      finish (pairs rows) p₀ p i (as_pairs rows p₀ p i f) (omega (arith, as_long rows))
      ∙ ap (adjust_spec p₀) (rows_as_pairs rows)
