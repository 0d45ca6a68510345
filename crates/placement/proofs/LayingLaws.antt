-- What laying a row keeps, and what it leaves at the row's place.
use Rattle.std.proofs.Math.Bool.{Bool, true, false}
use Rattle.std.specs.Prelude.{cond, ◌≡◌, ℕ, ◌+◌, ◌*◌, ◌-◌, ◌/◌, ◌≤◌, ◌<◌, ltb, length, get_or, set, take, drop}
use Rattle.std.proofs.lemmas.Bool.{false≢true}
use mathlib.Core.List.{List, ◌++◌, append_assoc}
use Rattle.std.proofs.Math.Path.{refl, ap}
use Rattle.std.proofs.Common.{sym, subst, ◌∙◌, le_of_lt, le_of_eq, ltb-true, length-set, length-drop, get_or-set_same, get_or-set_other, length-take-le, take_all, take_at, drop_at}
use Rattle.std.specs.Int.{◌∣◌}
use Rattle.std.proofs.Math.Nat.{sub_self, le_refl, dvd_refl, dvd-add, dvd-sub, div-mul_cancel, le_of_dvd}
use Rattle.std.proofs.Math.Decide.{ℕ_discrete}
use native.Mathlib.Omega.{arith}
use Rattle.std.proofs.Math.ListN.{take-append-drop}
use Rattle.std.proofs.Math.Seq.{paste, length-paste, drop-paste}
use Rattle.terms.specs.Rows.{all_equal, Exact, rows_same}
use Rattle.placement.specs.Copying.{turn, turned, copied}
use Rattle.placement.specs.Laying.{written_count, laid_as, laid_elements, laid_free, place_of}
use Rattle.placement.specs.Overlap.{overlaps}
use Rattle.placement.specs.Pieces.{piece_join, piece_front}
use Rattle.placement.specs.Places.{Shaped, Live, WellPlaced, Distinct}
use Rattle.placement.specs.Row.{piece}

-- what laying keeps, and what it leaves
pub record LayingKeeps {E : Type 0} (eq : E → E → Bool) (dims base : ℕ) (joined : Bool) (free : ℕ) (elements row after : List E) : Type 0 where
  pub length_kept : length after ≡ length elements
  pub before_kept : (at n : ℕ) → at + n ≤ free → piece at n after ≡ piece at n elements
  pub rest_kept : drop (laid_free dims base joined free) after ≡ drop (laid_free dims base joined free) elements
  pub free_whole : base ∣ laid_free dims base joined free
  pub ends : place_of (laid_as dims base joined free) * base + dims ≡ laid_free dims base joined free
  pub rises : free < laid_free dims base joined free
  pub same : Exact eq → piece (place_of (laid_as dims base joined free) * base) dims after ≡ row

-- a piece that lies before what was pasted, and the piece that was
module _ {E : Type 0} (d : List E) (at : ℕ) (s : List E) (n : ℕ) (inside : at ≤ length d) (enough : n ≤ length s) where
  paste_before : (from m : ℕ) → from + m ≤ at → piece from m (paste d at s n) ≡ piece from m d
  paste_before from m h =
      let front : length (take at d) ≡ at = length-take-le at d inside in
      ap (piece from m) (append_assoc (take at d) (take n s) (drop (at + n) d))
      ∙ piece_front from m (take at d) (take n s ++ drop (at + n) d) (omega arith)
      ∙ sym (piece_front from m (take at d) (drop at d) (omega arith))
      ∙ ap (piece from m) (take-append-drop at d)

  piece_paste : piece at n (paste d at s n) ≡ take n s
  piece_paste =
      ap (piece at n) (append_assoc (take at d) (take n s) (drop (at + n) d))
      ∙ ap (take n) (drop_at (take at d) (take n s ++ drop (at + n) d) at (length-take-le at d inside))
      ∙ take_at (take n s) (drop (at + n) d) n (length-take-le n s enough)

module _ {E : Type 0} (eq : E → E → Bool) (dims base shingle free : ℕ) (elements row : List E) where
  -- what overlap says
  overlap : overlaps eq shingle (dims - base) free elements row ≡ true → (dims - base < free) × (all_equal eq (piece (free - (dims - base)) (dims - base) elements) (take (dims - base) row) ≡ true)
  unfolding overlaps
  overlap h = go (ltb 1 shingle) (ltb (dims - base) free) refl h
    where
      same : Bool
      same = all_equal eq (piece (free - (dims - base)) (dims - base) elements) (take (dims - base) row)

      go : (t u : Bool) → ltb (dims - base) free ≡ u → cond t (cond u same false) false ≡ true → (dims - base < free) × (same ≡ true)
      go true true e h = (ltb-true (dims - base) free e, h)
      go true false e h = absurd (false≢true h)
      go false u e h = absurd (false≢true h)

  module _ (shaped : Shaped dims base) (whole : base ∣ free) (sized : length row ≡ dims) where
    wide : base ≤ dims
    wide = le_of_dvd shaped.some shaped.whole

    count_positive : (joined : Bool) → 0 < written_count dims base joined
    unfolding written_count
    count_positive true = shaped.some_base
    count_positive false = shaped.some

    count_within : (joined : Bool) → written_count dims base joined ≤ dims
    unfolding written_count
    count_within true = wide
    count_within false = le_refl dims

    count_whole : (joined : Bool) → base ∣ written_count dims base joined
    unfolding written_count
    count_whole true = dvd_refl base
    count_whole false = shaped.whole

    -- the new point ends at the new free start
    laid_ends : (joined : Bool) → overlaps eq shingle (dims - base) free elements row ≡ joined → place_of (laid_as dims base joined free) * base + dims ≡ laid_free dims base joined free
    unfolding written_count laid_as laid_free place_of
    laid_ends true e =
        let at : (free - (dims - base)) / base * base ≡ free - (dims - base) = div-mul_cancel base (dvd-sub base whole (dvd-sub base shaped.whole (dvd_refl base))) in
        omega (arith, wide, (overlap e).0)
    laid_ends false e = let at : free / base * base ≡ free = div-mul_cancel base whole in omega arith

    -- the part that is not written stands before the free start already
    shared : (joined : Bool) → overlaps eq shingle (dims - base) free elements row ≡ joined
        → (dims - written_count dims base joined ≤ free)
        × (Exact eq → piece (free - (dims - written_count dims base joined)) (dims - written_count dims base joined) elements ≡ take (dims - written_count dims base joined) row)
    unfolding written_count
    shared true e =
        (le_of_lt (overlap e).0, λ exact. rows_same eq exact (piece (free - (dims - base)) (dims - base) elements) (take (dims - base) row) (overlap e).1)
    shared false e = rw sub_self (omega arith, λ exact. refl)

    module _ (joined : Bool) (e : overlaps eq shingle (dims - base) free elements row ≡ joined) (fits : free + written_count dims base joined ≤ length elements) where
      abbrev n : ℕ
      n = written_count dims base joined

      -- of the row its last n elements are written
      abbrev last : List E
      last = drop (dims - n) row

      abbrev after : List E
      after = paste elements free last n

      enough : length last ≡ n
      enough = length-drop (dims - n) row ∙ omega (arith, sized, count_within joined)

      -- the new point: what stood before the free start, and what was written
      point : piece (free - (dims - n)) dims after ≡ piece (free - (dims - n)) (dims - n) elements ++ last
      point =
          let k : ℕ = dims - n in
          let h : k ≤ free = (shared joined e).0 in
          let c₁ : free - (free - k) ≡ k = omega arith in
          let c₂ : free + n - free ≡ n = omega arith in
          let c₃ : free + n - (free - k) ≡ dims = omega (arith, count_within joined) in
          let joins : piece (free - k) k after ++ piece free n after ≡ piece (free - k) dims after =
          rw (c₁, c₂, c₃) at (piece_join (free - k) free (free + n) after (omega arith) (omega arith)) in
          sym joins
          ∙ ap (λ (l : List E). l ++ piece free n after) (paste_before elements free last n (omega arith) (omega (arith, enough)) (free - k) k (omega arith))
          ∙ ap (λ (l : List E). piece (free - k) k elements ++ l) (piece_paste elements free last n (omega arith) (omega (arith, enough)) ∙ take_all n last (omega (arith, enough)))

      pub laying_keeps : LayingKeeps eq dims base joined free elements row (laid_elements dims base joined free elements row)
      unfolding laid_elements laid_free
      laying_keeps =
          let at : place_of (laid_as dims base joined free) * base ≡ free - (dims - n) = omega (arith, laid_ends joined e, count_within joined) in
          record {
            length_kept = length-paste elements free last n fits (omega (arith, enough));
            before_kept = paste_before elements free last n (omega arith) (omega (arith, enough));
            rest_kept = drop-paste elements free last n (omega arith) (omega (arith, enough));
            free_whole = dvd-add base whole (count_whole joined);
            ends = laid_ends joined e;
            rises = omega (arith, count_positive joined);
            same = λ exact. rw at (point ∙ ap (λ (l : List E). l ++ last) ((shared joined e).1 exact) ∙ take-append-drop (dims - n) row);
          }

-- ---- copies afterwards

module _ {E : Type 0} (eq : E → E → Bool) (dims base : ℕ) (joined : Bool) (free : ℕ) (elements row after : List E) (down : LayingKeeps eq dims base joined free elements row after) (rotation : Bool) where
  -- the new point's copy is the row, turned
  pub copy_laid : Exact eq → copied rotation dims base (place_of (laid_as dims base joined free)) after ≡ turned dims (turn rotation dims base (place_of (laid_as dims base joined free))) row
  unfolding copied
  copy_laid exact = ap (turned dims (turn rotation dims base (place_of (laid_as dims base joined free)))) (down.same exact)

  -- any other point's copy is what it was
  pub copy_before : (place : ℕ) → place * base + dims ≤ free → copied rotation dims base place after ≡ copied rotation dims base place elements
  unfolding copied
  copy_before place h = rw (down.before_kept (place * base) dims h)

-- ---- the places afterwards: index i has the new point

module _ {E : Type 0} (eq : E → E → Bool) (dims base : ℕ) (joined : Bool) (free : ℕ) (elements row after : List E) (down : LayingKeeps eq dims base joined free elements row after) (location : List ℕ) (i : ℕ) (well : WellPlaced dims base location free (length elements)) where
  abbrev place : ℕ
  place = place_of (laid_as dims base joined free)

  -- any other point was there before
  was_live : (j : ℕ) → ¬ (j ≡ i) → Live (set location i place) j → Live location j
  was_live j other l =
      record {
        listed = rw (length-set location i place) at l.listed;
        placed = λ e. l.placed (get_or-set_other location i j place 65535 other ∙ e);
      }

  new_place : Live (set location i place) i → get_or (set location i place) i 65535 ≡ place
  new_place l = get_or-set_same location i place 65535 (rw (length-set location i place) at l.listed)

  pub well_laid : laid_free dims base joined free + dims ≤ 65535 → laid_free dims base joined free ≤ length elements → WellPlaced dims base (set location i place) (laid_free dims base joined free) (length after)
  well_laid small inside =
      record {
        shaped = well.shaped;
        small = small;
        inside = omega (arith, down.length_kept);
        ends = λ j l. go j l (ℕ_discrete j i);
      }
    where
      go : (j : ℕ) → Live (set location i place) j → Dec (j ≡ i) → get_or (set location i place) j 65535 * base + dims ≤ laid_free dims base joined free
      go j l (yes same) = subst (λ (k : ℕ). get_or (set location i place) k 65535 * base + dims ≤ laid_free dims base joined free) (sym same) (rw (new_place (rw same at l)) (le_of_eq down.ends))
      go j l (no other) = rw (get_or-set_other location i j place 65535 other) (omega (arith, well.ends j (was_live j other l), down.rises))

  -- no other point stands at the new place
  apart : (j : ℕ) → ¬ (j ≡ i) → Live (set location i place) j → ¬ (get_or (set location i place) j 65535 ≡ place)
  apart j other l e =
      let ends : get_or location j 65535 * base + dims ≤ free = well.ends j (was_live j other l) in
      let same : get_or location j 65535 ≡ place = sym (get_or-set_other location i j place 65535 other) ∙ e in
      omega (arith, rw same at ends, down.ends, down.rises)

  pub distinct_laid : Distinct location → Distinct (set location i place)
  distinct_laid distinct j k l m e = go (ℕ_discrete j i) (ℕ_discrete k i)
    where
      at : (j : ℕ) → Live (set location i place) j → j ≡ i → get_or (set location i place) j 65535 ≡ place
      at j l same = ap (λ (n : ℕ). get_or (set location i place) n 65535) same ∙ new_place (subst (Live (set location i place)) same l)

      go : Dec (j ≡ i) → Dec (k ≡ i) → j ≡ k
      go (yes p) (yes q) = p ∙ sym q
      go (yes p) (no q) = absurd (apart k q m (sym e ∙ at j l p))
      go (no p) (yes q) = absurd (apart j p l (e ∙ at k m q))
      go (no p) (no q) =
          distinct j k (was_live j p l) (was_live k q m)
          (sym (get_or-set_other location i j place 65535 p) ∙ e ∙ get_or-set_other location i k place 65535 q)
