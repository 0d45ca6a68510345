-- How many indices are live, and when float space suffices for one point more.
use Rattle.std.specs.Prelude.{ℕ, zero, suc, ◌+◌, ◌*◌, ◌≤◌, ◌<◌, Bool, true, false, cond, not, List, [], ◌∷◌, ◌≡◌, refl, get_or, take, eqb, ltb}
use Rattle.std.proofs.Common.{suc-mul, mul-le-mul_right, arith, sym, ◌∙◌, get_or-take, eq-eqb, ne_eqb, lt-ltb, le-ltb}
use Rattle.std.proofs.Math.Nat.{le_of_dvd}
use Rattle.std.proofs.Math.Decide.{dec_lt, ℕ_discrete}
use Rattle.std.proofs.Math.Path.{ap, subst}
use Rattle.std.proofs.Math.ListN.{length}
use Rattle.std.proofs.Math.Seq.{length-take-le}
use Rattle.terms.specs.Below.{sum_below, count_below, one, one_le, sum_same, sum_ones}
use Rattle.terms.specs.Sums.{sum_less}
use Rattle.placement.specs.AlignmentLaws.{point_room}
use Rattle.placement.specs.Compaction.{live_count}
use Rattle.placement.specs.Growth.{grown, grown_gains, grown_short, grown_within_lem}
use Rattle.labels.specs.Counted.{next_index, live_number}
use Rattle.labels.specs.CountedLaws.{next_within, next_unused}
use Rattle.store_definitions.specs.Memory.{PointStore}
use Rattle.store_definitions.specs.Parts.{base_of, table_length, point_table, rows_of}
use Rattle.store_definitions.specs.Rows.{compacted_rows, room_made}
use Rattle.store_definitions.specs.Adding.{table_full, overflows}
use Rattle.store_laws.specs.BoundsLaws.{base_divides}
use Rattle.store_laws.specs.Sound.{Sound}
use Rattle.store_laws.specs.AddingLaws.{can_grow}
use Rattle.guarantee.specs.RoomLaws.{compact_free_lem, compact_down, short_room}

-- ---- how many indices are live: by the history, by the counts and by the places

sum_first : (n : ℕ) (f : ℕ → ℕ) → sum_below (suc n) f ≡ f 0 + sum_below n (λ i. f (suc i))
unfolding sum_below
sum_first zero f = omega arith
sum_first (suc n) f = omega (arith, sum_first n f)

placed : List ℕ → ℕ → ℕ
placed xs i = one (not (eqb (get_or xs i 65535) 65535))

count_places : (xs : List ℕ) → live_count xs ≡ sum_below (length xs) (placed xs)
unfolding sum_below live_count placed
count_places [] = refl
count_places (x ∷ xs) = go (eqb x 65535) refl (count_places xs) ∙ sym (sum_first (length xs) (placed (x ∷ xs)))
  where
    go : (b : Bool) → eqb x 65535 ≡ b → live_count xs ≡ sum_below (length xs) (placed xs) → cond b (live_count xs) (suc (live_count xs)) ≡ one (not (eqb x 65535)) + sum_below (length xs) (placed xs)
    go true e ih = rw e (omega arith)
    go false e ih = rw e (omega arith)

positive_test : (c : ℕ) → ltb 0 c ≡ not (eqb c 0)
positive_test c =
    elim (dec_lt 0 c) [
      | yes h ↦ rw (lt-ltb 0 c h, ne_eqb c 0 (λ e. omega arith))
      | no g ↦ rw (le-ltb 0 c (omega arith), eq-eqb c 0 (omega arith))
    ]

module _ {E : Type 0} (p : PointStore E) (w : Sound p) where
  abbrev n : ℕ
  n = table_length p.header

  abbrev used : ℕ → ℕ
  used i = one (ltb 0 (get_or p.memory.reference_count i 0))

  -- points and live indices are as many
  pub points_number : live_count (take n p.memory.location) ≡ live_number n (point_table p)
  unfolding live_number count_below placed
  points_number =
      let long : length (take n p.memory.location) ≡ n = length-take-le n p.memory.location (omega (arith, w.rows.places_lent, w.table_within)) in
      count_places (take n p.memory.location)
      ∙ ap (λ (k : ℕ). sum_below k (placed (take n p.memory.location))) long
      ∙ sum_same n (placed (take n p.memory.location)) used
      (λ i h. rw (get_or-take n p.memory.location i 65535 h, positive_test (get_or p.memory.reference_count i 0), w.empty_is i h))

  number_most : live_number n (point_table p) ≤ n
  unfolding live_number count_below
  number_most = sum_ones n used (λ i h. one_le (ltb 0 (get_or p.memory.reference_count i 0)))

  -- an index is free
  pub number_less : 0 < p.header.index_manager.last_in_use → live_number n (point_table p) < n
  unfolding live_number count_below
  number_less h =
      sum_less n (next_index (point_table p)) used (λ i l. one_le (ltb 0 (get_or p.memory.reference_count i 0)))
      (next_within n (point_table p) w.points h)
      (rw (next_unused n (point_table p) w.points h))

  -- an add that is kept: an index is free, or the table grows
  pub number_room : table_full p.header ≡ false → live_number n (point_table p) < p.header.capacity
  number_room e =
      elim (ℕ_discrete p.header.index_manager.last_in_use 0) [
        | yes z ↦
            let up = can_grow p.header w.table_within e z in
            omega (arith, number_most, up, (grown_within_lem n 1 p.header.capacity w.table_within).1)
        | no d ↦ omega (arith, number_less (omega arith), w.table_within)
      ]

  -- a row that does not fit, after compaction and growth
  module _ (zero_element : E) (eq : E → E → Bool) (row : List E) (o : overflows eq p.header (room_made zero_element p.header (rows_of p)) row ≡ true) where
    abbrev room : ℕ
    room = point_room p.header.internal_rotation p.header.dimensions (base_of p.header)

    abbrev compact_free : ℕ
    compact_free = (compacted_rows zero_element p.header (rows_of p)).free

    abbrev limit : ℕ
    limit = p.header.capacity * p.header.dimensions

    abbrev longer : ℕ
    longer = grown p.header.store_length p.header.dimensions limit

    left : (longer < compact_free + p.header.dimensions) × ((room_made zero_element p.header (rows_of p)).store_length ≡ longer)
    left =
        short_room zero_element p.header w.table_within (rows_of p) w.rows eq row
        (le_of_dvd w.bounds.dims_least (base_divides p.header.dimensions p.header.shingle_size p.header.capacity w.bounds))
        o

    free_most : compact_free ≤ live_number n (point_table p) * room
    free_most = rw (sym points_number) (compact_free_lem zero_element p.header w.table_within (rows_of p) w.rows)

    pub refused_bound : longer < live_number n (point_table p) * room + p.header.dimensions
    refused_bound = omega (arith, left.0, free_most)

    -- growth gives a point's floats, or all that there are
    one_more : compact_free + p.header.dimensions ≤ p.header.store_length + p.header.dimensions
    one_more = omega (arith, compact_down zero_element p.header w.table_within (rows_of p) w.rows, w.rows.free_inside)

    pub refused_largest : (room_made zero_element p.header (rows_of p)).store_length ≡ limit
    refused_largest = left.1 ∙ grown_short p.header.store_length p.header.dimensions limit (compact_free + p.header.dimensions) one_more left.0

    pub unturned_fits : p.header.internal_rotation ≡ false → table_full p.header ≡ false → ⊥
    unfolding point_room
    unturned_fits e f =
        let dims = p.header.dimensions in
        let live = live_number n (point_table p) in
        let most : compact_free ≤ live * dims = subst (λ (x : ℕ). compact_free ≤ live * x) (ap (λ (b : Bool). point_room b dims (base_of p.header)) e) free_most in
        let within : live * dims + dims ≤ limit = rw (sym (suc-mul live dims)) (mul-le-mul_right dims (number_room f)) in
        omega (arith, left.0, grown_gains p.header.store_length dims limit (compact_free + dims) one_more (omega (arith, most, within)))
