-- A hold as its own calls leave it: one interval of free indices or two, each entry of the points' table as the intervals say, and a list
-- of runs along which places rise. Then the points' half of well-formedness holds, and the list names each live point once.
use Rattle.std.specs.Prelude.{◌≡◌, ℕ, ◌+◌, ◌-◌, ◌*◌, ◌<◌, ◌≤◌, Bool, true, false, cond, not, ◌&&◌, ◌||◌, ltb, List, length, get_or, take, ◌==◌, ◌≢◌, nat_eq, nat_le, nat_lt, slice_index, slice_index_or, refl}
use Rattle.std.proofs.Math.Decide.{dec_lt, ℕ_discrete}
use Rattle.std.proofs.Common.{arith, mul-le-mul_right, ◌∙◌, length-take-le}
use Rattle.std.proofs.Math.Bool.{beq}
use Rattle.std.proofs.Math.Path.{sym, ap}
use borrow.Author.Tests.{eq-eqb, ne_eqb, eqb-true, le-leb, lt-ltb}
use Rattle.terms.specs.Below.{one, both, one_le, every_below, every_at, every_make}
use Rattle.terms.specs.Entries.{any_default}
use Rattle.interval_store_manager.specs.Intervals.{inside, holders, is_free, free_number, in_bounds}
use Rattle.interval_store_manager.specs.IntervalLaws.{inside_holds}
use Rattle.interval_store_manager.specs.StackLaws.{bounded, sizes_none, sizes_more, free_number_lem}
use Rattle.interval_store_manager.specs.Sound.{Sound, sound_make}
use Rattle.labels.specs.Counted.{counted, managed, free_uncounted}
use Rattle.labels.specs.CountedLaws.{beq_same}
use Rattle.store_definitions.specs.declared.Store.{Store}
use Rattle.store_definitions.specs.Parts.{base_of, table_length}
use Rattle.store_definitions.specs.WellFormed.{empty_uncounted, places_end}
use Rattle.store_laws.specs.FigureLaws.{one_of_two}
use Rattle.store_check.specs.Entries.{counts_live}
use Rattle.store_check.specs.PointsTest.{points_test, PointsReady}
use Rattle.hold_check.specs.ListedOnce.{listed_once}
use Rattle.hold_check.specs.Rising.{Rises, rises_within, single_counts, named, rising_distinct, rising_listed}
use Rattle.hold_check.specs.Runs.{RunsRise}

-- ---- one interval or two

-- two intervals lie below n and share no index; a single one stands there twice
unfoldable pub pair_apart : (n count start end other last : ℕ) → Bool
pair_apart n count start end other last =
    ((nat_le start end && nat_le other last) && (nat_lt end n && nat_lt last n)) && (count == 1 || (nat_lt end other || nat_lt last start))

unfoldable pub pair_size : (count more further : ℕ) → ℕ
pair_size count more further = cond (count == 1) (more + 1) (more + further + 2)

-- one of them holds index i
unfoldable pub either_holds : (start more other further i : ℕ) → Bool
either_holds start more other further i = inside start (start + more) i || inside other (other + further) i

-- the stack holds these indices and no others
pub record PairOf (n count : ℕ) (starts ends : List ℕ) (start more other further free : ℕ) : Type 0 where
  pub sound : Sound n count starts ends
  pub first_below : start + more < n
  pub other_below : other + further < n
  pub free_is : (i : ℕ) → is_free count starts ends i ≡ either_holds start more other further i
  pub number : free ≡ free_number n count starts ends

free_once : (b : Bool) → nat_lt 0 (0 + one b) ≡ (b || b)
free_once true = refl
free_once false = refl

free_either : (a b : Bool) → nat_lt 0 (0 + one a + one b) ≡ (a || b)
free_either true true = refl
free_either true false = refl
free_either false true = refl
free_either false false = refl

not_both : (a b : Bool) → (a ≡ true → b ≢ true) → 0 + one a + one b ≤ 1
not_both true true d = absurd (d refl refl)
not_both true false d = omega arith
not_both false true d = omega arith
not_both false false d = omega arith

module _ (n : ℕ) (starts ends : List ℕ) (most : n ≤ 1024) (starts_lent : n ≤ length starts) (ends_lent : n ≤ length ends) where
  abbrev start : ℕ
  start = slice_index starts 0

  abbrev end : ℕ
  end = slice_index ends 0

  module _ (ordered : start ≤ end) (below : end < n) where
    back : start + (end - start) ≡ end
    back = omega arith

    single_one : (i : ℕ) → i < n → holders 1 starts ends i ≤ 1
    unfolding holders
    single_one i l = omega (arith, one_le (inside start end i))

    bounds_one : in_bounds n 1 starts ends ≡ true
    unfolding in_bounds
    bounds_one = rw (le-leb start end ordered, lt-ltb end n below)

    number_one : end - start + 1 ≡ free_number n 1 starts ends
    number_one =
        omega (arith, free_number_lem n 1 starts ends single_one, sizes_more n 0 starts ends ordered below, sizes_none n starts ends)

    pub pair_one : PairOf n 1 starts ends start (end - start) start (end - start) (pair_size 1 (end - start) (end - start))
    unfolding pair_size either_holds is_free holders
    pair_one =
        record {
          sound = record {
            least = omega arith;
            most = most;
            starts_lent = starts_lent;
            ends_lent = ends_lent;
            starts_used = omega arith;
            ends_used = omega arith;
            bounds = bounded n 1 starts ends bounds_one;
            single = single_one;
          };
          first_below = omega arith;
          other_below = omega arith;
          free_is = λ i. free_once (inside start end i) ∙ ap (λ (e : ℕ). inside start e i || inside start e i) (sym back);
          number = number_one;
        }

    abbrev other : ℕ
    other = slice_index starts 1

    abbrev last : ℕ
    last = slice_index ends 1

    module _ (ordered_two : other ≤ last) (below_two : last < n) (apart : (end < other → ⊥) → last < start) where
      back_two : other + (last - other) ≡ last
      back_two = omega arith

      never_both : (i : ℕ) → inside start end i ≡ true → inside other last i ≢ true
      never_both i e f =
          let a = inside_holds start end i e in
          let b = inside_holds other last i f in
          elim (dec_lt end other) [ yes l ↦ omega (arith, a, b, l) | no g ↦ omega (arith, a, b, apart g) ]

      some_two : 2 ≤ n
      some_two = elim (dec_lt end other) [ yes l ↦ omega arith | no g ↦ omega (arith, apart g) ]

      single_two : (i : ℕ) → i < n → holders 2 starts ends i ≤ 1
      unfolding holders
      single_two i l = not_both (inside start end i) (inside other last i) (never_both i)

      bounds_two : in_bounds n 2 starts ends ≡ true
      unfolding in_bounds
      bounds_two = rw (le-leb start end ordered, lt-ltb end n below, le-leb other last ordered_two, lt-ltb last n below_two)

      number_two : end - start + (last - other) + 2 ≡ free_number n 2 starts ends
      number_two =
          omega (
            arith,
            free_number_lem n 2 starts ends single_two,
            sizes_more n 1 starts ends ordered_two below_two,
            sizes_more n 0 starts ends ordered below,
            sizes_none n starts ends,
          )

      pub pair_two : PairOf n 2 starts ends start (end - start) other (last - other) (pair_size 2 (end - start) (last - other))
      unfolding pair_size either_holds is_free holders
      pair_two =
          record {
            sound = record {
              least = omega arith;
              most = most;
              starts_lent = starts_lent;
              ends_lent = ends_lent;
              starts_used = omega (arith, some_two);
              ends_used = omega (arith, some_two);
              bounds = bounded n 2 starts ends bounds_two;
              single = single_two;
            };
            first_below = omega arith;
            other_below = omega arith;
            free_is = λ i.
                free_either (inside start end i) (inside other last i)
                ∙ (ap (λ (e : ℕ). inside start e i || inside other last i) (sym back) ∙ ap (λ (e : ℕ). inside start (start + (end - start)) i || inside other e i) (sym back_two));
            number = number_two;
          }

-- ---- the entries

-- a free index has count 0 and no place, any other count 1 and a place
unfoldable pub entry_held : Bool → (count place : ℕ) → Bool
entry_held free count place = count == one (not free) && beq (place == 65535) free

unfoldable pub entries_held : (n start more other further : ℕ) → (counts location : List ℕ) → Bool
entries_held n start more other further counts location =
    every_below n (λ i. entry_held (either_holds start more other further i) (slice_index counts i) (slice_index location i))

free_uncounted_lem : (f : Bool) → beq f (one (not f) == 0) ≡ true
free_uncounted_lem true = refl
free_uncounted_lem false = refl

uncounted_free : (f : Bool) → beq (one (not f) == 0) f ≡ true
uncounted_free true = refl
uncounted_free false = refl

uncounted_is : (f : Bool) → (one (not f) == 0) ≡ f
uncounted_is true = refl
uncounted_is false = refl

-- ---- what follows

pub record Steady (s : Store) (counts location starts ends : List ℕ) (held : ℕ) (list : List ℕ) : Type 0 where
  pub points : points_test s counts location starts ends ≡ true
  pub live : held ≡ counts_live (table_length s) counts
  pub listed : listed_once (table_length s) counts (take held list) ≡ true

module _ (s : Store) (counts location starts ends list : List ℕ) (held start more other further free : ℕ) (ready : PointsReady s counts location) (room : held ≤ length list) (pair : PairOf (table_length s) s.index_manager.last_in_use starts ends start more other further free) (all : table_length s - free ≡ held) (entries : entries_held (table_length s) start more other further counts location ≡ true) (runs : RunsRise (table_length s) held location list) (low : get_or location (slice_index list (held - 1)) 0 * base_of s + s.dimensions ≤ s.start_free_region) where
  abbrev n : ℕ
  n = table_length s

  abbrev freed : ℕ → Bool
  freed i = is_free s.index_manager.last_in_use starts ends i

  lent : n ≤ length location
  lent = omega (arith, ready.places_lent, ready.table_within)

  entry_at : (i : ℕ) → i < n → entry_held (freed i) (slice_index counts i) (slice_index location i) ≡ true
  unfolding entries_held
  entry_at i l =
      ap (λ (b : Bool). entry_held b (slice_index counts i) (slice_index location i)) (pair.free_is i)
      ∙ every_at n (λ k. entry_held (either_holds start more other further k) (slice_index counts k) (slice_index location k)) entries i l

  count_is : (i : ℕ) → i < n → slice_index counts i ≡ one (not (freed i))
  unfolding entry_held
  count_is i l =
      eqb-true (slice_index counts i) (one (not (freed i)))
      (both (slice_index counts i == one (not (freed i))) (beq (slice_index location i == 65535) (freed i)) (entry_at i l)).0

  empty_is : (i : ℕ) → i < n → (slice_index_or location i 65535 == 65535) ≡ freed i
  unfolding entry_held
  empty_is i l =
      ap (λ (k : ℕ). nat_eq k 65535) (any_default location i 65535 0 (omega (arith, lent)))
      ∙ beq_same (slice_index location i == 65535) (freed i)
      (both (slice_index counts i == one (not (freed i))) (beq (slice_index location i == 65535) (freed i)) (entry_at i l)).1

  free_clause : free_uncounted n (counted s.index_manager counts starts ends) ≡ true
  unfolding free_uncounted
  free_clause =
      every_make n (λ i. beq (freed i) (slice_index counts i == 0)) (λ i l. rw (count_is i l) (free_uncounted_lem (freed i)))

  empty_clause : empty_uncounted n counts location ≡ true
  unfolding empty_uncounted
  empty_clause =
      every_make n (λ i. beq (slice_index counts i == 0) (slice_index_or location i 65535 == 65535))
      (λ i l. rw (count_is i l, empty_is i l) (uncounted_free (freed i)))

  live_number_lem : held ≡ counts_live n counts
  unfolding counts_live free_number
  live_number_lem =
      let whole =
      one_of_two n (λ i. not (slice_index counts i == 0)) freed (λ i l. ap not (ap (λ (k : ℕ). nat_eq k 0) (count_is i l) ∙ uncounted_is (freed i))) in
      omega (arith, all, pair.number, whole)

  rises : Rises n 65535 location (take held list)
  rises =
      rises_within n (slice_index location (slice_index list (held - 1)) + 1) location (take held list) runs.rises 65535 (omega (arith, runs.top))

  long : length (take held list) ≡ counts_live n counts
  long = length-take-le held list room ∙ live_number_lem

  place_ends : (i : ℕ) → i < n → (slice_index_or location i 65535 == 65535 || nat_le (slice_index_or location i 65535 * base_of s + s.dimensions) s.start_free_region) ≡ true
  place_ends i l =
      let p = get_or location i 65535 in
      let same : p ≡ get_or location i 0 = any_default location i 65535 0 (omega (arith, lent)) in
      elim (ℕ_discrete p 65535) [
        | yes e ↦ rw (eq-eqb p 65535 e)
        | no d ↦
            let there = named n counts location (take held list) rises lent empty_clause long i l (λ e. d (same ∙ e)) in
            let before = runs.rises.placed i there in
            let under : p * base_of s ≤ slice_index location (slice_index list (held - 1)) * base_of s = mul-le-mul_right (base_of s) (omega (arith, same, before)) in
            rw (ne_eqb p 65535 d) (le-leb (p * base_of s + s.dimensions) s.start_free_region (omega (arith, under, low)))
      ]

  end_clause : places_end n s location ≡ true
  unfolding places_end
  end_clause =
      every_make n
      (λ i. (slice_index_or location i 65535 == 65535) || nat_le (slice_index_or location i 65535 * base_of s + s.dimensions) s.start_free_region)
      place_ends

  managed_clause : managed n (counted s.index_manager counts starts ends) ≡ true
  unfolding managed
  managed_clause = rw (sound_make s.index_manager starts ends pair.sound, eq-eqb n n refl)

  single : single_counts n counts ≡ true
  unfolding single_counts
  single =
      every_make n (λ i. ltb (slice_index counts i) 2)
      (λ i l. lt-ltb (slice_index counts i) 2 (omega (arith, count_is i l, one_le (not (freed i)))))

  pub steady_found : Steady s counts location starts ends held list
  unfolding points_test
  steady_found =
      record {
        points = rw (managed_clause, free_clause, empty_clause, rising_distinct n counts location (take held list) rises lent empty_clause long, end_clause);
        live = live_number_lem;
        listed = sym (rising_listed n counts location (take held list) rises lent empty_clause long) ∙ single;
      }
