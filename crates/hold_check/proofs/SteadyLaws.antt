-- What the tests of a hold as its own calls leave it give.
use Rattle.std.proofs.Common.{◌≡◌, ℕ, ◌+◌, ◌-◌, ◌/◌, ◌%◌, ◌<◌, ◌≤◌, Bool, true, ◌&&◌, ◌||◌, eqb, ltb, leb, List, length, get_or, sym, ap, ◌∙◌, div-le_self, add-one, arith, ltb-true, le-ltb, ne_eqb, le-leb, leb-true}
use native.Mathlib.Decide.{dec_lt, ℕ_discrete}
use borrow.Author.Tests.{lt-leb}
use Rattle.terms.specs.Below.{both, every_below}
use Rattle.interval_store_manager.specs.Intervals.{inside}
use Rattle.interval_store_manager.specs.IntervalLaws.{inside_yes, inside_left, inside_right}
use Rattle.interval_store_manager.specs.Sound.{lent}
use Rattle.interval_store_manager.specs.WellFormed.{lent_enough}
use Rattle.store_definitions.specs.declared.Store.{Store}
use Rattle.store_definitions.specs.Parts.{table_length}
use Rattle.store_laws.specs.BoundsLaws.{InBounds, in_bounds}
use Rattle.store_check.specs.PointsTest.{PointsReady}
use Rattle.hold_check.specs.Steady.{pair_apart, pair_size, PairOf, pair_one, pair_two, either_holds, entry_held, entries_held}

-- ---- one interval or two

pub record Apart (n count start end other last : ℕ) : Type 0 where
  pub ordered : start ≤ end
  pub ordered_two : other ≤ last
  pub below : end < n
  pub below_two : last < n
  pub apart : (count ≡ 1 → ⊥) → (end < other → ⊥) → last < start

pub pair_tested : (n count start end other last : ℕ) → pair_apart n count start end other last ≡ true → Apart n count start end other last
unfolding pair_apart
pair_tested n count start end other last t =
    let b = both ((leb start end && leb other last) && (ltb end n && ltb last n)) (eqb count 1 || (ltb end other || ltb last start)) t in
    let c = both (leb start end && leb other last) (ltb end n && ltb last n) b.0 in
    let o = both (leb start end) (leb other last) c.0 in
    let l = both (ltb end n) (ltb last n) c.1 in
    record {
      ordered = leb-true start end o.0;
      ordered_two = leb-true other last o.1;
      below = ltb-true end n l.0;
      below_two = ltb-true last n l.1;
      apart = λ d g.
          ltb-true last start
          (sym (ap (λ (x : Bool). x || ltb last start) (le-ltb end other (omega (arith, g))))
          ∙ (sym (ap (λ (x : Bool). x || (ltb end other || ltb last start)) (ne_eqb count 1 d)) ∙ b.1));
    }

module _ (n count : ℕ) (starts ends : List ℕ) (some : (1 ≤ count) × (count ≤ 2)) (most : n ≤ 1024) (starts_lent : n ≤ length starts) (ends_lent : n ≤ length ends) where
  abbrev start : ℕ
  start = get_or starts 0 0

  abbrev end : ℕ
  end = get_or ends 0 0

  abbrev other : ℕ
  other = get_or starts (count - 1) 0

  abbrev last : ℕ
  last = get_or ends (count - 1) 0

  pub pair_found : Apart n count start end other last → (size : ℕ) → size ≡ pair_size count (end - start) (last - other) → PairOf n count starts ends start (end - start) other (last - other) size
  pair_found a size e =
      elim (ℕ_discrete count 1) [
        | yes q ↦ rw (e, q) (pair_one n starts ends most starts_lent ends_lent a.ordered a.below)
        | no d ↦
            let q : count ≡ 2 = omega (arith, some, d) in
            let p = rw q at a in
            rw (e, q)
            (pair_two n starts ends most starts_lent ends_lent p.ordered p.below p.ordered_two p.below_two (p.apart (λ f. omega (arith, f))))
      ]

-- a difference that wraps is larger than every interval
pub within_is : (at start more difference : ℕ) → start + more < 65536 → at < 65536 → difference < 65536 → (difference + start) % 65536 ≡ at → leb difference more ≡ inside start (start + more) at
within_is at start more difference fits small least e =
    elim (dec_lt at start) [
      | yes l ↦ lt-leb difference more (omega arith) ∙ sym (inside_left start (start + more) at l)
      | no g ↦
          let d : difference ≡ at - start = omega arith in
          elim (dec_lt (start + more) at) [
            | yes h ↦ lt-leb difference more (omega arith) ∙ sym (inside_right start (start + more) at h)
            | no h ↦ le-leb difference more (omega arith) ∙ sym (inside_yes start (start + more) at (omega arith) (omega arith))
          ]
    ]

-- ---- the entries

pub entries_more : (i start more other further : ℕ) (counts location : List ℕ) (ok first second held : Bool) → ok ≡ entries_held i start more other further counts location → first ≡ inside start (start + more) i → second ≡ inside other (other + further) i → held ≡ entry_held (first || second) (get_or counts i 0) (get_or location i 0) → (ok && held) ≡ entries_held (i + 1) start more other further counts location
unfolding entries_held either_holds every_below
entries_more i start more other further counts location ok first second held e f g h = rw (add-one i, e, h, f, g)

-- ---- the record

-- a stack of one interval or two, with room for every index
pub record Few (n count : ℕ) (starts ends : List ℕ) : Type 0 where
  pub some : (1 ≤ count) × (count ≤ 2)
  pub within : count ≤ n
  pub starts_lent : n ≤ length starts
  pub ends_lent : n ≤ length ends

pub few_tested : (n count : ℕ) (starts ends : List ℕ) (room : Bool) → room ≡ lent_enough n starts ends → (room && ((leb 1 count && leb count 2) && leb count n)) ≡ true → Few n count starts ends
few_tested n count starts ends room e t =
    let b = both room ((leb 1 count && leb count 2) && leb count n) t in
    let c = both (leb 1 count && leb count 2) (leb count n) b.1 in
    let d = both (leb 1 count) (leb count 2) c.0 in
    let l = lent n starts ends (sym e ∙ b.0) in
    record {
      some = (leb-true 1 count d.0, leb-true count 2 d.1);
      within = leb-true count n c.1;
      starts_lent = l.0;
      ends_lent = l.1;
    }

module _ (s : Store) (counts location : List ℕ) (r : PointsReady s counts location) where
  bounds : InBounds s.dimensions s.shingle_size s.capacity
  bounds = in_bounds s.dimensions s.shingle_size s.capacity r.bounds

  pub table_most : table_length s ≤ 1024
  table_most = omega (arith, r.table_within, bounds.capacity_most)

  pub shingles : 0 < s.shingle_size
  shingles = omega (arith, bounds.shingle_least)

  pub counts_room : table_length s ≤ length counts
  counts_room = omega (arith, r.table_within, r.counts_lent)

  pub places_room : table_length s ≤ length location
  places_room = omega (arith, r.table_within, r.places_lent)

  pub row_most : (s.dimensions / s.shingle_size ≤ 64) × (s.dimensions ≤ 64)
  row_most = (
    omega (arith, div-le_self s.dimensions s.shingle_size, bounds.dims_most),
    bounds.dims_most,
  )
