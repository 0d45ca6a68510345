-- Laws of a table of counts with its manager, for every capacity: each operation keeps it well-formed, and what it does to
-- the counts.
use Rattle.std.specs.Prelude.{ℕ, ◌+◌, ◌-◌, ◌≤◌, ◌<◌, List, Bool, true, false, ◌&&◌, ◌||◌, ◌≡◌, refl, length, get_or, set, leb}
use Rattle.std.proofs.Common.{arith, ◌∙◌, ap, length-set, eq-eqb, ne_eqb, eqb-true, le-leb, leb-true}
use Rattle.std.proofs.Math.Decide.{dec_lt, ℕ_discrete}
use Rattle.std.proofs.Math.Bool.{not, and-true, and-false, or-true, or-false}
use Rattle.std.specs.Bool.{beq}
use Rattle.std.proofs.Math.Path.{sym}
use Rattle.std.proofs.Math.Dec.{eqb}
use Rattle.terms.specs.Below.{both, and_make, every_at, every_make}
use Rattle.terms.specs.Entries.{stored}
use Rattle.interval_store_manager.specs.declared.IntervalStoreManager.{IntervalStoreManager}
use Rattle.interval_store_manager.specs.WellFormed.{well_formed}
use Rattle.interval_store_manager.specs.Sound.{sound}
use Rattle.interval_store_manager.specs.Answers.{Outcome, outcome, given, done}
use Rattle.interval_store_manager.specs.Calls.{taken, released}
use Rattle.interval_store_manager.specs.Intervals.{at_top}
use Rattle.interval_store_manager.specs.GetLaws.{next_below, get_keeps, get_free, get_was_free, took}
use Rattle.interval_store_manager.specs.ReleaseLaws.{gave, release_keeps, release_free}
use Rattle.interval_store_manager.specs.FreeLaws.{not_free_held, empty_stack}
use Rattle.labels.specs.Counted.{Counted, counted, count_at, free, free_indices, next_index, managed, free_uncounted, counts_fit, index_taken, raised, lowered, released_at_one}

pub beq_same : (a b : Bool) → beq a b ≡ true → a ≡ b
beq_same true true e = refl
beq_same false false e = refl
beq_same true false e = absurd (let z : ◌≡◌ {A = ℕ} 0 1 = cc in omega arith)
beq_same false true e = absurd (let z : ◌≡◌ {A = ℕ} 0 1 = cc in omega arith)

pub same_beq : (a b : Bool) → a ≡ b → beq a b ≡ true
same_beq true b e = rw (sym e)
same_beq false b e = rw (sym e)

-- well-formedness as named facts
pub record WellCounted (capacity : ℕ) (t : Counted) : Type 0 where
  pub managed : well_formed t.manager t.starts t.ends ≡ true
  pub whole : t.manager.capacity ≡ capacity
  pub lent : capacity ≤ length t.counts
  pub free_is : (i : ℕ) → i < capacity → free t i ≡ eqb (count_at t i) 0

pub well_counted : (c : ℕ) (t : Counted) → managed c t ≡ true → c ≤ length t.counts → free_uncounted c t ≡ true → WellCounted c t
unfolding managed free_uncounted
well_counted c t e l f =
    let p = both _ _ e in
    record {
      managed = p.0;
      whole = eqb-true t.manager.capacity c p.1;
      lent = l;
      free_is = λ i m.
          beq_same (free t i) (eqb (count_at t i) 0) (every_at c (λ k. beq (free t k) (eqb (count_at t k) 0)) f i m);
    }

pub managed_make : (c : ℕ) (t : Counted) → WellCounted c t → managed c t ≡ true
unfolding managed
managed_make c t w = and_make _ _ w.managed (eq-eqb t.manager.capacity c w.whole)

pub free_make : (c : ℕ) (t : Counted) → WellCounted c t → free_uncounted c t ≡ true
unfolding free_uncounted
free_make c t w =
    every_make c (λ k. beq (free t k) (eqb (count_at t k) 0))
    (λ i l. same_beq (free t i) (eqb (count_at t i) 0) (w.free_is i l))

pub counts_fit_lem : (c : ℕ) (counts : List ℕ) → counts_fit c counts ≡ true → (i : ℕ) → i < c → get_or counts i 0 ≤ 65535
unfolding counts_fit
counts_fit_lem c counts e i m = leb-true (get_or counts i 0) 65535 (every_at c (λ k. leb (get_or counts k 0) 65535) e i m)

pub counts_fit_make : (c : ℕ) (counts : List ℕ) → ((i : ℕ) → i < c → get_or counts i 0 ≤ 65535) → counts_fit c counts ≡ true
unfolding counts_fit
counts_fit_make c counts f = every_make c (λ k. leb (get_or counts k 0) 65535) (λ i m. le-leb (get_or counts i 0) 65535 (f i m))

module _ (c : ℕ) (t : Counted) (w : WellCounted c t) where
  abbrev m : IntervalStoreManager
  m = t.manager

  pub capacity_most : c ≤ 1024
  capacity_most = omega (arith, w.whole, (sound m t.starts t.ends w.managed).most)

  -- an index in use is not free
  pub used_not_free : (i : ℕ) → i < c → 0 < count_at t i → free t i ≡ false
  used_not_free i l u = w.free_is i l ∙ ne_eqb (count_at t i) 0 (λ e. omega arith)

  -- an index with count 0 leaves an interval on the stack
  pub unused_stacked : (i : ℕ) → i < c → count_at t i ≡ 0 → 0 < m.last_in_use
  unused_stacked i l z =
      elim (dec_lt 0 m.last_in_use) [
        | yes h ↦ h
        | no g ↦
            let n : m.last_in_use ≡ 0 = omega arith in
            let e : true ≡ false =
            sym (w.free_is i l ∙ eq-eqb (count_at t i) 0 z) ∙ (rw n (empty_stack t.starts t.ends i)) in
            absurd (let q : ◌≡◌ {A = ℕ} 0 1 = cc in omega arith)
      ]

  -- the index that get gives is below the capacity, and its count is 0
  module _ (h : 0 < m.last_in_use) where
    pub next_within : next_index t < c
    next_within = rw (sym w.whole) (next_below m.capacity m.last_in_use t.starts t.ends (sound m t.starts t.ends w.managed) h)

    pub next_unused : count_at t (next_index t) ≡ 0
    next_unused =
        eqb-true (count_at t (next_index t)) 0
        (sym (w.free_is (next_index t) next_within) ∙ get_was_free m t.starts t.ends w.managed h)

    pub take_keeps : WellCounted c (index_taken t)
    unfolding index_taken
    take_keeps =
        record {
          managed = get_keeps m t.starts t.ends w.managed h;
          whole = (took m.capacity m.last_in_use t.starts t.ends (sound m t.starts t.ends w.managed) h).capacity ∙ w.whole;
          lent = rw (length-set t.counts (next_index t) 1) w.lent;
          free_is = λ k l.
              get_free m t.starts t.ends w.managed h k (rw w.whole l)
              ∙ stored (λ x. (free t k && not (eqb k (next_index t))) ≡ eqb x 0) t.counts (next_index t) 1 k (omega (arith, next_within, w.lent))
              (λ e. rw (eq-eqb k (next_index t) e) (and-false (free t k)))
              (λ d. rw (ne_eqb k (next_index t) d) (and-true (free t k) ∙ w.free_is k l));
        }

  module _ (i : ℕ) (l : i < c) (u : 0 < count_at t i) where
    pub raise_keeps : WellCounted c (raised t i)
    unfolding raised
    raise_keeps =
        record {
          managed = w.managed;
          whole = w.whole;
          lent = rw (length-set t.counts i (count_at t i + 1)) w.lent;
          free_is = λ k j.
              stored (λ x. free t k ≡ eqb x 0) t.counts i (count_at t i + 1) k (omega (arith, w.lent))
              (λ e. rw e (used_not_free i l u ∙ sym (ne_eqb (count_at t i + 1) 0 (λ z. omega arith))))
              (λ d. w.free_is k j);
        }

    -- with one count less, and still above 0
    kept_used : (count_at t i ≡ 1 → ⊥) → WellCounted c (counted m (set t.counts i (count_at t i - 1)) t.starts t.ends)
    kept_used d =
        record {
          managed = w.managed;
          whole = w.whole;
          lent = rw (length-set t.counts i (count_at t i - 1)) w.lent;
          free_is = λ k j.
              stored (λ x. free t k ≡ eqb x 0) t.counts i (count_at t i - 1) k (omega (arith, w.lent))
              (λ e. rw e (used_not_free i l u ∙ sym (ne_eqb (count_at t i - 1) 0 (λ z. d (omega arith)))))
              (λ f. w.free_is k j);
        }

    abbrev o : Outcome
    o = released m t.starts t.ends i

    within : i < m.capacity
    within = rw w.whole l

    now_free : count_at t i ≡ 1 → WellCounted c (counted o.manager (set t.counts i (count_at t i - 1)) o.starts o.ends)
    now_free e =
        let f = used_not_free i l u in
        let z : count_at t i - 1 ≡ 0 = omega arith in
        record {
          managed = release_keeps m t.starts t.ends i w.managed within f;
          whole =
              (gave m.capacity m.last_in_use t.starts t.ends i (sound m t.starts t.ends w.managed) within
              (not_free_held m.last_in_use t.starts t.ends i f)).capacity
              ∙ w.whole;
          lent = rw (length-set t.counts i (count_at t i - 1)) w.lent;
          free_is = λ k j.
              release_free m t.starts t.ends i w.managed within f k
              ∙ stored (λ x. (free t k || eqb k i) ≡ eqb x 0) t.counts i (count_at t i - 1) k (omega (arith, w.lent))
              (λ q. rw (eq-eqb k i q, z) (or-true (free t k)))
              (λ d. rw (ne_eqb k i d) (or-false (free t k) ∙ w.free_is k j));
        }

    pub lower_keeps : WellCounted c (lowered t i)
    unfolding lowered
    lower_keeps =
        elim (ℕ_discrete (count_at t i) 1) [
          | yes e ↦ rw (eq-eqb (count_at t i) 1 e) (now_free e)
          | no d ↦ rw (ne_eqb (count_at t i) 1 d) (kept_used d)
        ]

-- what becomes of the counts
pub lowered_counts : (t : Counted) (i : ℕ) → (lowered t i).counts ≡ set t.counts i (count_at t i - 1)
unfolding lowered
lowered_counts t i =
    elim (ℕ_discrete (count_at t i) 1) [
      | yes e ↦ rw (eq-eqb (count_at t i) 1 e)
      | no d ↦ rw (ne_eqb (count_at t i) 1 d)
    ]

-- the two forms of one count less
pub lowered_released : (t : Counted) (i : ℕ) (r : IntervalStoreManager) (ss es : List ℕ) → count_at t i ≡ 1 → outcome done r ss es ≡ released t.manager t.starts t.ends i → counted r (set t.counts i (count_at t i - 1)) ss es ≡ lowered t i
unfolding lowered
lowered_released t i r ss es e f =
    rw (eq-eqb (count_at t i) 1 e) (ap (λ (o : Outcome). counted o.manager (set t.counts i (count_at t i - 1)) o.starts o.ends) f)

pub lowered_kept : (t : Counted) (i : ℕ) → (count_at t i ≡ 1 → ⊥) → counted t.manager (set t.counts i (count_at t i - 1)) t.starts t.ends ≡ lowered t i
unfolding lowered
lowered_kept t i d = rw (ne_eqb (count_at t i) 1 d)

-- and both: the count lowered, and the index released at 1
pub lowered_at_one : (t : Counted) (i : ℕ) (r : IntervalStoreManager) (ss es : List ℕ) → outcome done r ss es ≡ released_at_one t.manager t.starts t.ends i (count_at t i) → counted r (set t.counts i (count_at t i - 1)) ss es ≡ lowered t i
unfolding released_at_one
lowered_at_one t i r ss es f =
    elim (ℕ_discrete (count_at t i) 1) [
      | yes e ↦ lowered_released t i r ss es e (rw (eq-eqb (count_at t i) 1 e) at f)
      | no d ↦
          ap (λ (o : Outcome). counted o.manager (set t.counts i (count_at t i - 1)) o.starts o.ends) (rw (ne_eqb (count_at t i) 1 d) at f)
          ∙ lowered_kept t i d
    ]

-- the index that the manager's get gives, with how many remain free in the table after it
given_next : (t : Counted) → (taken t.manager t.starts t.ends).answer ≡ given (next_index t) (free_indices (index_taken t))
unfolding taken index_taken
given_next t =
    let end = at_top t.manager.last_in_use t.ends in
    elim (ℕ_discrete (next_index t) end) [ yes e ↦ rw (eq-eqb (next_index t) end e) | no d ↦ rw (ne_eqb (next_index t) end d) ]

module _ (t : Counted) (i free : ℕ) (r : IntervalStoreManager) (ss es : List ℕ) (e : outcome (given i free) r ss es ≡ taken t.manager t.starts t.ends) where
  same_answer : given i free ≡ given (next_index t) (free_indices (index_taken t))
  same_answer = ap (λ (o : Outcome). o.answer) e ∙ given_next t

  pub index_given_lem : i ≡ next_index t
  index_given_lem = let f = same_answer in cc

  pub index_figure : free ≡ free_indices (index_taken t)
  index_figure = let f = same_answer in cc

  -- and the table after it
  pub index_taken_lem : counted r (set t.counts i 1) ss es ≡ index_taken t
  unfolding index_taken
  index_taken_lem =
      rw index_given_lem (ap (λ (o : Outcome). counted o.manager (set t.counts (next_index t) 1) o.starts o.ends) e)
