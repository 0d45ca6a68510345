-- A manager's well-formedness as a record of named facts, for every capacity, stack and number of entries in use.
use Rattle.std.specs.Prelude.{ℕ, ◌≤◌, ◌<◌, List, true, ◌≡◌, length, leb}
use Rattle.std.proofs.Common.{arith, le-leb, leb-true}
use Rattle.terms.specs.Below.{both, and_make, every_at, every_make, count_le}
use Rattle.interval_store_manager.specs.declared.IntervalStoreManager.{IntervalStoreManager}
use Rattle.interval_store_manager.specs.Intervals.{holders, is_free, free_number, none_shared}
use Rattle.interval_store_manager.specs.WellFormed.{capacity_allowed, lent_enough, well_formed}
use Rattle.interval_store_manager.specs.StackLaws.{Bounded, bounded, bounded_make, entries_le_sizes, free_number_lem}

pub record Sound (capacity n : ℕ) (starts ends : List ℕ) : Type 0 where
  pub least : 1 ≤ capacity
  pub most : capacity ≤ 1024
  pub starts_lent : capacity ≤ length starts
  pub ends_lent : capacity ≤ length ends
  pub starts_used : n ≤ length starts
  pub ends_used : n ≤ length ends
  pub bounds : Bounded capacity n starts ends
  pub single : (i : ℕ) → i < capacity → holders n starts ends i ≤ 1

pub lent : (n : ℕ) (ss es : List ℕ) → lent_enough n ss es ≡ true → (n ≤ length ss) × (n ≤ length es)
unfolding lent_enough
lent n ss es e =
    let p = both (leb n (length ss)) (leb n (length es)) e in (leb-true n (length ss) p.0, leb-true n (length es) p.1)

pub lent_make : (n : ℕ) (ss es : List ℕ) → n ≤ length ss → n ≤ length es → lent_enough n ss es ≡ true
unfolding lent_enough
lent_make n ss es h g = and_make _ _ (le-leb n (length ss) h) (le-leb n (length es) g)

pub allowed : (c : ℕ) → capacity_allowed c ≡ true → (1 ≤ c) × (c ≤ 1024)
unfolding capacity_allowed
allowed c e = let p = both (leb 1 c) (leb c 1024) e in (leb-true 1 c p.0, leb-true c 1024 p.1)

pub allowed_make : (c : ℕ) → 1 ≤ c → c ≤ 1024 → capacity_allowed c ≡ true
unfolding capacity_allowed
allowed_make c h g = and_make _ _ (le-leb 1 c h) (le-leb c 1024 g)

pub sound : (m : IntervalStoreManager) (ss es : List ℕ) → well_formed m ss es ≡ true → Sound m.capacity m.last_in_use ss es
unfolding well_formed none_shared
sound m ss es e =
    let c = m.capacity in
    let n = m.last_in_use in
    let p = both _ _ e in
    let q = both _ _ p.1 in
    let r = both _ _ q.1 in
    let t = both _ _ r.1 in
    record {
      least = (allowed c p.0).0;
      most = (allowed c p.0).1;
      starts_lent = (lent c ss es q.0).0;
      ends_lent = (lent c ss es q.0).1;
      starts_used = (lent n ss es r.0).0;
      ends_used = (lent n ss es r.0).1;
      bounds = bounded c n ss es t.0;
      single = λ i l. leb-true (holders n ss es i) 1 (every_at c (λ k. leb (holders n ss es k) 1) t.1 i l);
    }

pub sound_make : (m : IntervalStoreManager) (ss es : List ℕ) → Sound m.capacity m.last_in_use ss es → well_formed m ss es ≡ true
unfolding well_formed none_shared
sound_make m ss es s =
    and_make _ _ (allowed_make m.capacity s.least s.most)
    (and_make _ _ (lent_make m.capacity ss es s.starts_lent s.ends_lent)
    (and_make _ _ (lent_make m.last_in_use ss es s.starts_used s.ends_used)
    (and_make _ _ (bounded_make m.capacity m.last_in_use ss es s.bounds)
    (every_make m.capacity (λ k. leb (holders m.last_in_use ss es k) 1)
    (λ i l. le-leb (holders m.last_in_use ss es i) 1 (s.single i l))))))

-- the entries in use are never more than the free indices, which are never more than the capacity
pub entries_le_free : {c n : ℕ} {ss es : List ℕ} → Sound c n ss es → n ≤ free_number c n ss es
entries_le_free {c} {n} {ss} {es} s =
    rw (free_number_lem c n ss es s.single) (entries_le_sizes c n ss es s.bounds)

pub free_le_capacity : (c n : ℕ) (ss es : List ℕ) → free_number c n ss es ≤ c
unfolding free_number
free_le_capacity c n ss es = count_le c (is_free n ss es)

pub entries_le_capacity : {c n : ℕ} {ss es : List ℕ} → Sound c n ss es → n ≤ c
entries_le_capacity {c} {n} {ss} {es} s = omega (arith, entries_le_free s, free_le_capacity c n ss es)

-- another stack in the same slices
pub restacked : {c n : ℕ} {ss es : List ℕ} (n' : ℕ) (ss' es' : List ℕ) → Sound c n ss es → length ss' ≡ length ss → length es' ≡ length es → n' ≤ c → Bounded c n' ss' es' → ((i : ℕ) → i < c → holders n' ss' es' i ≤ 1) → Sound c n' ss' es'
restacked n' ss' es' s d e h b f =
    record {
      least = s.least;
      most = s.most;
      starts_lent = omega (arith, s.starts_lent);
      ends_lent = omega (arith, s.ends_lent);
      starts_used = omega (arith, s.starts_lent);
      ends_used = omega (arith, s.ends_lent);
      bounds = b;
      single = f;
    }
