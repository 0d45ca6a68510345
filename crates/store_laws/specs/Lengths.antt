-- A table of counts keeps the lengths of its lists, whatever its manager does.
use Prim.Native.Nat.{ℕ, ◌+◌, ◌-◌}
use Rattle.std.proofs.Math.Bool.{Bool}
use Rattle.std.specs.Prelude.{cond, ◌&&◌, ◌≡◌, get_or}
use mathlib.Core.List.{List}
use Rattle.std.proofs.Math.Path.{refl}
use Rattle.std.proofs.Math.ListN.{length, set, length-set}
use Rattle.std.proofs.Math.Dec.{ltb, eqb}
use Rattle.interval_store_manager.specs.declared.IntervalStoreManager.{IntervalStoreManager}
use Rattle.interval_store_manager.specs.Answers.{done, Outcome, outcome}
use Rattle.interval_store_manager.specs.Calls.{manager, gives, pushed, changed, taken, released}
use Rattle.labels.specs.Counted.{Counted, counted, count_at, next_index, index_taken, raised, lowered}
use Rattle.store_laws.specs.Cases.{either}

-- the stack after a call of the manager
pub record SameStack (starts ends : List ℕ) (o : Outcome) : Type 0 where
  pub starts_same : length o.starts ≡ length starts
  pub ends_same : length o.ends ≡ length ends

module _ (m : IntervalStoreManager) (ss es : List ℕ) where
  abbrev top : ℕ
  top = m.last_in_use - 1

  abbrev start : ℕ
  start = get_or ss top 0

  pub taken_lengths : SameStack ss es (taken m ss es)
  unfolding taken
  taken_lengths =
      either (SameStack ss es) (eqb start (get_or es top 0)) (gives start (manager m.capacity top) ss es)
      (gives start m (set ss top (start + 1)) es)
      (record { starts_same = refl; ends_same = refl })
      (record { starts_same = length-set ss top (start + 1); ends_same = refl })

  pushed_lengths : (c a b : ℕ) → SameStack ss es (pushed done c m.last_in_use ss es a b)
  unfolding pushed
  pushed_lengths c a b = record { starts_same = length-set ss m.last_in_use a; ends_same = length-set es m.last_in_use b }

  pub released_lengths : (i : ℕ) → SameStack ss es (released m ss es i)
  unfolding released
  released_lengths i =
      let apart : Outcome = pushed done m.capacity m.last_in_use ss es i i in
      let end : Outcome = outcome done m ss (set es top i) in
      let b : Bool = ltb 0 m.last_in_use && eqb (get_or es top 0 + 1) i in
      either (SameStack ss es) (ltb 0 m.last_in_use && eqb start (i + 1)) (outcome done m (set ss top i) es) (cond b end apart)
      (record { starts_same = length-set ss top i; ends_same = refl })
      (either (SameStack ss es) b end apart (record { starts_same = refl; ends_same = length-set es top i })
      (pushed_lengths m.capacity i i))

  pub changed_lengths : (d : ℕ) → SameStack ss es (changed m ss es d)
  unfolding changed
  changed_lengths d =
      either (SameStack ss es) (ltb m.capacity d) (pushed done d m.last_in_use ss es m.capacity (d - 1)) (outcome done m ss es)
      (pushed_lengths d m.capacity (d - 1))
      (record { starts_same = refl; ends_same = refl })

pub record SameLengths (before after : Counted) : Type 0 where
  pub counts_same : length after.counts ≡ length before.counts
  pub starts_same : length after.starts ≡ length before.starts
  pub ends_same : length after.ends ≡ length before.ends

module _ (t : Counted) where
  pub index_taken_lengths : SameLengths t (index_taken t)
  unfolding index_taken
  index_taken_lengths =
      let s = taken_lengths t.manager t.starts t.ends in
      record { counts_same = length-set t.counts (next_index t) 1; starts_same = s.starts_same; ends_same = s.ends_same }

  module _ (i : ℕ) where
    pub raised_lengths : SameLengths t (raised t i)
    unfolding raised
    raised_lengths = record { counts_same = length-set t.counts i (count_at t i + 1); starts_same = refl; ends_same = refl }

    pub lowered_lengths : SameLengths t (lowered t i)
    unfolding lowered
    lowered_lengths =
        let counts : List ℕ = set t.counts i (count_at t i - 1) in
        let o : Outcome = released t.manager t.starts t.ends i in
        let s = released_lengths t.manager t.starts t.ends i in
        let e : length counts ≡ length t.counts = length-set t.counts i (count_at t i - 1) in
        either (SameLengths t) (eqb (count_at t i) 1) (counted o.manager counts o.starts o.ends)
        (counted t.manager counts t.starts t.ends)
        (record { counts_same = e; starts_same = s.starts_same; ends_same = s.ends_same })
        (record { counts_same = e; starts_same = refl; ends_same = refl })
