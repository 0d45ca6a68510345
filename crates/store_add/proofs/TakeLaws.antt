-- What taking a label and an index leaves.
use Prim.Native.Nat.{ℕ, ◌-◌, ◌≤◌, ◌<◌}
use native.Mathlib.Omega.{arith}
use mathlib.Core.Bool.{true, false}
use mathlib.Core.List.{List, ◌++◌}
use mathlib.Core.Path.{◌≡◌, sym, ◌∙◌, ap, ap₂}
use lib.ListN.{length, take, drop, set, replicate}
use borrow.Author.Tests.{eq-eqb, ne_eqb, le-leb}
use Rattle.terms.specs.Below.{and_make}
use Rattle.interval_store_manager.specs.declared.IntervalStoreManager.{IntervalStoreManager}
use Rattle.interval_store_manager.specs.Answers.{done, given, Outcome, outcome}
use Rattle.interval_store_manager.specs.Calls.{changed, taken}
use Rattle.interval_store_manager.specs.WellFormed.{lent_enough, well_formed}
use Rattle.placement.specs.Growth.{grown}
use Rattle.placement.specs.InPlace.{filled}
use Rattle.labels.specs.Counted.{Counted, counted, index_taken}
use Rattle.labels.specs.CountedLaws.{next_within, index_given_lem, index_figure, index_taken_lem}
use Rattle.labels.specs.Decisions.{none}
use Rattle.labels.specs.Labels.{Labels, LabelTaken, label_taken}
use Rattle.store_definitions.specs.declared.Store.{Store}
use Rattle.store_definitions.specs.Adding.{entries_filled}
use Rattle.store_add.specs.Pieces.{label_for, grown_table, grown_places, IndexGiven, index_given, index_placed, index_for}
use Rattle.store_add.specs.Requires.{Growable, Takeable, IndexReady}
use Rattle.store_add.proofs.RoomLaws.{fill_is}

module _ (s : Store) (l : Labels) (code : ℕ) where
  pub label_on : (x : LabelTaken) → s.store_labels ≡ true → x ≡ label_taken s.classes s.capacity l code → x ≡ label_for s l code
  unfolding label_for
  label_on x on h = rw on h

  pub label_off : s.store_labels ≡ false → record { label = none; after = l } ≡ label_for s l code
  unfolding label_for
  label_off off = rw off

module _ (capacity : ℕ) (t : Counted) (location : List ℕ) where
  abbrev n : ℕ
  n = t.manager.capacity

  pub change_asks : Growable capacity t location → (new : ℕ) → new ≤ capacity → (well_formed t.manager t.starts t.ends ≡ true) × ((new ≤ 1024) × (lent_enough new t.starts t.ends ≡ true))
  unfolding lent_enough
  change_asks g new h =
      (g.well.managed, (omega (arith, g.capacity_most), and_make _ _ (le-leb new (length t.starts) (omega (arith, g.starts_lent))) (le-leb new (length t.ends) (omega (arith, g.ends_lent)))))

  pub grown_is : t.manager.last_in_use ≡ 0 → (new : ℕ) → new ≡ grown n 1 capacity → n ≤ new → (counts location' : List ℕ) → counts ≡ filled 0 n (new - n) t.counts → location' ≡ filled 65535 n (new - n) location → (r : IntervalStoreManager) (ss es : List ℕ) → outcome done r ss es ≡ changed t.manager t.starts t.ends new → (counted r counts ss es ≡ grown_table capacity t) × (location' ≡ grown_places capacity t location)
  unfolding grown_table grown_places entries_filled
  grown_is e new q m counts location' f g r ss es h = (
    rw (eq-eqb t.manager.last_in_use 0 e, sym q, f ∙ fill_is 0 n new t.counts m)
        (ap (λ (o : Outcome). counted o.manager (take n t.counts ++ replicate (new - n) 0 ++ drop new t.counts) o.starts o.ends) h),
    rw (eq-eqb t.manager.last_in_use 0 e, sym q) (g ∙ fill_is 65535 n new location m),
  )

  pub grown_not : (t.manager.last_in_use ≡ 0 → ⊥) → (t ≡ grown_table capacity t) × (location ≡ grown_places capacity t location)
  unfolding grown_table grown_places
  grown_not d = (rw (ne_eqb t.manager.last_in_use 0 d), rw (ne_eqb t.manager.last_in_use 0 d))

  pub take_ready : (place : ℕ) → (live : ℕ) → IndexReady capacity t location place live → (u : Counted) → u ≡ grown_table capacity t → (location' : List ℕ) → length location' ≡ length location → Takeable u location' (u.manager.capacity - live) × (place ≤ 65535)
  take_ready place live r u e location' h = (
    record {
      well = rw e r.well;
      some = rw e r.some;
      places_lent = rw e (omega (arith, r.within, r.growable.places_lent));
      figure = rw e (sym r.figure);
    },
    r.small,
  )

  pub index_is : (place : ℕ) (u : Counted) (location' : List ℕ) (x : IndexGiven) → u ≡ grown_table capacity t → location' ≡ grown_places capacity t location → x ≡ index_placed u location' place → x ≡ index_for capacity t location place
  unfolding index_for
  index_is place u location' x e f h = h ∙ ap₂ (λ (v : Counted) (m : List ℕ). index_placed v m place) e f

module _ (t : Counted) (location : List ℕ) (i free : ℕ) (r : IntervalStoreManager) (ss es : List ℕ) (h : outcome (given i free) r ss es ≡ taken t.manager t.starts t.ends) where
  pub index_below : (before : ℕ) → Takeable t location before → i < t.manager.capacity
  index_below before w = rw (index_given_lem t i free r ss es h) (next_within t.manager.capacity t w.well w.some)

  pub placed_is : (place : ℕ) → index_given i free (counted r (set t.counts i 1) ss es) (set location i place) ≡ index_placed t location place
  unfolding index_placed
  placed_is place =
      ap (λ (u : Counted). index_given i free u (set location i place)) (index_taken_lem t i free r ss es h)
      ∙ ap₂ (λ (k n : ℕ). index_given k n (index_taken t) (set location k place)) (index_given_lem t i free r ss es h) (index_figure t i free r ss es h)
