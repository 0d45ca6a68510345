-- The decision of an opening a clause at a time, and the points' tables where each run is filled in place.
use Prim.Native.Nat.{ℕ, ◌+◌, ◌*◌, ◌-◌, ◌≤◌, ◌<◌}
use Rattle.std.proofs.Common.{le_of_eq, arith, ◌∙◌, take_all}
use Rattle.std.specs.Prelude.{List, ◌++◌, Bool, ◌≡◌, drop, set, replicate}
use Rattle.std.proofs.Math.Bool.{true, false}
use Rattle.std.proofs.Math.Path.{ap}
use Rattle.std.proofs.lemmas.List.{length-replicate}
use borrow.Author.Tests.{le-leb, lt-leb}
use Rattle.interval_store_manager.specs.Calls.{go, refuse}
use Rattle.placement.specs.InPlace.{filled}
use Rattle.store_definitions.specs.declared.Shape.{Shape}
use Rattle.store_definitions.specs.Memory.{Memory}
use Rattle.store_definitions.specs.Bounds.{bounds_hold, start_allowed, lent_enough}
use Rattle.store_definitions.specs.Opening.{filled_first, open_judged}
use Rattle.store_rows.specs.Openings.{Points, points, points_opened, points_opened_lem}

-- a run filled from the first entry on
pub filled_first_lem : {X : Type 0} (x : X) (n : ℕ) (xs : List X) → filled x 0 n xs ≡ filled_first n x xs
filled_first_lem {X} x n xs =
    ap (λ (l : List X). l ++ drop (0 + n) xs) (take_all n (replicate n x) (le_of_eq (length-replicate n x)))
    ∙ ap (λ (k : ℕ). replicate n x ++ drop k xs) (let e : 0 + n ≡ n = omega arith in e)

pub filled_from_first : {X : Type 0} (x : X) (n : ℕ) (xs : List X) → filled x 0 (n - 0) xs ≡ filled_first n x xs
filled_from_first {X} x n xs = ap (λ (k : ℕ). filled x 0 k xs) (let e : n - 0 ≡ n = omega arith in e) ∙ filled_first_lem x n xs

pub points_filled : (h : Shape) (p : Points) (store window counts location starts ends : List ℕ) → store ≡ filled 0 0 (h.initial_capacity * h.dimensions - 0) p.store → window ≡ filled 0 0 (h.dimensions - 0) p.last_known_shingle → counts ≡ filled 0 0 (h.initial_capacity - 0) p.reference_count → location ≡ filled 65535 0 (h.initial_capacity - 0) p.location → (starts ≡ set p.index_starts 0 0) × (ends ≡ set p.index_ends 0 (h.initial_capacity - 1)) → points store window counts location starts ends ≡ points_opened h p
points_filled h p store window counts location starts ends a b d e f =
    points_opened_lem h p store window counts location starts ends
    (a ∙ filled_from_first 0 (h.initial_capacity * h.dimensions) p.store)
    (b ∙ filled_from_first 0 h.dimensions p.last_known_shingle)
    (d ∙ filled_from_first 0 h.initial_capacity p.reference_count)
    (e ∙ filled_from_first 65535 h.initial_capacity p.location)
    f

module _ (h : Shape) (m : Memory ℕ) where
  abbrev c : ℕ
  c = h.capacity

  module _ (table : Bool) where
    pub bounds_refused : bounds_hold h.dimensions h.shingle_size c ≡ false → refuse 2 ≡ open_judged h table m
    bounds_refused e = rw e

    module _ (e : bounds_hold h.dimensions h.shingle_size c ≡ true) where
      pub start_none : h.initial_capacity < 1 → refuse 2 ≡ open_judged h table m
      unfolding start_allowed
      start_none l = rw (e, lt-leb 1 h.initial_capacity l)

      pub start_above : 1 ≤ h.initial_capacity → c < h.initial_capacity → refuse 2 ≡ open_judged h table m
      unfolding start_allowed
      start_above l u = rw (e, le-leb 1 h.initial_capacity l, lt-leb h.initial_capacity c u)

      module _ (l : 1 ≤ h.initial_capacity) (u : h.initial_capacity ≤ c) where
        pub short_refused : lent_enough h.dimensions c h.store_labels m ≡ false → refuse 1 ≡ open_judged h table m
        unfolding start_allowed
        short_refused s = rw (e, le-leb 1 h.initial_capacity l, le-leb h.initial_capacity c u, s)

        module _ (s : lent_enough h.dimensions c h.store_labels m ≡ true) where
          pub table_goes : table ≡ true → go ≡ open_judged h table m
          unfolding start_allowed
          table_goes t = rw (e, le-leb 1 h.initial_capacity l, le-leb h.initial_capacity c u, s, t)

          pub no_table : table ≡ false → refuse 17 ≡ open_judged h table m
          unfolding start_allowed
          no_table t = rw (e, le-leb 1 h.initial_capacity l, le-leb h.initial_capacity c u, s, t)
