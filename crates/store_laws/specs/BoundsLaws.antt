-- Document 01's bounds as named facts, and what they give of base.
use Rattle.std.specs.Prelude.{ℕ, ◌*◌, ◌/◌, ◌%◌, ◌≤◌, ◌<◌, true, ◌≡◌, leb}
use Rattle.std.specs.Int.{◌∣◌}
use Rattle.std.proofs.Math.Nat.{div-mul_cancel, dvd_of_mod-eq-zero, mod-eq-zero_of_dvd, dvd-mul_right}
use Rattle.std.proofs.Common.{arith, subst}
use borrow.Author.Tests.{eq-eqb, eqb-true, le-leb, leb-true}
use Rattle.terms.specs.Below.{both, and_make, positive}
use Rattle.placement.specs.Places.{Shaped}
use Rattle.store_definitions.specs.Bounds.{bounds_hold, start_allowed}

pub record InBounds (dims shingle capacity : ℕ) : Type 0 where
  pub dims_least : 1 ≤ dims
  pub dims_most : dims ≤ 64
  pub shingle_least : 1 ≤ shingle
  pub shingle_divides : shingle ∣ dims
  pub capacity_least : 1 ≤ capacity
  pub capacity_most : capacity ≤ 1024
  pub floats_most : capacity * dims ≤ 16384

module _ (dims shingle capacity : ℕ) where
  pub in_bounds : bounds_hold dims shingle capacity ≡ true → InBounds dims shingle capacity
  unfolding bounds_hold
  in_bounds e =
      let p1 = both _ _ e in
      let p2 = both _ _ p1.1 in
      let p3 = both _ _ p2.1 in
      let p4 = both _ _ p3.1 in
      let p5 = both _ _ p4.1 in
      let p6 = both _ _ p5.1 in
      record {
        dims_least = leb-true 1 dims p1.0;
        dims_most = leb-true dims 64 p2.0;
        shingle_least = leb-true 1 shingle p3.0;
        shingle_divides = dvd_of_mod-eq-zero shingle (eqb-true (dims % shingle) 0 p4.0);
        capacity_least = leb-true 1 capacity p5.0;
        capacity_most = leb-true capacity 1024 p6.0;
        floats_most = leb-true (capacity * dims) 16384 p6.1;
      }

  pub in_bounds_make : InBounds dims shingle capacity → bounds_hold dims shingle capacity ≡ true
  unfolding bounds_hold
  in_bounds_make b =
      and_make _ _ (le-leb 1 dims b.dims_least)
      (and_make _ _ (le-leb dims 64 b.dims_most)
      (and_make _ _ (le-leb 1 shingle b.shingle_least)
      (and_make _ _ (eq-eqb (dims % shingle) 0 (mod-eq-zero_of_dvd shingle b.shingle_divides))
      (and_make _ _ (le-leb 1 capacity b.capacity_least)
      (and_make _ _ (le-leb capacity 1024 b.capacity_most) (le-leb (capacity * dims) 16384 b.floats_most))))))

  module _ (b : InBounds dims shingle capacity) where
    -- dimensions are base times shingle size
    pub dims_product : dims / shingle * shingle ≡ dims
    dims_product = div-mul_cancel shingle b.shingle_divides

    pub base_some : 0 < dims / shingle
    base_some = positive (dims / shingle) (λ z. omega (arith, rw z at dims_product, b.dims_least))

    pub base_divides : dims / shingle ∣ dims
    base_divides = subst (λ (n : ℕ). dims / shingle ∣ n) dims_product (dvd-mul_right (dims / shingle) shingle)

    pub shaped : Shaped dims (dims / shingle)
    shaped = record { some_base = base_some; some = b.dims_least; whole = base_divides }

pub start_allowed_lem : (start capacity : ℕ) → start_allowed start capacity ≡ true → (1 ≤ start) × (start ≤ capacity)
unfolding start_allowed
start_allowed_lem start capacity e =
    let p = both (leb 1 start) (leb start capacity) e in (leb-true 1 start p.0, leb-true start capacity p.1)

pub start_allowed_make : (start capacity : ℕ) → 1 ≤ start → start ≤ capacity → start_allowed start capacity ≡ true
unfolding start_allowed
start_allowed_make start capacity h g = and_make _ _ (le-leb 1 start h) (le-leb start capacity g)
