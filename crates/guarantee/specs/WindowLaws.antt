-- The window after an accepted add: it ends with the points of the last accepted adds.
use Prim.Native.Nat.{ℕ, zero, suc, ◌+◌, ◌*◌, ◌-◌, ◌≤◌}
use Rattle.std.proofs.Math.Nat.{suc-mul, le_of_dvd}
use Rattle.std.proofs.Common.{mul-le-mul_right, mul_comm, subst, ◌∙◌, length-drop, length-take-le, take_at, drop-drop}
use native.Mathlib.Omega.{arith}
use Rattle.std.specs.Prelude.{Bool, true, ◌≡◌, length, take}
use mathlib.Core.List.{List, [], ◌∷◌, ◌++◌}
use Rattle.std.proofs.Math.Path.{ap}
use Rattle.std.proofs.Math.ListN.{drop}
use Rattle.std.proofs.Math.Seq.{drop-length, drop-append-le}
use Rattle.placement.specs.Pieces.{length_window}
use Rattle.placement.specs.Row.{moved_window}
use Rattle.store_definitions.specs.declared.Shape.{Shape}
use Rattle.store_definitions.specs.Memory.{PointStore}
use Rattle.store_definitions.specs.Parts.{base_of}
use Rattle.store_definitions.specs.Rows.{copy_of}
use Rattle.store_definitions.specs.Adding.{window_after, sequenced}
use Rattle.store_laws.specs.BoundsLaws.{dims_product, base_divides}
use Rattle.store_laws.specs.Sound.{Sound}
use Rattle.guarantee.specs.History.{Given, History, joined_points, with_points}
use Rattle.guarantee.specs.Relates.{Relates}

-- one point more
module _ {E : Type 0} (dims base : ℕ) (window point : List E) (points : List (List E)) (whole : length window ≡ dims) (sized : length point ≡ base) (wide : base ≤ dims) where
  moved_length : length (moved_window base window point) ≡ dims
  moved_length = length_window base window point sized (omega arith) ∙ whole

  moved_none : drop (dims - 0 * base) (moved_window base window point) ≡ []
  moved_none =
      let e : dims - 0 * base ≡ length (moved_window base window point) = omega (arith, moved_length) in
      rw e (drop-length (moved_window base window point))

  moved_more : (k : ℕ) → suc k * base ≤ dims → drop (dims - k * base) window ≡ joined_points k points → drop (dims - suc k * base) (moved_window base window point) ≡ joined_points (suc k) (point ∷ points)
  unfolding moved_window joined_points
  moved_more k fits before =
      let m : suc k * base ≡ k * base + base = suc-mul k base in
      let e : base + (dims - suc k * base) ≡ dims - k * base = omega arith in
      drop-append-le (dims - suc k * base) (drop base window) point (rw (length-drop base window) (omega arith))
      ∙ ap (λ (xs : List E). xs ++ point) (drop-drop (dims - suc k * base) base window ∙ ap (λ (n : ℕ). drop n window) e ∙ before)

module _ {E : Type 0} (eq : E → E → Bool) (h : Shape) (then : Given E → PointStore E) (s : History E) (p : PointStore E) (w : Sound p) (r : Relates eq h then s p) (point : List E) (sized : p.header.internal_shingling ≡ true → length point ≡ base_of p.header) where
  abbrev dims : ℕ
  dims = p.header.dimensions

  abbrev window : List E
  window = take dims p.memory.last_known_shingle

  window_length : length window ≡ dims
  window_length = length-take-le dims p.memory.last_known_shingle w.lent.window_lent

  wide : base_of p.header ≤ dims
  wide = le_of_dvd w.bounds.dims_least (base_divides dims p.header.shingle_size p.header.capacity w.bounds)

  -- with internal shingling
  after_is : p.header.internal_shingling ≡ true → take dims (window_after p point) ≡ moved_window (base_of p.header) window point
  unfolding window_after
  after_is e =
      rw e (take_at (moved_window (base_of p.header) window point) (drop dims p.memory.last_known_shingle) dims (moved_length dims (base_of p.header) window point [] window_length (sized e) wide))

  within : (k : ℕ) → k ≤ p.header.shingle_size → k * base_of p.header ≤ dims
  within k l =
      subst (λ (x : ℕ). k * base_of p.header ≤ x)
      (mul_comm p.header.shingle_size (base_of p.header) ∙ dims_product dims p.header.shingle_size p.header.capacity w.bounds)
      (mul-le-mul_right (base_of p.header) l)

  pub window_ends : p.header.internal_shingling ≡ true → (k : ℕ) → k ≤ p.header.shingle_size → k ≤ length (point ∷ s.points)
      → drop (dims - k * base_of p.header) (take dims (window_after p point)) ≡ joined_points k (point ∷ s.points)
  unfolding joined_points
  window_ends e zero l m = rw (after_is e) (moved_none dims (base_of p.header) window point s.points window_length (sized e) wide)
  window_ends e (suc k) l m =
      rw (after_is e)
      (moved_more dims (base_of p.header) window point s.points window_length (sized e) wide k (within (suc k) l) (r.window e k (omega arith) (omega arith)))

  -- an accepted add raises the sequence and moves the window
  pub sequenced_kept : Relates eq h then (with_points (point ∷ s.points) s) (sequenced p point)
  unfolding sequenced copy_of
  sequenced_kept =
      record {
        fits = record {
          dimensions = r.fits.dimensions;
          shingle = r.fits.shingle;
          capacity = r.fits.capacity;
          internal = r.fits.internal;
          rotation = r.fits.rotation;
        };
        counts = r.counts;
        live_below_lem = r.live_below_lem;
        live_counted = r.live_counted;
        sum = r.sum;
        copies = r.copies;
        sequence = omega (arith, r.sequence);
        window = window_ends;
      }
