-- The window after an accepted add, and the length of the row that it gives.
use Rattle.std.specs.Prelude.{ℕ, ◌+◌, ◌≤◌, Bool, true, false, cond, List, ◌++◌, ◌≡◌, take}
use Rattle.std.proofs.Math.Nat.{le_of_dvd}
use Rattle.std.proofs.Common.{arith, ◌∙◌, ap, length-append}
use Rattle.std.proofs.Math.ListN.{length, drop, length-drop}
use Rattle.std.proofs.Math.Seq.{length-take-le}
use Rattle.placement.specs.Row.{row_to_lay, moved_window}
use Rattle.store_definitions.specs.declared.Store.{Store}
use Rattle.store_definitions.specs.Memory.{PointStore}
use Rattle.store_definitions.specs.Parts.{base_of}
use Rattle.store_definitions.specs.Adding.{point_length, window_after, sequenced, row_of}
use Rattle.store_laws.specs.BoundsLaws.{base_divides}
use Rattle.store_laws.specs.Sound.{Sound}
use Rattle.store_laws.specs.Cases.{by_cases}
use Rattle.store_laws.specs.PointsLaws.{with_window_lem}

-- how long a point is
length_on : (s : Store) → s.internal_shingling ≡ true → point_length s ≡ base_of s
unfolding point_length
length_on s e = ap (λ (b : Bool). cond b (base_of s) s.dimensions) e

length_off : (s : Store) → s.internal_shingling ≡ false → point_length s ≡ s.dimensions
unfolding point_length
length_off s e = ap (λ (b : Bool). cond b (base_of s) s.dimensions) e

module _ {E : Type 0} (p : PointStore E) (point : List E) (w : Sound p) (sized : length point ≡ point_length p.header) where
  abbrev dims : ℕ
  dims = p.header.dimensions

  abbrev base : ℕ
  base = base_of p.header

  abbrev window : List E
  window = p.memory.last_known_shingle

  abbrev moved : List E
  moved = moved_window base (take dims window) point

  moved_length : p.header.internal_shingling ≡ true → length moved ≡ dims
  unfolding moved_window
  moved_length on =
      rw (length-append (drop base (take dims window)) point, length-drop base (take dims window), length-take-le dims window w.lent.window_lent)
      (omega (arith, sized, length_on p.header on, le_of_dvd w.bounds.dims_least (base_divides dims p.header.shingle_size p.header.capacity w.bounds)))

  window_length : dims ≤ length (window_after p point)
  unfolding window_after
  window_length =
      by_cases (λ x. dims ≤ length x) p.header.internal_shingling (moved ++ drop dims window) window
      (λ on. rw (length-append moved (drop dims window)) (omega (arith, moved_length on)))
      (λ off. w.lent.window_lent)

  pub row_length : length (row_of p point) ≡ dims
  unfolding row_of row_to_lay
  row_length =
      by_cases (λ x. length x ≡ dims) p.header.internal_shingling (take dims (window_after p point)) point
      (λ on. length-take-le dims (window_after p point) window_length)
      (λ off. sized ∙ length_off p.header off)

  pub sequenced_sound : (p.header.next_sequence_index ≡ 4294967295 → ⊥) → Sound (sequenced p point)
  unfolding sequenced
  sequenced_sound d = with_window_lem p w (window_after p point) (p.header.next_sequence_index + 1) window_length (omega (arith, w.sequence_most))
