-- The preview of a window, of a store that is known to be well-formed.
use Rattle.std.specs.Prelude.{ℕ, ◌+◌, ◌*◌, ◌%◌, ◌≤◌, true, false, cond, ◌≡◌, take, drop, ltb, eqb}
use Rattle.std.proofs.Common.{le_of_eq, le_refl, arith, sym, ◌∙◌}
use Rattle.std.proofs.Math.Bool.{and-false}
use mathlib.Core.List.{List, ◌++◌, append-nil}
use Rattle.std.proofs.Math.Path.{ap}
use Rattle.std.proofs.Math.ListN.{length, drop_of_length-le}
use Rattle.std.proofs.Math.Seq.{paste, take-length, take-take, length-take-le}
use borrow.Author.Tests.{eq-eqb, ne_eqb, eqb-true}
use Rattle.terms.specs.Below.{both}
use Rattle.placement.specs.Places.{Shaped}
use Rattle.placement.specs.Row.{moved_window}
use Rattle.store_definitions.specs.declared.Store.{Store}
use Rattle.store_definitions.specs.Memory.{PointStore}
use Rattle.store_definitions.specs.Answers.{done, refused, output}
use Rattle.store_definitions.specs.Parts.{base_of}
use Rattle.store_definitions.specs.Decisions.{form_decided}
use Rattle.store_definitions.specs.Preview.{previews, preview_decided, shown, previewed, preview_written, shingled_point_spec}
use Rattle.store_definitions.specs.WellFormed.{well_formed}

pub previews_base : (s : Store) (n : ℕ) → previews s n ≡ true → n ≡ base_of s
unfolding previews
previews_base s n e = eqb-true n (base_of s) (both (eqb n (base_of s)) (ltb 1 s.shingle_size) e).0

-- what showing a window relies on, of a point of base entries
pub record Shown (dims window point out : ℕ) : Type 0 where
  pub dims_most : dims ≤ 64
  pub shape : Shaped dims point
  pub window_lent : dims ≤ window
  pub out_fits : out ≡ dims

-- a well-formed store previews so
module _ {E : Type 0} (p : PointStore E) (point out : List E) where
  pub preview_checked : well_formed p ≡ true → preview_written p.header p.memory.last_known_shingle point out ≡ shingled_point_spec p point out
  unfolding shingled_point_spec form_decided
  preview_checked e = rw e

-- a point of the output's length, written over it
point_laid : {E : Type 0} (point out : List E) → length point ≡ length out → paste out 0 point (length point) ≡ point
point_laid point out e =
    rw (take-length point, drop_of_length-le out {i = 0 + length point} (omega arith)) (append-nil point)

-- a window written over an output of its length, and what is then done to it
module _ {E : Type 0} (dims : ℕ) (window out : List E) (lent : dims ≤ length window) (fits : length out ≡ dims) where
  laid : paste out 0 (take dims window) (length (take dims window)) ≡ take dims window
  laid = point_laid (take dims window) out (length-take-le dims window lent ∙ sym fits)

  pub shown_over : (now point : List E) (sequence : ℕ) → now ≡ paste out 0 (take dims window) (length (take dims window))
      → paste now (sequence * length point % dims) point (length point) ≡ shown true dims (length point) sequence window point
  unfolding shown
  shown_over now point sequence e = ap (λ (l : List E). paste l (sequence * length point % dims) point (length point)) (e ∙ laid)

  pub shown_moved : (now point : List E) (sequence : ℕ) → now ≡ paste out 0 (take dims window) (length (take dims window))
      → moved_window (length point) (take dims now) point ++ drop dims now ≡ shown false dims (length point) sequence window point
  unfolding shown
  shown_moved now point sequence e =
      let n : length (take dims window) ≡ dims = length-take-le dims window lent in
      rw (e, laid, take-take dims dims window (le_refl dims), drop_of_length-le (take dims window) {i = dims} (le_of_eq n)) (append-nil (moved_window (length point) (take dims window) point))

-- the ways out
module _ {E : Type 0} (s : Store) (window point out : List E) where
  pub other_output : (length out ≡ s.dimensions → ⊥) → output (refused 3) out ≡ preview_written s window point out
  unfolding preview_written preview_decided previewed
  other_output d =
      rw (ne_eqb (length out) s.dimensions d, and-false (cond (previews s (length point)) s.internal_shingling (eqb (length point) s.dimensions)))

  module _ (fits : length out ≡ s.dimensions) where
    pub no_window : previews s (length point) ≡ true → s.internal_shingling ≡ false → output (refused 3) out ≡ preview_written s window point out
    unfolding preview_written preview_decided previewed
    no_window e off = rw (e, off)

    pub window_shown : (now : List E) → previews s (length point) ≡ true → s.internal_shingling ≡ true
        → now ≡ shown s.internal_rotation s.dimensions (length point) s.next_sequence_index window point
        → output done now ≡ preview_written s window point out
    unfolding preview_written preview_decided previewed
    window_shown now e on w =
        rw (e, on, eq-eqb (length out) s.dimensions fits, w, previews_base s (length point) e)

    pub other_point : previews s (length point) ≡ false → (length point ≡ s.dimensions → ⊥) → output (refused 3) out ≡ preview_written s window point out
    unfolding preview_written preview_decided previewed
    other_point e d = rw (e, ne_eqb (length point) s.dimensions d)

    pub point_shown : (now : List E) → previews s (length point) ≡ false → length point ≡ s.dimensions → now ≡ paste out 0 point (length point)
        → output done now ≡ preview_written s window point out
    unfolding preview_written preview_decided previewed
    point_shown now e d w =
        rw (e, eq-eqb (length point) s.dimensions d, eq-eqb (length out) s.dimensions fits)
        (ap (output done) (w ∙ point_laid point out (omega arith)))
