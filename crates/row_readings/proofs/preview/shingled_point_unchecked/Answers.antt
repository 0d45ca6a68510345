-- Each way out is one of the laws of `Previews`.
use mathlib.Core.Path.{sym, subst, ap, ◌∙◌}
use mathlib.Core.Bool.{◌&&◌}
use lib.Dec.{eqb, ltb}
use Prim.Native.Nat.{ℕ}
use lib.ListN.{length}
use Rattle.placement.specs.Places.{Shaped}
use Rattle.store_definitions.specs.Preview.{previews}
use Rattle.row_readings.specs.Previews.{previews_base, other_output, no_window, window_shown, other_point, point_shown}
use Rattle.row_readings.proofs.preview.shingled_point_unchecked.Goals as goal

pub returns-then-out-dimensions : goal.returns-then-out-dimensions
returns-then-out-dimensions c =
    let at = c in
    let a = at.args in
    other_output a.s a.last_known_shingle.now a.point.now a.out.now c.if-out-dimensions.true

pub show_window-requires : goal.show_window-requires
unfolding previews
show_window-requires c =
    let at = c in
    let a = at.args in
    let n = length a.point.now in
    let is_base = previews_base a.s n (ap (λ (b : ℕ). eqb (length a.point.now) b && ltb 1 a.s.shingle_size) (sym c.base.ensures) ∙ c.if-point-base.true) in
    record {
      dims_most = at.requires.0.dims_most;
      shape = subst (λ (b : ℕ). Shaped a.s.dimensions b) (sym is_base) at.requires.0.shape;
      window_lent = at.requires.1;
      out_fits = c.if-out-dimensions.false;
    }

pub returns-then-s : goal.returns-then-s
unfolding previews
returns-then-s c =
    let at = c in
    let a = at.args in
    window_shown a.s a.last_known_shingle.now a.point.now a.out.now c.if-out-dimensions.false c.show_window.new.out (ap (λ (b : ℕ). eqb (length a.point.now) b && ltb 1 a.s.shingle_size) (sym c.base.ensures) ∙ c.if-point-base.true) c.if-s.true c.show_window.ensures

pub returns-then-point-base : goal.returns-then-point-base
unfolding previews
returns-then-point-base c =
    let at = c in
    let a = at.args in
    no_window a.s a.last_known_shingle.now a.point.now a.out.now c.if-out-dimensions.false (ap (λ (b : ℕ). eqb (length a.point.now) b && ltb 1 a.s.shingle_size) (sym c.base.ensures) ∙ c.if-point-base.true) c.if-s.false

pub returns-then-point-dimensions : goal.returns-then-point-dimensions
unfolding previews
returns-then-point-dimensions c =
    let at = c in
    let a = at.args in
    other_point a.s a.last_known_shingle.now a.point.now a.out.now c.if-out-dimensions.false (ap (λ (b : ℕ). eqb (length a.point.now) b && ltb 1 a.s.shingle_size) (sym c.base.ensures) ∙ c.if-point-base.false) c.if-point-dimensions.true

pub returns : goal.returns
unfolding previews
returns c =
    let at = c in
    let a = at.args in
    point_shown a.s a.last_known_shingle.now a.point.now a.out.now c.if-out-dimensions.false c.copy_from.new.words (ap (λ (b : ℕ). eqb (length a.point.now) b && ltb 1 a.s.shingle_size) (sym c.base.ensures) ∙ c.if-point-base.false) c.if-point-dimensions.false c.copy_from.ensures
