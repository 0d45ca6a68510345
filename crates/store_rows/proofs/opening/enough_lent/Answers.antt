-- One conjunction, as it is defined.
use native.Mathlib.Omega.{arith}
use Rattle.store_definitions.specs.Lent.{lent}
use Rattle.store_laws.specs.BoundsLaws.{in_bounds}
use Rattle.store_rows.specs.Openings.{lent_is}
use Rattle.store_rows.proofs.opening.enough_lent.Goals as goal

pub overflow_mul-result : goal.overflow_mul-result
overflow_mul-result c =
    let h = c.args.shape in
    omega (arith, (in_bounds h.dimensions h.shingle_size h.capacity c.requires).floats_most)

pub returns : goal.returns
returns c =
    let a = c.args in
    lent_is a.shape (lent a.store.now a.last_known_shingle.now a.tables) c.labels_lent-of_labels.result c.labels_lent-of_labels.ensures
