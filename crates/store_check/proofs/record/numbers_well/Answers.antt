-- The bounds decide first, and then the other clauses together.
use Prim.Native.Nat.{◌*◌}
use native.Mathlib.Omega.{arith}
use mathlib.Core.Bool.{◌&&◌}
use mathlib.Core.Path.{sym, ◌∙◌}
use lib.Dec.{leb}
use Rattle.store_definitions.specs.Bounds.{rotation_allowed}
use Rattle.store_definitions.specs.WellFormed.{sequence_well, free_start_well}
use Rattle.store_laws.specs.BoundsLaws.{in_bounds}
use Rattle.store_check.specs.CheckLaws.{numbers_test}
use Rattle.store_check.proofs.BoundsTests.{pairs_flat}
use Rattle.store_check.proofs.record.numbers_well.Goals as goal

pub overflow_mul-floats : goal.overflow_mul-floats
overflow_mul-floats c = omega (arith, (in_bounds c.args.s.dimensions c.args.s.shingle_size c.args.s.capacity (sym c.bounds_hold.ensures ∙ c.if-bounds_hold.true)).floats_most)

pub returns-then-bounds_hold : goal.returns-then-bounds_hold
unfolding numbers_test rotation_allowed sequence_well
returns-then-bounds_hold c =
    let s = c.args.s in
    let l = c.args.lent in
    let k = s.capacity in
    rw (sym c.bounds_hold.ensures ∙ c.if-bounds_hold.true, c.free_start_well-started.ensures)
    (pairs_flat (leb (k * s.dimensions) l.floats) (leb s.dimensions l.window) (leb k l.counts) (leb k l.places) (leb k l.starts) (leb k l.ends) (leb s.index_manager.capacity k) (leb s.store_length (k * s.dimensions)) (leb s.next_sequence_index 4294967295 && free_start_well s))

pub returns : goal.returns
unfolding numbers_test
returns c = rw (sym c.bounds_hold.ensures ∙ c.if-bounds_hold.false)
