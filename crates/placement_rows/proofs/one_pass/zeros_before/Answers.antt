-- The wrapping difference and sum are the definition's.
use Rattle.placement_rows.proofs.OneRun.{wrapped}
use Rattle.std.proofs.Common.{arith}
use Rattle.placement_rows.proofs.one_pass.zeros_before.Goals as goal

pub returns : goal.returns
returns c =
    let a = c.args in
    wrapped a.dimensions a.free a.start c.wrapping_sub_usize-difference.result c.wrapping_add_usize.result (omega arith) (omega arith) (omega arith) c.wrapping_sub_usize-difference.ensures.value c.wrapping_add_usize.ensures.value
