-- The four returns are the forms of release.
use Prim.Native.Nat.{◌≤◌}
use native.Mathlib.Omega.{arith}
use borrow.Author.Rules.{scaled_Fits}
use mathlib.Core.Path.{sym, ◌∙◌}
use Rattle.terms.specs.Below.{positive}
use Rattle.interval_store_manager.specs.Sound.{sound}
use Rattle.interval_store_manager.specs.FreeLaws.{not_free_held, room}
use Rattle.interval_store_manager.specs.ReleaseLaws.{released_first, released_start, released_end, released_apart}
use Rattle.interval_store_manager.proofs.IntervalStoreManager.release_unchecked.Goals as goal

pub push-requires : goal.push-requires
push-requires c =
    let s = sound c.args.self.now c.args.starts.now c.args.ends.now c.requires.0 in
    let more = room c.args.index (sound c.args.self.now c.args.starts.now c.args.ends.now c.requires.0) c.requires.1.0 (not_free_held c.args.self.now.last_in_use c.args.starts.now c.args.ends.now c.args.index c.requires.1.1) in
    let few : c.args.index ≤ 1023 = omega (arith, s.most, c.requires.1.0) in
    (omega (arith, s.starts_lent), (omega (arith, s.ends_lent), (few, few)))

pub returns-then-n-eq0 : goal.returns-then-n-eq0
returns-then-n-eq0 c = c.push.ensures ∙ sym (released_first c.args.self.now.capacity c.args.self.now.last_in_use c.args.starts.now c.args.ends.now c.args.index c.if-n-eq0.true)

pub offset_bounds-starts-top : goal.offset_bounds-starts-top
offset_bounds-starts-top c = let h = (positive c.args.self.now.last_in_use c.if-n-eq0.false) in scaled_Fits _ _ _ (omega (arith, (sound c.args.self.now c.args.starts.now c.args.ends.now c.requires.0).starts_used)) c.well_formed.1.0.1

pub bounds-starts-top : goal.bounds-starts-top
bounds-starts-top c = let h = (positive c.args.self.now.last_in_use c.if-n-eq0.false) in omega (arith, (sound c.args.self.now c.args.starts.now c.args.ends.now c.requires.0).starts_used)

pub returns-then-start-index : goal.returns-then-start-index
returns-then-start-index c = sym (released_start c.args.self.now.capacity c.args.self.now.last_in_use c.args.starts.now c.args.ends.now c.args.index (positive c.args.self.now.last_in_use c.if-n-eq0.false) c.if-start-index.true)

pub offset_bounds-ends-top : goal.offset_bounds-ends-top
offset_bounds-ends-top c = let h = (positive c.args.self.now.last_in_use c.if-n-eq0.false) in scaled_Fits _ _ _ (omega (arith, (sound c.args.self.now c.args.starts.now c.args.ends.now c.requires.0).ends_used)) c.well_formed.1.1.0.1

pub bounds-ends-top : goal.bounds-ends-top
bounds-ends-top c = let h = (positive c.args.self.now.last_in_use c.if-n-eq0.false) in omega (arith, (sound c.args.self.now c.args.starts.now c.args.ends.now c.requires.0).ends_used)

pub overflow_cast-ends : goal.overflow_cast-ends
overflow_cast-ends c = omega (arith, (sound c.args.self.now c.args.starts.now c.args.ends.now c.requires.0).most, c.requires.1.0)

pub offset_bounds-ends-top-then-end-index : goal.offset_bounds-ends-top-then-end-index
offset_bounds-ends-top-then-end-index c = let h = (positive c.args.self.now.last_in_use c.if-n-eq0.false) in scaled_Fits _ _ _ (omega (arith, (sound c.args.self.now c.args.starts.now c.args.ends.now c.requires.0).ends_used)) c.well_formed.1.1.0.1

pub bounds-ends-top-then-end-index : goal.bounds-ends-top-then-end-index
bounds-ends-top-then-end-index c = let h = (positive c.args.self.now.last_in_use c.if-n-eq0.false) in omega (arith, (sound c.args.self.now c.args.starts.now c.args.ends.now c.requires.0).ends_used)

pub returns-then-end-index : goal.returns-then-end-index
returns-then-end-index c = sym (released_end c.args.self.now.capacity c.args.self.now.last_in_use c.args.starts.now c.args.ends.now c.args.index (positive c.args.self.now.last_in_use c.if-n-eq0.false) c.if-start-index.false c.if-end-index.true)

pub push-requires-2 : goal.push-requires-2
push-requires-2 c =
    let s = sound c.args.self.now c.args.starts.now c.args.ends.now c.requires.0 in
    let more = room c.args.index (sound c.args.self.now c.args.starts.now c.args.ends.now c.requires.0) c.requires.1.0 (not_free_held c.args.self.now.last_in_use c.args.starts.now c.args.ends.now c.args.index c.requires.1.1) in
    let few : c.args.index ≤ 1023 = omega (arith, s.most, c.requires.1.0) in
    (omega (arith, s.starts_lent), (omega (arith, s.ends_lent), (few, few)))

pub returns : goal.returns
returns c = c.push-2.ensures ∙ sym (released_apart c.args.self.now.capacity c.args.self.now.last_in_use c.args.starts.now c.args.ends.now c.args.index (positive c.args.self.now.last_in_use c.if-n-eq0.false) c.if-start-index.false c.if-end-index.false)
