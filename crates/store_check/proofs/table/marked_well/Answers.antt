-- Each way out is one of the laws of `TableLaws`.
use native.Mathlib.Omega.{arith}
use Rattle.store_laws.specs.BoundsLaws.{in_bounds, base_some}
use mathlib.Core.Path.{refl, sym, ◌∙◌}
use Rattle.store_check.proofs.TableLaws.{all_or_live, entries_decide, entries_pass, manager_fails}
use Rattle.store_check.proofs.table.marked_well.Goals as goal

pub base-requires : goal.base-requires
base-requires c = let s = c.args.s in (in_bounds s.dimensions s.shingle_size s.capacity c.requires.0.bounds).shingle_least

pub place_limit-limit-requires : goal.place_limit-limit-requires
place_limit-limit-requires c =
    let s = c.args.s in
    (rw c.base.ensures (base_some s.dimensions s.shingle_size s.capacity (in_bounds s.dimensions s.shingle_size s.capacity c.requires.0.bounds)), c.requires.0.free_most)

pub overflow_sub-result : goal.overflow_sub-result
overflow_sub-result c =
    let live =
    let a = c.args in
    all_or_live a.s a.reference_count.now a.location.now a.index_starts.now a.index_ends.now _ c.requires.0 _ _ c.mark_free.ensures (c.place_limit-limit.ensures ∙ rw c.base.ensures refl) _ c.in-Some.is (sym c.entries_well.ensures ∙ c.if-entries_well.true) in
    omega (arith, live)

pub returns-then-entries_well : goal.returns-then-entries_well
returns-then-entries_well c =
    let a = c.args in
    let e = sym c.entries_well.ensures ∙ c.if-entries_well.true in (
      entries_decide a.s a.reference_count.now a.location.now a.index_starts.now a.index_ends.now _ c.requires.0 _ _ c.mark_free.ensures (c.place_limit-limit.ensures ∙ rw c.base.ensures refl) _ c.in-Some.is e,
      entries_pass a.s a.reference_count.now a.location.now a.index_starts.now a.index_ends.now _ c.requires.0 _ _ c.mark_free.ensures (c.place_limit-limit.ensures ∙ rw c.base.ensures refl) _ c.in-Some.is e,
    )

pub returns-else-entries_well : goal.returns-else-entries_well
returns-else-entries_well c =
    let a = c.args in
    (entries_decide a.s a.reference_count.now a.location.now a.index_starts.now a.index_ends.now _ c.requires.0 _ _ c.mark_free.ensures (c.place_limit-limit.ensures ∙ rw c.base.ensures refl) _ c.in-Some.is (sym c.entries_well.ensures ∙ c.if-entries_well.false), tt)

pub returns-in_default : goal.returns-in_default
returns-in_default c =
    let a = c.args in
    (manager_fails a.s a.reference_count.now a.location.now a.index_starts.now a.index_ends.now _ c.requires.0 _ _ c.in_default.ensures (c.place_limit-limit.ensures ∙ rw c.base.ensures refl) refl, tt)
