-- Each way out is one of the laws of `Checking`.
use Prim.Native.Nat.{◌≤◌}
use native.Mathlib.Omega.{arith}
use lib.ListN.{length}
use Rattle.std.proofs.lemmas.List.{length-take, length-take-le}
use mathlib.Core.Path.{sym, ◌∙◌}
use Rattle.interval_store_manager.specs.Sound.{allowed, lent}
use Rattle.interval_store_manager.proofs.Checking.{part_sum, part_small, checks, shared, marks_small, few_marked, check_fails, not_allowed, not_lent, not_lent_used, not_swept}
use Rattle.interval_store_manager.proofs.check.mark_free.Goals as goal

pub returns-then-not-capacity_allowed : goal.returns-then-not-capacity_allowed
returns-then-not-capacity_allowed c = check_fails c.args.m c.args.starts.now c.args.ends.now _ (not_allowed c.args.m c.args.starts.now c.args.ends.now (sym c.capacity_allowed.ensures ∙ c.if-not-capacity_allowed.true))

pub returns-then-not-lent_enough : goal.returns-then-not-lent_enough
returns-then-not-lent_enough c = check_fails c.args.m c.args.starts.now c.args.ends.now _ (not_lent c.args.m c.args.starts.now c.args.ends.now (sym c.lent_enough.ensures ∙ c.if-not-lent_enough.true))

pub returns-then-not-lent_enough-2 : goal.returns-then-not-lent_enough-2
returns-then-not-lent_enough-2 c = check_fails c.args.m c.args.starts.now c.args.ends.now _ (not_lent_used c.args.m c.args.starts.now c.args.ends.now (sym c.lent_enough-2.ensures ∙ c.if-not-lent_enough-2.true))

pub mark_intervals-requires : goal.mark_intervals-requires
mark_intervals-requires c =
    let most = (allowed c.args.m.capacity (sym c.capacity_allowed.ensures ∙ c.if-not-capacity_allowed.false)).1 in
    let used = lent c.args.m.last_in_use c.args.starts.now c.args.ends.now (sym c.lent_enough-2.ensures ∙ c.if-not-lent_enough-2.false) in
    (c.requires.0 most, (most, (used.0, (used.1, c.requires.1))))

pub returns-in_err-total : goal.returns-in_err-total
returns-in_err-total c =
    rw c.from_residual.ensures
    (check_fails c.args.m c.args.starts.now c.args.ends.now _ (not_swept c.args.m c.args.starts.now c.args.ends.now (sym c.mark_intervals.ensures.is ∙ c.in_err-total.was)))

pub slice_bounds-marked_number-end : goal.slice_bounds-marked_number-end
slice_bounds-marked_number-end c = omega (arith, c.requires.0 (allowed c.args.m.capacity (sym c.capacity_allowed.ensures ∙ c.if-not-capacity_allowed.false)).1, c.mark_intervals.auto.marks)

pub slice_bounds-marked_number-end-2 : goal.slice_bounds-marked_number-end-2
slice_bounds-marked_number-end-2 c = sym (length-take-le c.args.m.capacity c.mark_intervals.new.marks (omega (arith, c.requires.0 (allowed c.args.m.capacity (sym c.capacity_allowed.ensures ∙ c.if-not-capacity_allowed.false)).1, c.mark_intervals.auto.marks)))

pub marked_number-free-requires : goal.marked_number-free-requires
marked_number-free-requires c =
    let m = c.args.m in
    let marks = c.mark_intervals.new.marks in
    let most = (allowed m.capacity (sym c.capacity_allowed.ensures ∙ c.if-not-capacity_allowed.false)).1 in
    let long : m.capacity ≤ length marks = omega (arith, c.requires.0 most, c.mark_intervals.auto.marks) in (
      omega (arith, most, length-take m.capacity marks),
      (
        part_small m.capacity marks (marks_small m.capacity m.last_in_use c.args.starts.now c.args.ends.now _ c.in_ok-total.total c.in_ok-total.ensures),
        λ l. few_marked m.capacity m.last_in_use c.args.starts.now c.args.ends.now _ c.in_ok-total.total c.in_ok-total.ensures l ∙ sym (part_sum m.capacity marks long),
      ),
    )

pub returns-then-free-total : goal.returns-then-free-total
returns-then-free-total c =
    checks c.args.m c.args.starts.now c.args.ends.now _ c.in_ok-total.total c.marked_number-free.result (sym c.capacity_allowed.ensures ∙ c.if-not-capacity_allowed.false) (sym c.lent_enough.ensures ∙ c.if-not-lent_enough.false) (sym c.lent_enough-2.ensures ∙ c.if-not-lent_enough-2.false)
    c.in_ok-total.ensures (c.marked_number-free.ensures ∙ part_sum c.args.m.capacity c.mark_intervals.new.marks (omega (arith, c.requires.0 (allowed c.args.m.capacity (sym c.capacity_allowed.ensures ∙ c.if-not-capacity_allowed.false)).1, c.mark_intervals.auto.marks))) c.if-free-total.true

pub returns : goal.returns
returns c =
    shared c.args.m c.args.starts.now c.args.ends.now _ c.in_ok-total.total c.marked_number-free.result (sym c.capacity_allowed.ensures ∙ c.if-not-capacity_allowed.false) (sym c.lent_enough.ensures ∙ c.if-not-lent_enough.false) (sym c.lent_enough-2.ensures ∙ c.if-not-lent_enough-2.false)
    c.in_ok-total.ensures (c.marked_number-free.ensures ∙ part_sum c.args.m.capacity c.mark_intervals.new.marks (omega (arith, c.requires.0 (allowed c.args.m.capacity (sym c.capacity_allowed.ensures ∙ c.if-not-capacity_allowed.false)).1, c.mark_intervals.auto.marks))) c.if-free-total.false
