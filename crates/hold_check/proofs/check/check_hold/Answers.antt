-- What the list's test may rely on.
use Rattle.std.proofs.Common.{sym, ◌∙◌}
use Rattle.hold_check.proofs.HoldLaws.{held_lent, counts_lent, list_asked}
use Rattle.hold_check.proofs.check.check_hold.Goals as goal

pub slice_bounds-list-end : goal.slice_bounds-list-end
slice_bounds-list-end c =
    let a = c.args in
    held_lent a.h a.store.now a.last_known_shingle.now a.tables a.held_indices.now a.held_labels.now (sym c.record_holds.ensures ∙ c.if-not-record_holds.false)

pub slice_bounds-list_well-end : goal.slice_bounds-list_well-end
slice_bounds-list_well-end c =
    let a = c.args in
    counts_lent a.h a.store.now a.last_known_shingle.now a.tables a.held_indices.now a.held_labels.now _ c.store_well.ensures.0 _ c.in_ok-found.was (sym c.record_holds.ensures ∙ c.if-not-record_holds.false)

pub list_well-well-requires : goal.list_well-well-requires
list_well-well-requires c =
    let a = c.args in
    let r = list_asked a.h a.store.now a.last_known_shingle.now a.tables a.held_indices.now a.held_labels.now _ c.store_well.ensures.0 _ c.in_ok-found.was (sym c.record_holds.ensures ∙ c.if-not-record_holds.false) in
    ((c.in_ok-found.ensures.1, r.0), r.1)
