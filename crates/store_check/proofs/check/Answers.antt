-- Each way out is one of the laws of `CheckedLaws`.
use mathlib.Core.Path.{refl, sym, ◌∙◌}
use lib.ListN.{length, length-replicate}
use Rattle.store_definitions.specs.Memory.{point_store}
use Rattle.store_check.specs.Tables.{tables_lent}
use Rattle.store_check.specs.CheckLaws.{record_ready}
use Rattle.store_check.proofs.CheckedLaws.{record_ill, points_ill, labels_ill, all_well}
use Rattle.store_check.proofs.check.Goals as goal

pub points_well-requires : goal.points_well-requires
points_well-requires c = record_ready c.args.s c.args.floats c.args.window (length c.args.tables.index_starts.now) (length c.args.tables.index_ends.now) c.args.tables.reference_count.now c.args.tables.location.now (sym (c.record_well.ensures ∙ rw c.lengths_of-lent.ensures.lengths refl) ∙ c.if-not-record_well.false)

pub returns-then-not-record_well : goal.returns-then-not-record_well
returns-then-not-record_well c = record_ill (point_store c.args.s (tables_lent c.args.floats c.args.window c.args.tables)) c.args.floats c.args.window (length-replicate {A = Unit {0}} c.args.floats tt) (length-replicate {A = Unit {0}} c.args.window tt) c.lengths_of-lent.ensures.fit (sym (c.record_well.ensures ∙ rw c.lengths_of-lent.ensures.lengths refl) ∙ c.if-not-record_well.true)

pub returns-in_err-live : goal.returns-in_err-live
returns-in_err-live c =
    rw c.from_residual.ensures
    (points_ill (point_store c.args.s (tables_lent c.args.floats c.args.window c.args.tables)) c.args.floats c.args.window (length-replicate {A = Unit {0}} c.args.floats tt) (length-replicate {A = Unit {0}} c.args.window tt) c.lengths_of-lent.ensures.fit (sym (c.record_well.ensures ∙ rw c.lengths_of-lent.ensures.lengths refl) ∙ c.if-not-record_well.false) _ (sym c.in_err-live.was ∙ c.points_well.ensures))

pub returns-in_err-free : goal.returns-in_err-free
returns-in_err-free c =
    rw c.from_residual-in_err-free.ensures
    (labels_ill (point_store c.args.s (tables_lent c.args.floats c.args.window c.args.tables)) c.args.floats c.args.window (length-replicate {A = Unit {0}} c.args.floats tt) (length-replicate {A = Unit {0}} c.args.window tt) c.lengths_of-lent.ensures.fit (sym (c.record_well.ensures ∙ rw c.lengths_of-lent.ensures.lengths refl) ∙ c.if-not-record_well.false) _ _ (sym c.in_ok-live.was ∙ c.points_well.ensures) (sym c.in_err-free.was ∙ c.labels_well_formed.ensures ∙ rw c.label_managers.ensures refl))

pub returns : goal.returns
returns c =
    all_well (point_store c.args.s (tables_lent c.args.floats c.args.window c.args.tables)) c.args.floats c.args.window (length-replicate {A = Unit {0}} c.args.floats tt) (length-replicate {A = Unit {0}} c.args.window tt) c.lengths_of-lent.ensures.fit (sym (c.record_well.ensures ∙ rw c.lengths_of-lent.ensures.lengths refl) ∙ c.if-not-record_well.false) _ (sym c.in_ok-live.was ∙ c.points_well.ensures) _ (sym c.in_ok-free.was ∙ c.labels_well_formed.ensures ∙ rw c.label_managers.ensures refl)
