-- The check decides between two laws of `Writing`.
use Rattle.std.proofs.Common.{rules, sym, ◌∙◌}
use Rattle.terms.specs.declared.Refusal.{Refusal}
use Rattle.store_definitions.specs.Lent.{lent}
use Rattle.store_definitions.specs.Memory.{point_store}
use Rattle.store_check.specs.Checked.{check_passed, check_failed}
use Rattle.page.proofs.WritingLaws.{page_ill, page_well, readable}
use Rattle.page.proofs.call.page.Goals as goal

pub page_unchecked-requires : goal.page_unchecked-requires
page_unchecked-requires c =
    let a = c.args in
    let m = lent a.store.now a.last_known_shingle.now a.tables in
    let well = check_passed a.s m c.check.result Refusal.IllFormed c.check.ensures _ (sym c.ok_or.ensures.value ∙ c.in_ok-figures.was) in
    readable (point_store a.s m) a.text.now well.0 _ well.1.live_is

pub returns : goal.returns
returns c =
    let a = c.args in
    let m = lent a.store.now a.last_known_shingle.now a.tables in
    let well = check_passed a.s m c.check.result Refusal.IllFormed c.check.ensures _ (sym c.ok_or.ensures.value ∙ c.in_ok-figures.was) in
    c.page_unchecked.ensures ∙ page_well (point_store a.s m) a.text.now well.0

pub returns-in_err-figures : goal.returns-in_err-figures
returns-in_err-figures c =
    let a = c.args in
    let m = lent a.store.now a.last_known_shingle.now a.tables in
    let refused = page_ill (point_store a.s m) a.text.now (check_failed a.s m c.check.result Refusal.IllFormed c.check.ensures _ (sym c.ok_or.ensures.value ∙ c.in_err-figures.was)).0 in
    search (rules, refused)
