-- The loop keeps that the columns left decide.
use mathlib.Core.Path.{◌≡◌, sym, ◌∙◌}
use borrow.Author.Rules.{rules}
use borrow.Author.Tests.{eq-eqb, ne_eqb}
use Rattle.decimal.proofs.ReaderTurns.{none_compared, last_compared, column_compared, all_compared}
use Rattle.decimal.proofs.read.is_field.Goals as goal

pub returns-in_default : goal.returns-in_default
returns-in_default c = none_compared c.args.text.now c.args.number c.in_default.ensures.cases

pub returns-then-last-last_digit : goal.returns-then-last-last_digit
returns-then-last-last_digit c =
    let s = c.in-Some in
    sym (last_compared c.args.text.now s.left.now s.last.now c.args.number s.ensures.cases.0 ∙ (rw (ne_eqb _ _ (λ e. c.if-last-last_digit.true (e ∙ sym c.last_digit.ensures)))))

pub loop-b-init : goal.loop-b-init
loop-b-init c =
    let s = c.in-Some in
    let all : c.into_iter-b-iterator.result.iter.rest.now ≡ s.left.now = search rules in
    rw all (sym (last_compared c.args.text.now s.left.now s.last.now c.args.number s.ensures.cases.0 ∙ (rw (eq-eqb _ _ (c.if-last-last_digit.false ∙ c.last_digit.ensures)))))

pub returns-then-b-column_of : goal.returns-then-b-column_of
returns-then-b-column_of c =
    let l = c.loop-b in
    sym (sym l.invariant ∙ column_compared l.b-iterator.iter.rest.now c.next.new.self.iter.rest.now c.in-Some-b.b.now l.rest c.in-Some-b.ensures.steps ∙ (rw (ne_eqb _ _ (λ e. c.if-b-column_of.true (e ∙ sym c.column_of.ensures)))))

pub loop-b-preserved : goal.loop-b-preserved
loop-b-preserved c =
    let l = c.loop-b in
    sym (sym l.invariant ∙ column_compared l.b-iterator.iter.rest.now c.next.new.self.iter.rest.now c.in-Some-b.b.now l.rest c.in-Some-b.ensures.steps ∙ (rw (eq-eqb _ _ (c.if-b-column_of.false ∙ c.column_of.ensures))))

pub returns : goal.returns
returns c =
    let l = c.loop-b in
    all_compared l.b-iterator.iter.rest.now l.rest c.in-None.ensures.steps.0 ∙ l.invariant
