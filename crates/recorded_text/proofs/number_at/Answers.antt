use Rattle.std.proofs.Common.{◌≡◌, ◌+◌, refl, sym, ◌∙◌, add-zero}
use mathlib.Core.Bool.{false}
use native.Mathlib.Omega.{arith}
use lib.ListN.{get_or, drop, length}
use Rattle.recorded_text.specs.Numbers.{taken, numeral, digits, number_at, digits_end, digits_stop, digits_go, no_digit, too_large, a_digit, rest_start, rest_within, rest_byte, rest_end}
use Rattle.recorded_text.proofs.number_at.Goals.{then-not-is_ascii_digit-via-then-not-is_ascii_digit, then-not-is_ascii_digit-via-else-not-is_ascii_digit+then-value-gt-MOST}
use Rattle.recorded_text.proofs.number_at.Goals as goal

pub loop-i-init : goal.loop-i-init
unfolding number_at
loop-i-init c = rw (add-zero c.args.at) refl

pub returns-then-not-is_ascii_digit : goal.returns-then-not-is_ascii_digit
returns-then-not-is_ascii_digit c =
    let a = c.args in
    let text = a.text.now in
    let l = c.loop-i in
    let s = c.min-start.result in
    let e = c.min-start.ensures in
    let p = a.at + l.i in
    let b = get_or text p 0 in
    let q = rest_byte text a.at s e l.i c.loop-i-test.true in
    let stops : taken l.value b ≡ false =
    elim c.then-not-is_ascii_digit.branch [
      | then-not-is_ascii_digit-via-then-not-is_ascii_digit w ↦ no_digit l.value b (rw (sym q) (sym c.is_ascii_digit.ensures.value ∙ w.if-not-is_ascii_digit.true))
      | then-not-is_ascii_digit-via-else-not-is_ascii_digit+then-value-gt-MOST w ↦ too_large l.value b w.if-value-gt-MOST.true
    ] in
    rw (rest_start text a.at s e l.i c.loop-i-test.true) (digits_stop text l.value p (rest_within text a.at s e l.i c.loop-i-test.true) stops ∙ l.invariant)

pub loop-i-preserved : goal.loop-i-preserved
loop-i-preserved c =
    let a = c.args in
    let text = a.text.now in
    let l = c.loop-i in
    let s = c.min-start.result in
    let e = c.min-start.ensures in
    let p = a.at + l.i in
    let b = get_or text p 0 in
    let q = rest_byte text a.at s e l.i c.loop-i-test.true in
    let next : a.at + (l.i + 1) ≡ p + 1 = omega arith in
    rw (next, q) (digits_go text l.value p (rest_within text a.at s e l.i c.loop-i-test.true) (a_digit l.value b (rw (sym q) (sym c.is_ascii_digit.ensures.value ∙ c.if-not-is_ascii_digit.false)) c.if-value-gt-MOST.false) ∙ l.invariant)

pub returns : goal.returns
returns c =
    let a = c.args in
    let l = c.loop-i in
    let p = a.at + l.i in
    let end : p ≡ c.max.result = rest_end a.text.now a.at c.min-start.result c.min-start.ensures l.i c.loop-i-test.false l.auto.i-end ∙ sym c.max.ensures in
    rw (sym end) (digits_end a.text.now l.value p (omega (arith, end, c.max.ensures)) ∙ l.invariant)
