-- Each way out is one of the laws of `IndexReadings`.
use Prim.Native.Nat.{ℕ}
use native.Mathlib.Omega.{arith}
use mathlib.Core.Bool.{Bool}
use mathlib.Core.List.{List}
use mathlib.Core.Path.{◌≡◌, sym, ap, ◌∙◌}
use Rattle.store_definitions.specs.declared.Store.{Store}
use Rattle.store_definitions.specs.IndexLists.{value_limit, values_below}
use Rattle.row_readings.specs.IndexReadings.{other_count, far_ahead, value_above, list_written}
use Rattle.row_readings.proofs.ListTurns.{below_at}
use Rattle.row_readings.proofs.index_list.missing_indices_unchecked.Goals as goal

-- what the test of the values says, of the limit in the definition
tested : (s : Store) (limit : ℕ) (values : List ℕ) {r b : Bool} → limit ≡ value_limit s → r ≡ values_below limit values → r ≡ b → values_below (value_limit s) values ≡ b
tested s limit values l e t = ap (λ (n : ℕ). values_below n values) (sym l) ∙ sym e ∙ t

pub returns-then-out-values : goal.returns-then-out-values
returns-then-out-values c =
    let a = c.args in
    other_count a.s a.look_ahead a.values.now a.out.now c.if-out-values.true

pub returns-then-look_ahead-gt-LARGEST_LOOK_AHEAD : goal.returns-then-look_ahead-gt-LARGEST_LOOK_AHEAD
returns-then-look_ahead-gt-LARGEST_LOOK_AHEAD c =
    let a = c.args in
    far_ahead a.s a.look_ahead a.values.now a.out.now c.if-out-values.false c.if-look_ahead-gt-LARGEST_LOOK_AHEAD.true

pub returns-then-not-values_below : goal.returns-then-not-values_below
returns-then-not-values_below c =
    let a = c.args in
    value_above a.s a.look_ahead a.values.now a.out.now c.if-out-values.false c.if-look_ahead-gt-LARGEST_LOOK_AHEAD.false (tested a.s c.value_limit.result a.values.now c.value_limit.ensures c.values_below.ensures c.if-not-values_below.true)

pub move_values-requires : goal.move_values-requires
move_values-requires c =
    let a = c.args in
    let pass = (tested a.s c.value_limit.result a.values.now c.value_limit.ensures c.values_below.ensures c.if-not-values_below.false) in
    (c.if-out-values.false, λ i h. omega (arith, below_at (value_limit a.s) a.values.now pass i h, c.first_index.ensures.room, c.requires.dims_most))

pub returns : goal.returns
returns c =
    let a = c.args in
    list_written a.s a.look_ahead a.values.now a.out.now c.if-out-values.false c.if-look_ahead-gt-LARGEST_LOOK_AHEAD.false c.first_index.result c.move_values.new.out c.first_index.ensures (tested a.s c.value_limit.result a.values.now c.value_limit.ensures c.values_below.ensures c.if-not-values_below.false) c.move_values.ensures
