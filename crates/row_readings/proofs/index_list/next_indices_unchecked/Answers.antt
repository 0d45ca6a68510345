-- Each way out is one of the laws of `IndexReadings`, at the values 0 to base − 1.
use Prim.Native.Nat.{ℕ, ◌+◌}
use mathlib.Core.List.{[], map}
use mathlib.Core.Path.{sym, ap, ◌∙◌}
use Rattle.store_definitions.specs.IndexLists.{up_to}
use Rattle.store_definitions.specs.Parts.{base_of}
use Rattle.row_readings.specs.IndexReadings.{up_to_count, next_below, other_count, far_ahead, list_written}
use Rattle.row_readings.proofs.index_list.next_indices_unchecked.Goals as goal

pub returns-then-out-base : goal.returns-then-out-base
returns-then-out-base c =
    let a = c.args in
    other_count a.s a.look_ahead (up_to (base_of a.s) []) a.out.now (λ e. c.if-out-base.true (e ∙ up_to_count (base_of a.s)))

pub returns-then-look_ahead-gt-LARGEST_LOOK_AHEAD : goal.returns-then-look_ahead-gt-LARGEST_LOOK_AHEAD
returns-then-look_ahead-gt-LARGEST_LOOK_AHEAD c =
    let a = c.args in
    far_ahead a.s a.look_ahead (up_to (base_of a.s) []) a.out.now (c.if-out-base.false ∙ sym (up_to_count (base_of a.s))) c.if-look_ahead-gt-LARGEST_LOOK_AHEAD.true

pub returns : goal.returns
returns c =
    let a = c.args in
    list_written a.s a.look_ahead (up_to (base_of a.s) []) a.out.now (c.if-out-base.false ∙ sym (up_to_count (base_of a.s))) c.if-look_ahead-gt-LARGEST_LOOK_AHEAD.false c.first_index-first.result c.count_from.new.out c.first_index-first.ensures (next_below a.s c.requires) (c.count_from.ensures ∙ ap (λ (n : ℕ). map (λ v. c.first_index-first.result + v) (up_to n [])) c.if-out-base.false)
