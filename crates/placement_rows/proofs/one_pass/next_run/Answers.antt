-- By the tests on the end of what was read and on rotation.
use Rattle.std.proofs.Common.{ℕ, ◌*◌, ◌/◌, sym, ap, ◌∙◌, add-zero, arith, le-leb}
use borrow.Author.Tests.{lt-leb}
use Rattle.placement.specs.Alignment.{zeros_before}
use Rattle.placement_rows.specs.OnePass.{run_of, run_from}
use Rattle.placement_rows.proofs.OneRun.{zeros_small, joined_within, joined_place, started_place}
use Rattle.placement_rows.proofs.one_pass.next_run.Goals as goal

pub overflow_sub-result-then-start-done : goal.overflow_sub-result-then-start-done
overflow_sub-result-then-start-done c =
    let start = c in
    let a = start.args in
    let pre = start.requires in
    let joins = c.if-start-done.true in
    joined_within a.shape.dimensions a.shape.base a.place a.done.free a.done.read a.done.free_place a.done.read_place pre.0.some_base pre.1.free_place_lem pre.1.read_place_lem joins (pre.0.enough joins)

pub returns-then-start-done : goal.returns-then-start-done
unfolding run_of
returns-then-start-done c =
    let start = c in
    let a = start.args in
    let pre = start.requires in
    let joins = c.if-start-done.true in
    let place = joined_place a.shape.dimensions a.shape.base a.place a.done.free a.done.read a.done.free_place a.done.read_place pre.0.some_base pre.1.free_place_lem pre.1.read_place_lem joins (pre.0.enough joins) (pre.0.within joins) in
    rw (le-leb _ _ joins) (λ k. record { zeros = 0; from = a.done.read; place = place k })

pub overflow_add-result : goal.overflow_add-result
overflow_add-result c =
    let start = c in
    let a = start.args in
    omega (arith, start.requires.0.some, start.requires.0.small, start.requires.0.written, zeros_small a.shape.dimensions _ _ _ start.requires.0.some c.zeros_before-zeros.ensures)

pub returns-then-shape : goal.returns-then-shape
unfolding run_of zeros_before
returns-then-shape c =
    let a = c.args in
    let zeros = c.zeros_before-zeros.ensures in
    let place = started_place a.shape.dimensions a.shape.base a.place a.done.free c.zeros_before-zeros.result in
    rw (lt-leb _ _ c.if-start-done.false, c.if-shape.true)
    ((λ k. record { zeros = c.zeros_before-zeros.result; from = a.place * a.shape.base; place = place k })
    ∙ ap (λ (n : ℕ). run_from a.shape.dimensions a.shape.base a.place a.done.free n (a.place * a.shape.base)) zeros)

pub returns : goal.returns
unfolding run_of zeros_before
returns c =
    let start = c in
    let a = start.args in
    let place = start.requires.1.free_place_lem ∙ ap (λ (n : ℕ). n / a.shape.base) (sym (add-zero a.done.free)) ∙ started_place a.shape.dimensions a.shape.base a.place a.done.free 0 in
    rw (lt-leb _ _ c.if-start-done.false, c.if-shape.false) (λ k. record { zeros = 0; from = a.place * a.shape.base; place = place k })
