-- The tests in turn, and then the law of a hold as its own calls leave it.
use Rattle.std.proofs.Common.{length, sym, ◌∙◌, arith}
use Rattle.store_definitions.specs.Parts.{table_length}
use Rattle.hold_check.specs.Steady.{steady_found}
use Rattle.hold_check.proofs.SteadyLaws.{counts_room, places_room, row_most}
use Rattle.hold_check.proofs.PartLaws.{entries_part, runs_part}
use Rattle.hold_check.proofs.steady.steady.Goals as goal

pub last_ends-requires : goal.last_ends-requires
last_ends-requires c =
    let start = c in
    let a = start.args in
    row_most a.s a.reference_count.now a.location.now start.requires

pub returns-then-runs_rise : goal.returns-then-runs_rise
returns-then-runs_rise c =
    let start = c in
    let a = start.args in
    let pair = c.in-Some.pair in
    let n = table_length a.s in
    let entries = sym (entries_part n pair.start pair.more pair.other pair.further a.reference_count.now a.location.now (counts_room a.s a.reference_count.now a.location.now start.requires)) ∙ sym c.entries_held.ensures ∙ c.if-entries_held.true in
    let runs = runs_part n a.location.now (places_room a.s a.reference_count.now a.location.now start.requires) a.list.now (c.runs_rise.ensures c.if-runs_rise.true) in
    λ t.
    steady_found a.s a.reference_count.now a.location.now a.index_starts.now a.index_ends.now a.list.now (length a.list.now) pair.start pair.more pair.other pair.further pair.free start.requires (omega arith) c.in-Some.ensures c.if-n-pair.true entries runs (c.last_ends.ensures t)
