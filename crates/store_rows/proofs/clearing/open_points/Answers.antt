-- Each table's first entries are filled.
use Rattle.std.proofs.Common.{◌≡◌, ◌*◌, ◌++◌, drop, rules}
use Rattle.store_definitions.specs.Opening.{filled_first}
use Rattle.interval_store_manager.specs.Answers.{opened, opening}
use Rattle.label_opening.specs.OpeningLaws.{may_open}
use Rattle.store_definitions.specs.Lent.{points_lent}
use Rattle.store_rows.specs.Openings.{points_in, points_opened_lem, stack_opened, start_stack}
use Rattle.store_rows.proofs.clearing.open_points.Goals as goal

pub new_unchecked-requires : goal.new_unchecked-requires
new_unchecked-requires c =
    let a = c.args in
    may_open a.shape.initial_capacity a.tables.now.index_starts.now a.tables.now.index_ends.now (start_stack a.shape (points_in a.store.now a.last_known_shingle.now (points_lent a.tables.now)) c.requires)

pub returns-clause-opened : goal.returns-clause-opened
returns-clause-opened c =
    let a = c.args in
    let start = a.shape.initial_capacity in
    let p = points_in a.store.now a.last_known_shingle.now (points_lent a.tables.now) in
    let new = c.new_unchecked in
    let stack = stack_opened start a.tables.now.index_starts.now a.tables.now.index_ends.now (opening (opened new.result) new.new.starts new.new.ends) (start_stack a.shape p c.requires) new.ensures in
    let words : c.fill.new.self ++ drop (start * a.shape.dimensions) a.store.now ≡ filled_first (start * a.shape.dimensions) 0 a.store.now = search rules in
    let window : c.fill-2.new.self ++ drop a.shape.dimensions a.last_known_shingle.now ≡ filled_first a.shape.dimensions 0 a.last_known_shingle.now = search rules in
    let counts : c.fill-3.new.self ++ drop start a.tables.now.reference_count.now ≡ filled_first start 0 a.tables.now.reference_count.now = search rules in
    let places : c.fill-4.new.self ++ drop start a.tables.now.location.now ≡ filled_first start 65535 a.tables.now.location.now = search rules in
    points_opened_lem a.shape p _ _ _ _ new.new.starts new.new.ends words window counts places stack
