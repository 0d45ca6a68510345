-- The two parts, put together.
use mathlib.Core.Path.{sym}
use Rattle.store_check.specs.CheckLaws.{record_parts}
use Rattle.store_check.proofs.record.record_well.Goals as goal

pub returns : goal.returns
returns c =
    let a = c.args in
    rw (c.table_allowed-table.ensures, c.numbers_well-numbers.ensures)
    (sym (record_parts a.s a.lent.floats a.lent.window a.lent.counts a.lent.places a.lent.starts a.lent.ends))
