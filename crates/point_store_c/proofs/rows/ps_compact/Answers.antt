-- What the store's compact ensures, carried to the record and the return value.
use mathlib.Core.List.{[]}
use Rattle.point_store_c.proofs.ExportedStoreLaws.{call_read}
use Rattle.point_store_c.proofs.rows.ps_compact.Goals as goal

pub returns : goal.returns
returns c = cc (call_read c.compact-answer.ensures c.args.words.now [] [] c.done_number.result c.done_number.ensures)
