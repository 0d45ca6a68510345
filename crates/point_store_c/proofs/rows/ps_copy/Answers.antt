-- What the store's copy ensures, carried to the return value.
use Rattle.store_definitions.specs.Answers.{done_means}
use Rattle.point_store_c.proofs.ExportedStoreLaws.{output_read}
use Rattle.point_store_c.proofs.rows.ps_copy.Goals as goal

pub returns : goal.returns
returns c =
    let g = c.copy-answer in
    cc (c.new-tables.ensures c.args.store.now c.args.last_known_shingle.now, output_read (done_means g.result) g.new.out c.done_number.result c.done_number.ensures)
