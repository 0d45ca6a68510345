-- What the store's attribute_vec ensures, carried to the return value.
use Rattle.store_definitions.specs.Answers.{done_means}
use Rattle.point_store_c.proofs.ExportedStoreLaws.{output_read}
use Rattle.point_store_c.proofs.label_readings.ps_attribute_vec.Goals as goal

pub returns : goal.returns
returns c =
    let g = c.attribute_vec-answer in
    cc (c.new-tables.ensures c.args.store.now c.args.last_known_shingle.now, output_read (done_means g.result) g.new.out c.done_number.result c.done_number.ensures)
