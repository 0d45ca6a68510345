-- What the store's page ensures, carried to the lent number, the text and the return value.
use mathlib.Core.List.{[], ◌∷◌}
use Rattle.store_definitions.specs.Answers.{number_means}
use Rattle.point_store_c.specs.ExportedPage.{page_read}
use Rattle.point_store_c.proofs.page_call.ps_page.Goals as goal

pub returns : goal.returns
returns c =
    let g = c.page-answer in
    let o = c.number_out in
    cc (c.new-tables.ensures c.args.store.now c.args.last_known_shingle.now, page_read (number_means g.result) g.new.text (c.args.page_length.now ∷ []) (o.new.number ∷ []) o.result o.ensures)
