-- What the store's reading ensures, carried to the lent number and the return value.
use Rattle.point_store_c.proofs.counts.ps_live_number.Goals as goal

pub returns : goal.returns
returns c = cc (c.new-tables.ensures c.args.store.now c.args.last_known_shingle.now)
