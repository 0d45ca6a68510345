-- Each live place has an entry.
use Rattle.std.proofs.Common.{length}
use Rattle.placement_rows.proofs.Tables.{places_inside}
use Rattle.placement_rows.proofs.compaction.compact_with.Goals as goal

pub index_places-requires-clause-inside : goal.index_places-requires-clause-inside
index_places-requires-clause-inside c =
    let a = c.args in
    places_inside a.shape.dimensions a.shape.base a.location.now a.start_free_region (length a.store.now) a.index_at.now c.requires
