-- The marks are a local array of zeros.
use Rattle.interval_store_manager.specs.MarkLaws.{unmarked}
use Rattle.interval_store_manager.proofs.check.well_formed.Goals as goal

pub mark_free-requires : goal.mark_free-requires
mark_free-requires c = (λ h. h, unmarked 1024)
