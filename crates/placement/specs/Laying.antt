-- A row is laid at the free start: whole, or joined to the row before it. `joined` is what `overlaps` says.
use Rattle.std.specs.Prelude.{Bool, cond, List, ℕ, ◌+◌, ◌-◌, ◌/◌, drop}
use Rattle.std.proofs.Math.Seq.{paste}
use Rattle.placement.specs.declared.Laid.{Laid}
use Rattle.placement.specs.declared.Laid.TheVariants.{Whole, Joined}

module _ (dims base : ℕ) (joined : Bool) where
  -- Document 01, 'Refused calls': 'the floats to be written (base on overlap, else dimensions)'
  unfoldable pub written_count : ℕ
  written_count = cond joined base dims

  -- 'Add': 'Then place is (free start − extra) / base and only the last base floats are written; else place is
  -- free start / base and all are written.'
  unfoldable pub laid_as : ℕ → Laid
  laid_as free = cond joined (Joined ((free - (dims - base)) / base)) (Whole (free / base))

  -- the elements afterwards: the row's last elements stand from the free start on
  unfoldable pub laid_elements : {E : Type 0} → ℕ → List E → List E → List E
  laid_elements free elements row = paste elements free (drop (dims - written_count) row) written_count

  -- 'The free start follows the last write.'
  unfoldable pub laid_free : ℕ → ℕ
  laid_free free = free + written_count

-- the place in the answer
unfoldable pub place_of : Laid → ℕ
place_of (Whole place) = place
place_of (Joined place) = place
