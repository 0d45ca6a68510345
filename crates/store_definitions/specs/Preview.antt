-- Document 01, 'The other readings': shingled_point, the preview of a window.
use Rattle.std.specs.Prelude.{ℕ, ◌*◌, ◌%◌, Bool, cond, not, ◌&&◌, List, length, take, ltb, eqb}
use Rattle.std.proofs.Math.Seq.{paste}
use Rattle.placement.specs.Row.{moved_window}
use Rattle.interval_store_manager.specs.Calls.{Decided}
use Rattle.store_definitions.specs.declared.Store.{Store}
use Rattle.store_definitions.specs.Memory.{PointStore}
use Rattle.store_definitions.specs.Answers.{Output}
use Rattle.store_definitions.specs.Parts.{base_of}
use Rattle.store_definitions.specs.Decisions.{refuse_if, form_decided, writes, then_output}

-- 'base entries and shingle size above 1 need internal shingling (else 3) ..; otherwise dimensions entries'
unfoldable pub previews : Store → ℕ → Bool
previews s n = eqb n (base_of s) && ltb 1 s.shingle_size

-- 3, of the lengths of point and output
unfoldable pub preview_decided : Store → ℕ → ℕ → Decided
preview_decided s n out =
    refuse_if (not (cond (previews s n) s.internal_shingling (eqb n s.dimensions) && eqb out s.dimensions)) 3

module _ {E : Type 0} where
  -- 'the window moved by base with the point last, or with rotation the unmoved window with the point over entry
  -- (sequence × base) mod dimensions'
  unfoldable pub shown : Bool → (dims base sequence : ℕ) → (window point : List E) → List E
  shown rotation dims base sequence window point =
      cond rotation (paste (take dims window) (sequence * base % dims) point base) (moved_window base (take dims window) point)

  -- '.. otherwise dimensions entries, unchanged'
  unfoldable pub previewed : Store → (window point : List E) → List E
  previewed s window point =
      cond (previews s (length point))
      (shown s.internal_rotation s.dimensions (base_of s) s.next_sequence_index window point)
      point

  -- the preview of a store that is checked
  unfoldable pub preview_written : Store → (window point out : List E) → Output E
  preview_written s window point out = writes (preview_decided s (length point) (length out)) out (previewed s window point)

  unfoldable pub shingled_point_spec : PointStore E → List E → List E → Output E
  shingled_point_spec p point out =
      then_output (form_decided p) out (preview_written p.header p.memory.last_known_shingle point out)
