-- From what a call of the hold ensures to what the exported call owes, for any of the definitions f.
use Rattle.std.specs.Prelude.{ℕ, ◌≡◌}
use mathlib.Core.List.{List}
use Rattle.std.proofs.Common.{◌∙◌}
use Rattle.std.proofs.Math.Path.{ap}
use Rattle.store_definitions.specs.Answers.{Answer, refused}
use Rattle.hold_definitions.specs.declared.Hold.{Hold}
use Rattle.hold_definitions.specs.Answers.{HoldOutcome, hold_outcome}
use Rattle.hold_definitions.specs.Memory.{HoldMemory, point_hold}
use Rattle.point_store_c.specs.HoldRecords.{hold_in, hold_recorded}
use Rattle.point_store_c.proofs.HoldRecordLaws.{hold_record_kept}
use Rattle.point_store_c.specs.ExportedStore.{Read, read, exported_reading}
use Rattle.point_store_c.specs.ExportedHold.{hold_exported, hold_exported_call}

-- a refusal that leaves the hold leaves the caller's record, numbers and memory
pub hold_refusal_leaves : (words xs : List ℕ) (m : HoldMemory ℕ) (n : ℕ) → hold_exported_call words xs (hold_outcome (refused n) (point_hold (hold_in words) m)) ≡ hold_exported n words xs m
unfolding hold_exported_call
hold_refusal_leaves words xs m n = ap (λ (l : List ℕ). hold_exported n l xs m) (hold_record_kept words)

-- an answer with the hold after the call, read with the lent numbers
pub hold_call_read : {a : Answer} {after : Hold} {m : HoldMemory ℕ} {o : HoldOutcome ℕ} → hold_outcome a (point_hold after m) ≡ o → (words xs ys : List ℕ) (n : ℕ) → read n ys ≡ exported_reading xs a → hold_exported n (hold_recorded words after) ys m ≡ hold_exported_call words xs o
unfolding exported_reading hold_exported_call
hold_call_read {a = a} {after = after} {m = m} ensures words xs ys n e =
    ap (λ (r : Read). hold_exported r.value (hold_recorded words after) r.numbers m) e ∙ ap (hold_exported_call words xs) ensures
