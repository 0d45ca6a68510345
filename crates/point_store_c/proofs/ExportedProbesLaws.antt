-- From what a call of the product ensures to what the exported call owes.
use Rattle.std.specs.Prelude.{ℕ, ◌<◌, true, ◌≡◌}
use Rattle.std.proofs.Common.{arith, ◌∙◌}
use mathlib.Core.List.{List}
use Rattle.std.proofs.Math.Path.{ap}
use Rattle.terms.specs.Below.{both}
use Rattle.store_definitions.specs.declared.Shape.{Shape}
use Rattle.store_definitions.specs.Answers.{Answer, refused}
use Rattle.store_definitions.specs.Bounds.{bounds_hold, start_allowed}
use Rattle.store_definitions.specs.Memory.{Memory}
use Rattle.store_laws.specs.BoundsLaws.{in_bounds}
use Rattle.probes_definitions.specs.declared.Probes.{Probes}
use Rattle.probes_definitions.specs.Answers.{ProbesOutcome, probes_outcome}
use Rattle.probes_definitions.specs.Memory.{point_probes}
use Rattle.store_definitions.specs.Opening.{shape_allowed}
use Rattle.point_store_c.specs.ProbesRecords.{probes_in, probes_recorded}
use Rattle.point_store_c.proofs.ProbesRecordLaws.{probes_record_kept}
use Rattle.point_store_c.specs.ExportedStore.{Read, read, exported_reading, exported}
use Rattle.point_store_c.specs.ExportedProbes.{probes_exported_call}

-- a refusal that leaves the product leaves the caller's record, numbers and memory
pub probes_refusal_leaves : (words xs : List ℕ) (m : Memory ℕ) (n : ℕ) → probes_exported_call words xs (probes_outcome (refused n) (point_probes (probes_in words) m)) ≡ exported n words xs m
unfolding probes_exported_call
probes_refusal_leaves words xs m n = ap (λ (l : List ℕ). exported n l xs m) (probes_record_kept words)

-- an answer with the product after the call, read with the lent numbers
pub probes_call_read : {a : Answer} {after : Probes} {m : Memory ℕ} {o : ProbesOutcome ℕ} → probes_outcome a (point_probes after m) ≡ o → (words xs ys : List ℕ) (n : ℕ) → read n ys ≡ exported_reading xs a → exported n (probes_recorded words after) ys m ≡ probes_exported_call words xs o
unfolding exported_reading probes_exported_call
probes_call_read {a = a} {after = after} {m = m} ensures words xs ys n e =
    ap (λ (r : Read). exported r.value (probes_recorded words after) r.numbers m) e ∙ ap (probes_exported_call words xs) ensures

-- within the bounds a shingle has a point
pub shingled : (s : Shape) → shape_allowed s ≡ true → 0 < s.shingle_size
shingled s e =
    omega (arith, (in_bounds s.dimensions s.shingle_size s.capacity (both (bounds_hold s.dimensions s.shingle_size s.capacity) (start_allowed s.initial_capacity s.capacity) e).0).shingle_least)
