-- What the product's definitions become for a C caller, as the store's do.
use Rattle.std.specs.Prelude.{ℕ, cond, ◌&&◌, List, [], leb, length}
use Rattle.store_definitions.specs.declared.Shape.{Shape}
use Rattle.store_definitions.specs.Answers.{Answer, kept, waiting, done, is, says, refused, refused_after}
use Rattle.store_definitions.specs.Memory.{Memory}
use Rattle.store_definitions.specs.Opening.{shape_allowed}
use Rattle.probes_definitions.specs.declared.Probes.{Probes}
use Rattle.probes_definitions.specs.Answers.{ProbesOutcome}
use Rattle.probes_definitions.specs.WellFormed.{eight_probes}
use Rattle.probes_definitions.specs.Opening.{probes_open_spec}
use Rattle.point_store_c.specs.ExportedStore.{returned, answered, Exported, exported}
use Rattle.point_store_c.specs.ProbesRecords.{probes_out, probes_recorded}

-- an outcome, for a caller whose record and lent numbers held these
unfoldable pub probes_exported_call : List ℕ → List ℕ → ProbesOutcome ℕ → Exported
probes_exported_call words xs o =
    exported (returned o.answer) (probes_recorded words o.after.header) (answered xs o.answer) o.after.memory

-- the record after an opening: a refused one leaves it
abbrev pub probes_opened_words : List ℕ → Answer → Probes → List ℕ
probes_opened_words words (kept i l w left) p = words
probes_opened_words words waiting p = words
probes_opened_words words done p = probes_out words p
probes_opened_words words (is n) p = words
probes_opened_words words (says b) p = words
probes_opened_words words (refused n) p = words
probes_opened_words words (refused_after n before) p = words

abbrev pub probes_opened_as : List ℕ → ProbesOutcome ℕ → Exported
probes_opened_as words o =
    exported (returned o.answer) (probes_opened_words words o.answer o.after.header) [] o.after.memory

-- a record too short: 2, then 1
unfoldable pub short_probes : Shape → ℕ
short_probes s = cond (shape_allowed s && eight_probes s.dimensions s.shingle_size s.internal_shingling) 1 2

-- an opening, for a caller whose record held these words
unfoldable pub probes_exported_opening : List ℕ → Shape → (text : List ℕ) → Memory ℕ → Exported
probes_exported_opening words s text m =
    cond (leb 47 (length words)) (probes_opened_as words (probes_open_spec 0 s text m)) (exported (short_probes s) words [] m)
