-- Document 01, 'The other readings': missing_indices and next_indices.
use Rattle.std.specs.Prelude.{ℕ, zero, suc, ◌+◌, ◌*◌, ◌%◌, Bool, true, cond, not, ◌&&◌, ◌||◌, List, [], ◌∷◌, map, length, ltb, eqb}
use Rattle.interval_store_manager.specs.Calls.{Decided}
use Rattle.store_definitions.specs.declared.Store.{Store}
use Rattle.store_definitions.specs.Memory.{PointStore}
use Rattle.store_definitions.specs.Answers.{Output}
use Rattle.store_definitions.specs.Parts.{base_of, extra_of}
use Rattle.store_definitions.specs.Decisions.{and_then, refuse_if, form_decided, writes, then_output}

-- 'values below dimensions unchanged without internal shingling; with it, values below base ..'
unfoldable pub value_limit : Store → ℕ
value_limit s = cond s.internal_shingling (base_of s) s.dimensions

unfoldable pub values_below : ℕ → List ℕ → Bool
values_below n [] = true
values_below n (v ∷ vs) = ltb v n && values_below n vs

-- '.. become extra + v, or rotating ((sequence + look-ahead) × base + v) mod dimensions'
unfoldable pub index_of : Store → ℕ → ℕ → ℕ
index_of s look_ahead v =
    cond s.internal_shingling
    (cond s.internal_rotation
    (((s.next_sequence_index + look_ahead) * base_of s + v) % s.dimensions)
    (extra_of s + v))
    v

-- 0 to n − 1
unfoldable pub up_to : ℕ → List ℕ → List ℕ
up_to zero rest = rest
up_to (suc n) rest = up_to n (n ∷ rest)

-- 'index lists 3, then the first bad value or look-ahead 11'
unfoldable pub index_list_decided : Store → ℕ → List ℕ → ℕ → Decided
index_list_decided s look_ahead values out =
    and_then (refuse_if (not (eqb out (length values))) 3)
    (refuse_if (ltb 65535 look_ahead || not (values_below (value_limit s) values)) 11)

-- the lists of a store that is checked
unfoldable pub indices_written : Store → ℕ → (values out : List ℕ) → Output ℕ
indices_written s look_ahead values out =
    writes (index_list_decided s look_ahead values (length out)) out (map (index_of s look_ahead) values)

-- 'next_indices does so for 0 to base − 1.'
abbrev pub next_values : Store → List ℕ
next_values s = up_to (base_of s) []

module _ {E : Type 0} where
  unfoldable pub missing_indices_spec : PointStore E → ℕ → List ℕ → List ℕ → Output ℕ
  missing_indices_spec p look_ahead values out =
      then_output (form_decided p) out (indices_written p.header look_ahead values out)

  unfoldable pub next_indices_spec : PointStore E → ℕ → List ℕ → Output ℕ
  next_indices_spec p look_ahead out = missing_indices_spec p look_ahead (next_values p.header) out
