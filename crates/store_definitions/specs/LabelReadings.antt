-- Document 01, 'The other readings': label, attribute and attribute_vec. What they read, with 6 and 3, is the label half's; here
-- 1 comes first.
use Rattle.std.specs.Prelude.{ℕ, cond, List, Float}
use Rattle.labels.specs.Readings as reading
use Rattle.store_definitions.specs.Memory.{PointStore}
use Rattle.store_definitions.specs.Answers.{Answer, done, is, refused, Output, output}
use Rattle.store_definitions.specs.WellFormed.{well_formed}

abbrev pub told : reading.Answer → Answer
told (reading.holds n) = is n
told reading.written = done
told (reading.refused n) = refused n

module _ {E : Type 0} where
  -- the code
  unfoldable pub label_spec : PointStore E → ℕ → Answer
  label_spec p l =
      let s = p.header in
      let m = p.memory in
      cond (well_formed p) (told (reading.label_spec s.store_labels s.capacity m.labels m.label_count l)) (refused 1)

  -- its class
  unfoldable pub attribute_spec : PointStore E → ℕ → Answer
  attribute_spec p l =
      let s = p.header in
      let m = p.memory in
      cond (well_formed p)
      (told (reading.attribute_spec s.store_labels s.capacity m.label_attributes m.label_count m.attributes l))
      (refused 1)

  -- ten floats
  unfoldable pub attribute_vec_spec : PointStore E → ℕ → List Float → Output Float
  attribute_vec_spec p l out =
      let s = p.header in
      let m = p.memory in
      let o = reading.attribute_vec_spec s.store_labels s.capacity m.label_attributes m.label_count l out in
      cond (well_formed p) (output (told o.answer) o.out) (output (refused 1) out)
