-- The label readings after the check: what the label half answers is the store's answer.
use Rattle.std.specs.Prelude.{ℕ, true, List, ◌≡◌, Float, Result, Ok, Err}
use Rattle.std.proofs.Common.{ap, refl}
use Rattle.terms.specs.declared.Refusal.{Refusal}
use Rattle.labels.specs.Readings as reading
use Rattle.store_definitions.specs.Memory.{PointStore}
use Rattle.store_definitions.specs.Answers.{output, done_means, number_means}
use Rattle.store_definitions.specs.LabelReadings.{told, label_spec, attribute_spec, attribute_vec_spec}
use Rattle.store_definitions.specs.WellFormed.{well_formed}

-- a refusal has one number in both
pub number_told : (read : Result ℕ Refusal) → number_means read ≡ told (reading.label_read_means read)
number_told (Ok n) = refl
number_told (Err r) = refl

pub vector_told : (read : Result Unit Refusal) → done_means read ≡ told (reading.vector_read_means read)
vector_told (Ok _) = refl
vector_told (Err r) = refl

module _ {E : Type 0} (p : PointStore E) (l : ℕ) where
  pub label_checked : well_formed p ≡ true → (a : reading.Answer)
      → a ≡ reading.label_spec p.header.store_labels p.header.capacity p.memory.labels p.memory.label_count l
      → told a ≡ label_spec p l
  unfolding label_spec
  label_checked e a q = rw e (ap told q)

  pub attribute_checked : well_formed p ≡ true → (a : reading.Answer)
      → a ≡ reading.attribute_spec p.header.store_labels p.header.capacity p.memory.label_attributes p.memory.label_count p.memory.attributes l
      → told a ≡ attribute_spec p l
  unfolding attribute_spec
  attribute_checked e a q = rw e (ap told q)

  pub vec_checked : (out : List Float) → well_formed p ≡ true → (a : reading.Answer) (after : List Float)
      → reading.vector_outcome a after ≡ reading.attribute_vec_spec p.header.store_labels p.header.capacity p.memory.label_attributes p.memory.label_count l out
      → output (told a) after ≡ attribute_vec_spec p l out
  unfolding attribute_vec_spec
  vec_checked out e a after q = rw e (ap (λ (o : reading.VectorOutcome). output (told o.answer) o.out) q)
