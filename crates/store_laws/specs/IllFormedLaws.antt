-- An ill-formed store gives 1 to every call, and nothing is changed.
use Rattle.std.specs.Prelude.{ℕ, Bool, false, List, ◌≡◌, Float}
use Rattle.interval_store_manager.specs.Calls.{refuse}
use Rattle.store_definitions.specs.Memory.{PointStore}
use Rattle.store_definitions.specs.Answers.{refused, refused_after, outcome, output}
use Rattle.store_definitions.specs.Decisions.{form_decided}
use Rattle.store_definitions.specs.Counting.{Pairing, inc_spec, dec_spec, adjust_spec, count_spec, live_number_spec, free_start_spec}
use Rattle.store_definitions.specs.Rows.{compact_spec, copy_spec}
use Rattle.store_definitions.specs.Adding.{add_decided, add_spec}
use Rattle.store_definitions.specs.Sums.{Weighted, is_equal_spec, point_sum_spec}
use Rattle.store_definitions.specs.Preview.{shingled_point_spec}
use Rattle.store_definitions.specs.IndexLists.{next_values, missing_indices_spec, next_indices_spec}
use Rattle.store_definitions.specs.LabelReadings.{label_spec, attribute_spec, attribute_vec_spec}
use Rattle.store_definitions.specs.WellFormed.{well_formed}

module _ {E : Type 0} (p : PointStore E) (w : well_formed p ≡ false) where
  ill : form_decided p ≡ refuse 1
  unfolding form_decided
  ill = rw w

  pub inc_ill : (i l : ℕ) → inc_spec p i l ≡ outcome (refused 1) p
  unfolding inc_spec
  inc_ill i l = rw ill

  pub dec_ill : (i l : ℕ) → dec_spec p i l ≡ outcome (refused 1) p
  unfolding dec_spec
  dec_ill i l = rw ill

  -- 'An adjust refusal carries also how many pairs stand before the refused one': none
  pub adjust_ill : (qs : List Pairing) → adjust_spec p qs ≡ outcome (refused_after 1 0) p
  unfolding adjust_spec
  adjust_ill qs = rw ill

  pub compact_ill : (zero_element : E) → compact_spec zero_element p ≡ outcome (refused 1) p
  unfolding compact_spec
  compact_ill zero_element = rw ill

  pub add_ill : (eq : E → E → Bool) (zero_element : E) (point : List E) (code : ℕ) → add_spec eq zero_element p point code ≡ outcome (refused 1) p
  unfolding add_spec add_decided
  add_ill eq zero_element point code = rw ill

  pub count_ill : (i : ℕ) → count_spec p i ≡ refused 1
  unfolding count_spec
  count_ill i = rw ill

  pub live_number_ill : live_number_spec p ≡ refused 1
  unfolding live_number_spec
  live_number_ill = rw ill

  pub free_start_ill : free_start_spec p ≡ refused 1
  unfolding free_start_spec
  free_start_ill = rw ill

  pub copy_ill : (i : ℕ) (out : List E) → copy_spec p i out ≡ output (refused 1) out
  unfolding copy_spec
  copy_ill i out = rw ill

  pub equal_ill : (eq : E → E → Bool) (i : ℕ) (point : List E) → is_equal_spec eq p i point ≡ refused 1
  unfolding is_equal_spec
  equal_ill eq i point = rw ill

  pub sum_ill : {S : Type 0} (add : ℕ → List S → List E → List S) (zero_sum : S) (ws : List Weighted) (out : List S) → point_sum_spec add zero_sum p ws out ≡ output (refused 1) out
  unfolding point_sum_spec
  sum_ill add zero_sum ws out = rw ill

  pub preview_ill : (point out : List E) → shingled_point_spec p point out ≡ output (refused 1) out
  unfolding shingled_point_spec
  preview_ill point out = rw ill

  pub missing_ill : (look_ahead : ℕ) (values out : List ℕ) → missing_indices_spec p look_ahead values out ≡ output (refused 1) out
  unfolding missing_indices_spec
  missing_ill look_ahead values out = rw ill

  pub next_ill : (look_ahead : ℕ) (out : List ℕ) → next_indices_spec p look_ahead out ≡ output (refused 1) out
  unfolding next_indices_spec
  next_ill look_ahead out = missing_ill look_ahead (next_values p.header) out

  pub label_ill : (l : ℕ) → label_spec p l ≡ refused 1
  unfolding label_spec
  label_ill l = rw w

  pub attribute_ill : (l : ℕ) → attribute_spec p l ≡ refused 1
  unfolding attribute_spec
  attribute_ill l = rw w

  pub attribute_vec_ill : (l : ℕ) (out : List Float) → attribute_vec_spec p l out ≡ output (refused 1) out
  unfolding attribute_vec_spec
  attribute_vec_ill l out = rw w
