-- A label's class answer is its code's class for as long as it is live: it is so in every well-formed label half, and no
-- operation changes the code of a label that is live before and after.
use Rattle.std.specs.Prelude.{ℕ, ◌<◌, List, true, ◌≡◌, get_or}
use Rattle.std.proofs.Math.Path.{refl}
use Rattle.std.proofs.Common.{sym, ◌∙◌, ap, lt-ltb}
use Rattle.labels.specs.Classes.{class_of}
use Rattle.labels.specs.Labels.{Labels, code_at, label_count_at, label_raised, label_lowered}
use Rattle.labels.specs.Sound.{Sound}
use Rattle.labels.specs.Decisions.{in_use}
use Rattle.labels.specs.Readings.{Answer, holds, label_spec, attribute_spec}
use Rattle.labels.specs.CountLaws.{inc_keeps, dec_keeps}

-- what the readings label and attribute answer
abbrev pub code_answer : ℕ → Labels → ℕ → Answer
code_answer c l i = label_spec true c l.labels l.label_table.counts i

abbrev pub class_answer : ℕ → Labels → ℕ → Answer
class_answer c l i = attribute_spec true c l.label_attributes l.label_table.counts l.attributes i

pub live_in_use : (c : ℕ) (counts : List ℕ) (i : ℕ) → i < c → 0 < get_or counts i 0 → in_use true c counts i ≡ true
unfolding in_use
live_in_use c counts i m u = rw (lt-ltb i c m, lt-ltb 0 (get_or counts i 0) u)

module _ (classes : List ℕ) (c : ℕ) where
  -- of a live label the answers are its code, and its code's class
  pub code_answer_lem : (l : Labels) (i : ℕ) → i < c → 0 < label_count_at l i → code_answer c l i ≡ holds (code_at l i)
  unfolding label_spec
  code_answer_lem l i m u = rw (live_in_use c l.label_table.counts i m u)

  pub class_answer_lem : (l : Labels) → Sound classes c l → (i : ℕ) → i < c → 0 < label_count_at l i → class_answer c l i ≡ holds (class_of classes (code_at l i))
  unfolding attribute_spec
  class_answer_lem l w i m u = rw (live_in_use c l.label_table.counts i m u) (ap holds (w.stands i m u).slot_class)

  -- so it stays where the code stays
  pub stays : (l k : Labels) → Sound classes c l → Sound classes c k → (i : ℕ) → i < c → 0 < label_count_at l i → 0 < label_count_at k i → code_at k i ≡ code_at l i → class_answer c k i ≡ class_answer c l i
  stays l k w x i m u v e =
      class_answer_lem k x i m v ∙ (ap (λ (n : ℕ). holds (class_of classes n)) e ∙ sym (class_answer_lem l w i m u))

  module _ (l : Labels) (w : Sound classes c l) (i : ℕ) (m : i < c) (u : 0 < label_count_at l i) where
    module _ (k : ℕ) (b : k < c) (n : 0 < label_count_at l k) where
      pub raised_answer : label_count_at l k < 65535 → 0 < label_count_at (label_raised l k) i → class_answer c (label_raised l k) i ≡ class_answer c l i
      unfolding label_raised
      raised_answer f v = stays l (label_raised l k) w (inc_keeps classes c l w k b n f) i m u v refl

      pub lowered_answer : 0 < label_count_at (label_lowered l k) i → class_answer c (label_lowered l k) i ≡ class_answer c l i
      unfolding label_lowered
      lowered_answer v = stays l (label_lowered l k) w (dec_keeps classes c l w k b n) i m u v refl
