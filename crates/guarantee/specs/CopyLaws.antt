-- What a copy call, and a count call, answer for a live index.
use Rattle.std.specs.Prelude.{ℕ, ◌<◌, List, ◌≡◌, get_or}
use borrow.Author.Tests.{lt-ltb}
use Rattle.store_definitions.specs.Memory.{PointStore}
use Rattle.store_definitions.specs.Answers.{is}
use Rattle.store_definitions.specs.Parts.{table_length}
use Rattle.store_definitions.specs.Decisions.{form_decided, touch_decided, live}
use Rattle.store_definitions.specs.Counting.{count_spec}
use Rattle.store_definitions.specs.Rows.{copy_of, copy_decided, copy_written, copy_spec}
use Rattle.store_laws.specs.Sound.{Sound, sound_make}
use Rattle.guarantee.specs.Relates.{copy_answer}

module _ {E : Type 0} (p : PointStore E) (w : Sound p) (i : ℕ) (listed : i < table_length p.header) (counted : 0 < get_or p.memory.reference_count i 0) where
  pub copy_answer_lem : (out : List E) → copy_spec p i out ≡ copy_answer p.header.dimensions (copy_of p i) out
  unfolding copy_spec copy_written copy_decided form_decided touch_decided live
  copy_answer_lem out = rw (sound_make p w, lt-ltb i (table_length p.header) listed, lt-ltb 0 (get_or p.memory.reference_count i 0) counted)

  pub count_answer_lem : count_spec p i ≡ is (get_or p.memory.reference_count i 0)
  unfolding count_spec form_decided touch_decided live
  count_answer_lem = rw (sound_make p w, lt-ltb i (table_length p.header) listed, lt-ltb 0 (get_or p.memory.reference_count i 0) counted)
