-- Document 01, 'Inc, dec', 'Adjust', and the readings count, live number and free start.
use Rattle.std.specs.Prelude.{ℕ, suc, cond, List, [], ◌∷◌, get_or, set, eqb}
use Rattle.interval_store_manager.specs.Calls.{Decided, go, refuse}
use Rattle.labels.specs.Counted.{raised, lowered, live_number}
use Rattle.labels.specs.Decisions.{none, inc_decided, dec_decided}
use Rattle.labels.specs.Labels.{label_raised, label_lowered}
use Rattle.store_definitions.specs.Memory.{PointStore}
use Rattle.store_definitions.specs.Answers.{Answer, done, refused_after, Outcome, outcome}
use Rattle.store_definitions.specs.Parts.{table_length, point_table, label_half, with_points, with_labels}
use Rattle.store_definitions.specs.Decisions.{and_then, refuse_if, form_decided, touch_decided, carried_out, reads}

-- the four numbers of a pair: insert index and label, delete index and label
pub record Pairing : Type 0 where
  pub insert_index : ℕ
  pub insert_label : ℕ
  pub delete_index : ℕ
  pub delete_label : ℕ

module _ {E : Type 0} where
  abbrev count_of : PointStore E → ℕ → ℕ
  count_of p i = get_or p.memory.reference_count i 0

  -- 'inc 5, 6, 7': of an index and a label index, in a well-formed store
  unfoldable pub inc_test : PointStore E → ℕ → ℕ → Decided
  inc_test p i l =
      and_then (touch_decided p i)
      (and_then (inc_decided p.header.store_labels p.header.capacity p.memory.label_count l)
      (refuse_if (eqb (count_of p i) 65535) 7))

  -- 'dec 5, 6'
  unfoldable pub dec_test : PointStore E → ℕ → ℕ → Decided
  dec_test p i l =
      and_then (touch_decided p i)
      (dec_decided p.header.store_labels p.header.capacity p.memory.label_count l)

  -- one count more of the point and, with labels on, of the label
  unfoldable pub incremented : PointStore E → ℕ → ℕ → PointStore E
  incremented p i l =
      let q = with_points (raised (point_table p) i) p.memory.location p in
      cond p.header.store_labels (with_labels (label_raised (label_half p) l) q) q

  -- 'At 0 the index is released and its place emptied'
  unfoldable pub place_after_dec : PointStore E → ℕ → List ℕ
  place_after_dec p i = cond (eqb (count_of p i) 1) (set p.memory.location i 65535) p.memory.location

  unfoldable pub decremented : PointStore E → ℕ → ℕ → PointStore E
  decremented p i l =
      let q = with_points (lowered (point_table p) i) (place_after_dec p i) p in
      cond p.header.store_labels (with_labels (label_lowered (label_half p) l) q) q

  unfoldable pub inc_spec : PointStore E → ℕ → ℕ → Outcome E
  inc_spec p i l = carried_out (and_then (form_decided p) (inc_test p i l)) p (outcome done (incremented p i l))

  unfoldable pub dec_spec : PointStore E → ℕ → ℕ → Outcome E
  dec_spec p i l = carried_out (and_then (form_decided p) (dec_test p i l)) p (outcome done (decremented p i l))

  -- a pair carried out: 'inc, then, judged on the counts so raised, dec unless its index is none'; a refused pair changes nothing
  unfoldable pub pair_decided : PointStore E → Pairing → Decided
  pair_decided p q =
      and_then (inc_test p q.insert_index q.insert_label)
      (cond (eqb q.delete_index none) go
      (dec_test (incremented p q.insert_index q.insert_label) q.delete_index q.delete_label))

  unfoldable pub pair_done : PointStore E → Pairing → PointStore E
  pair_done p q =
      let r = incremented p q.insert_index q.insert_label in
      cond (eqb q.delete_index none) r (decremented r q.delete_index q.delete_label)

  -- a refusal ends the call with how many pairs stand before it, the store as they left it
  abbrev pub unless_refused : Decided → ℕ → PointStore E → Outcome E → Outcome E
  unless_refused go before p o = o
  unless_refused (refuse n) before p o = outcome (refused_after n before) p

  -- a pair is skipped ('Insert index none'), refused ('changes nothing and ends the call'), or carried out, and the list goes on
  unfoldable pub adjust_from : ℕ → List Pairing → PointStore E → Outcome E
  adjust_from before [] p = outcome done p
  adjust_from before (q ∷ qs) p =
      cond (eqb q.insert_index none) (adjust_from (suc before) qs p)
      (unless_refused (pair_decided p q) before p (adjust_from (suc before) qs (pair_done p q)))

  unfoldable pub adjust_spec : PointStore E → List Pairing → Outcome E
  adjust_spec p qs = unless_refused (form_decided p) 0 p (adjust_from 0 qs p)

  -- 'count 5'
  unfoldable pub count_spec : PointStore E → ℕ → Answer
  count_spec p i = reads (and_then (form_decided p) (touch_decided p i)) (count_of p i)

  unfoldable pub live_number_spec : PointStore E → Answer
  live_number_spec p = reads (form_decided p) (live_number (table_length p.header) (point_table p))

  unfoldable pub free_start_spec : PointStore E → Answer
  free_start_spec p = reads (form_decided p) p.header.start_free_region
