-- A well-formed store gives 1 to no call.
use Rattle.std.specs.Prelude.{ℕ, cond, ◌&&◌, ◌||◌, length, get_or, Float}
use native.Mathlib.Omega.{arith}
use Rattle.std.proofs.Math.Bool.{Bool, true, false, not}
use mathlib.Core.List.{List, [], ◌∷◌}
use Rattle.std.proofs.Math.Path.{◌≡◌, refl, ap}
use Rattle.std.proofs.Common.{sym, ◌∙◌}
use Rattle.std.proofs.Math.Dec.{ltb, eqb}
use Rattle.interval_store_manager.specs.Calls.{Decided, go, refuse}
use Rattle.labels.specs.Decisions.{none, in_use, inc_decided, dec_decided}
use Rattle.labels.specs.Readings as reading
use Rattle.store_definitions.specs.Memory.{PointStore}
use Rattle.store_definitions.specs.Answers.{refused, refused_after}
use Rattle.store_definitions.specs.Parts.{rows_of, with_rows}
use Rattle.store_definitions.specs.Decisions.{and_then, refuse_if, reads, writes, form_decided, live, touch_decided}
use Rattle.store_definitions.specs.Counting.{Pairing, inc_test, dec_test, incremented, decremented, inc_spec, dec_spec, pair_decided, adjust_spec, count_spec, live_number_spec, free_start_spec}
use Rattle.store_definitions.specs.Rows.{compacted_rows, compact_spec, copy_decided, copy_written, copy_spec}
use Rattle.store_definitions.specs.Adding.{AddDecided, keep, wait, refuse_add, add_decided, add_carried_out, add_spec}
use Rattle.store_definitions.specs.Sums.{Weighted, answers, equality, is_equal_spec, items_decided, sum_written, point_sum_spec}
use Rattle.store_definitions.specs.Preview.{previews, preview_decided, preview_written, shingled_point_spec}
use Rattle.store_definitions.specs.IndexLists.{value_limit, values_below, next_values, index_list_decided, indices_written, missing_indices_spec, next_indices_spec}
use Rattle.store_definitions.specs.LabelReadings.{told, label_spec, attribute_spec, attribute_vec_spec}
use Rattle.store_definitions.specs.WellFormed.{well_formed}
use Rattle.store_laws.specs.DecisionLaws.{Never, never_go, never_then, never_if, never_unless}
use Rattle.store_laws.specs.RefusalLaws.{carried_refused, keeps_refused, add_never}
use Rattle.store_laws.specs.AdjustLaws.{step_decided, adjust_refused}

-- no other decision gives 1
label_inc_never : (on : Bool) (c : ℕ) (counts : List ℕ) (l : ℕ) → Never 1 (inc_decided on c counts l)
unfolding inc_decided
label_inc_never true c counts l = split (in_use true c counts l) (eqb (get_or counts l 0) 65535)
  where
    split : (a b : Bool) → Never 1 (cond a (cond b (refuse 7) go) (refuse 6))
    split true b = never_if 1 b 7 (λ z. omega arith)
    split false b = λ e. let z : ◌≡◌ {A = ℕ} 6 1 = cc in omega arith
label_inc_never false c counts l = never_go 1

label_dec_never : (on : Bool) (c : ℕ) (counts : List ℕ) (l : ℕ) → Never 1 (dec_decided on c counts l)
unfolding dec_decided
label_dec_never true c counts l = never_unless 1 (in_use true c counts l) 6 (λ z. omega arith)
label_dec_never false c counts l = never_unless 1 (eqb l none) 6 (λ z. omega arith)

-- answers that a decision alone refuses
reads_refused : (d : Decided) (n k : ℕ) → reads d n ≡ refused k → d ≡ refuse k
reads_refused go n k e = absurd (let z : ◌≡◌ {A = ℕ} 0 1 = cc in omega arith)
reads_refused (refuse m) n k e = ap refuse (cc)

answers_refused : (d : Decided) (b : Bool) (k : ℕ) → answers d b ≡ refused k → d ≡ refuse k
answers_refused go b k e = absurd (let z : ◌≡◌ {A = ℕ} 0 1 = cc in omega arith)
answers_refused (refuse m) b k e = ap refuse (cc)

writes_refused : {X : Type 0} (d : Decided) (out new : List X) (k : ℕ) → (writes d out new).answer ≡ refused k → d ≡ refuse k
writes_refused go out new k e = absurd (let z : ◌≡◌ {A = ℕ} 0 1 = cc in omega arith)
writes_refused (refuse m) out new k e = ap refuse (cc)

told_never : (b : Bool) (n : ℕ) → told (cond b (reading.holds n) (reading.refused 6)) ≡ refused 1 → ⊥
told_never true n e = let z : ◌≡◌ {A = ℕ} 0 1 = cc in omega arith
told_never false n e = let z : ◌≡◌ {A = ℕ} 6 1 = cc in omega arith

module _ {E : Type 0} where
  touch_never : (p : PointStore E) (i : ℕ) → Never 1 (touch_decided p i)
  unfolding touch_decided
  touch_never p i = never_unless 1 (live p i) 5 (λ z. omega arith)

  inc_test_never : (p : PointStore E) (i l : ℕ) → Never 1 (inc_test p i l)
  unfolding inc_test
  inc_test_never p i l =
      let full : Bool = eqb (get_or p.memory.reference_count i 0) 65535 in
      never_then 1 (touch_decided p i) _ (touch_never p i)
      (never_then 1 (inc_decided p.header.store_labels p.header.capacity p.memory.label_count l) (refuse_if full 7)
      (label_inc_never p.header.store_labels p.header.capacity p.memory.label_count l)
      (never_if 1 full 7 (λ z. omega arith)))

  dec_test_never : (p : PointStore E) (i l : ℕ) → Never 1 (dec_test p i l)
  unfolding dec_test
  dec_test_never p i l =
      never_then 1 (touch_decided p i) _ (touch_never p i) (label_dec_never p.header.store_labels p.header.capacity p.memory.label_count l)

  step_never : (p : PointStore E) (q : Pairing) → Never 1 (step_decided p q)
  unfolding pair_decided
  step_never p q =
      let r : PointStore E = incremented p q.insert_index q.insert_label in
      skip (eqb q.insert_index none) _
      (never_then 1 (inc_test p q.insert_index q.insert_label) _ (inc_test_never p q.insert_index q.insert_label)
      (skip (eqb q.delete_index none) (dec_test r q.delete_index q.delete_label) (dec_test_never r q.delete_index q.delete_label)))
    where
      skip : (b : Bool) (d : Decided) → Never 1 d → Never 1 (cond b go d)
      skip true d f = never_go 1
      skip false d f = f

  items_never : (p : PointStore E) (ws : List Weighted) → Never 1 (items_decided p ws)
  unfolding items_decided
  items_never p [] = never_go 1
  items_never p (v ∷ ws) =
      let large : Bool = ltb 16777216 v.weight in
      never_then 1 (touch_decided p v.index) _ (touch_never p v.index)
      (never_then 1 (refuse_if large 11) (items_decided p ws) (never_if 1 large 11 (λ z. omega arith)) (items_never p ws))

  -- a well-formed store
  module _ (p : PointStore E) (w : well_formed p ≡ true) where
    formed : form_decided p ≡ go
    unfolding form_decided
    formed = rw w

    form : Never 1 (form_decided p)
    form e = never_go 1 (sym formed ∙ e)

    -- what comes after the check
    after : (d : Decided) → Never 1 d → Never 1 (and_then (form_decided p) d)
    after d f = never_then 1 (form_decided p) d form f

    pub inc_not_one : (i l : ℕ) → (inc_spec p i l).answer ≡ refused 1 → ⊥
    unfolding inc_spec
    inc_not_one i l e = after (inc_test p i l) (inc_test_never p i l) (carried_refused (and_then (form_decided p) (inc_test p i l)) p (incremented p i l) 1 e).0

    pub dec_not_one : (i l : ℕ) → (dec_spec p i l).answer ≡ refused 1 → ⊥
    unfolding dec_spec
    dec_not_one i l e = after (dec_test p i l) (dec_test_never p i l) (carried_refused (and_then (form_decided p) (dec_test p i l)) p (decremented p i l) 1 e).0

    pub adjust_not_one : (qs : List Pairing) (k : ℕ) → (adjust_spec p qs).answer ≡ refused_after 1 k → ⊥
    adjust_not_one qs k e =
        let s = adjust_refused p qs w 1 k e in
        step_never (adjust_spec p qs).after s.pair s.why

    pub compact_not_one : (zero_element : E) → (compact_spec zero_element p).answer ≡ refused 1 → ⊥
    unfolding compact_spec
    compact_not_one zero_element e = form (carried_refused (form_decided p) p (with_rows (compacted_rows zero_element p.header (rows_of p)) p) 1 e).0

    pub add_not_one : (eq : E → E → Bool) (zero_element : E) (point : List E) (code : ℕ) → (add_spec eq zero_element p point code).answer ≡ refused 1 → ⊥
    unfolding add_spec
    add_not_one eq zero_element point code e = split (add_decided p point code) refl e
      where
        split : (a : AddDecided) → add_decided p point code ≡ a → (add_carried_out eq zero_element a p point code).answer ≡ refused 1 → ⊥
        split keep f q = omega (arith, (keeps_refused eq zero_element p point code 1 q).0)
        split wait f q = let z : ◌≡◌ {A = ℕ} 0 1 = cc in omega arith
        split (refuse_add k) f q =
            add_never 1 p point code form (λ z. omega arith) (λ z. omega arith) (λ z. omega arith) (λ z. omega arith) (λ z. omega arith)
            (f ∙ ap refuse_add (cc))

    pub count_not_one : (i : ℕ) → count_spec p i ≡ refused 1 → ⊥
    unfolding count_spec
    count_not_one i e = after (touch_decided p i) (touch_never p i) (reads_refused (and_then (form_decided p) (touch_decided p i)) _ 1 e)

    pub live_number_not_one : live_number_spec p ≡ refused 1 → ⊥
    unfolding live_number_spec
    live_number_not_one e = form (reads_refused (form_decided p) _ 1 e)

    pub free_start_not_one : free_start_spec p ≡ refused 1 → ⊥
    unfolding free_start_spec
    free_start_not_one e = form (reads_refused (form_decided p) _ 1 e)

    copy_decided_never : (i n : ℕ) → Never 1 (copy_decided p i n)
    unfolding copy_decided
    copy_decided_never i n =
        let wrong : Bool = not (eqb n p.header.dimensions) in
        never_then 1 (touch_decided p i) (refuse_if wrong 3) (touch_never p i) (never_if 1 wrong 3 (λ z. omega arith))

    pub copy_not_one : (i : ℕ) (out : List E) → (copy_spec p i out).answer ≡ refused 1 → ⊥
    unfolding copy_spec copy_written
    copy_not_one i out e = copy_decided_never i (length out) (writes_refused (copy_decided p i (length out)) out _ 1 (rw formed at e))

    pub equal_not_one : (eq : E → E → Bool) (i : ℕ) (point : List E) → is_equal_spec eq p i point ≡ refused 1 → ⊥
    unfolding is_equal_spec equality
    equal_not_one eq i point e = copy_decided_never i (length point) (answers_refused (copy_decided p i (length point)) _ 1 (rw formed at e))

    pub sum_not_one : {S : Type 0} (add : ℕ → List S → List E → List S) (zero_sum : S) (ws : List Weighted) (out : List S) → (point_sum_spec add zero_sum p ws out).answer ≡ refused 1 → ⊥
    unfolding point_sum_spec sum_written
    sum_not_one add zero_sum ws out e =
        let wrong : Bool = not (eqb (length out) p.header.dimensions) in
        never_then 1 (refuse_if wrong 3) (items_decided p ws) (never_if 1 wrong 3 (λ z. omega arith)) (items_never p ws)
        (writes_refused _ out _ 1 (rw formed at e))

    pub preview_not_one : (point out : List E) → (shingled_point_spec p point out).answer ≡ refused 1 → ⊥
    unfolding shingled_point_spec preview_written preview_decided
    preview_not_one point out e =
        let s = p.header in
        let wrong : Bool = not (cond (previews s (length point)) s.internal_shingling (eqb (length point) s.dimensions) && eqb (length out) s.dimensions) in
        never_if 1 wrong 3 (λ z. omega arith) (writes_refused _ out _ 1 (rw formed at e))

    pub missing_not_one : (look_ahead : ℕ) (values out : List ℕ) → (missing_indices_spec p look_ahead values out).answer ≡ refused 1 → ⊥
    unfolding missing_indices_spec indices_written index_list_decided
    missing_not_one look_ahead values out e =
        let wrong : Bool = not (eqb (length out) (length values)) in
        let large : Bool = ltb 65535 look_ahead || not (values_below (value_limit p.header) values) in
        never_then 1 (refuse_if wrong 3) (refuse_if large 11) (never_if 1 wrong 3 (λ z. omega arith)) (never_if 1 large 11 (λ z. omega arith))
        (writes_refused _ out _ 1 (rw formed at e))

    pub next_not_one : (look_ahead : ℕ) (out : List ℕ) → (next_indices_spec p look_ahead out).answer ≡ refused 1 → ⊥
    unfolding next_indices_spec
    next_not_one look_ahead out e = missing_not_one look_ahead (next_values p.header) out e

    pub label_not_one : (l : ℕ) → label_spec p l ≡ refused 1 → ⊥
    unfolding label_spec reading.label_spec
    label_not_one l e = told_never (in_use p.header.store_labels p.header.capacity p.memory.label_count l) _ (rw w at e)

    pub attribute_not_one : (l : ℕ) → attribute_spec p l ≡ refused 1 → ⊥
    unfolding attribute_spec reading.attribute_spec
    attribute_not_one l e = told_never (in_use p.header.store_labels p.header.capacity p.memory.label_count l) _ (rw w at e)

    pub attribute_vec_not_one : (l : ℕ) (out : List Float) → (attribute_vec_spec p l out).answer ≡ refused 1 → ⊥
    unfolding attribute_vec_spec reading.attribute_vec_spec
    attribute_vec_not_one l out e = split (in_use p.header.store_labels p.header.capacity p.memory.label_count l) (eqb (length out) 10) (rw w at e)
      where
        split : (a b : Bool) → told (cond a (cond b (reading.vector_outcome reading.written (reading.one_hot (get_or p.memory.label_attributes l 0))) (reading.vector_outcome (reading.refused 3) out)) (reading.vector_outcome (reading.refused 6) out)).answer ≡ refused 1 → ⊥
        split true true q = let z : ◌≡◌ {A = ℕ} 0 1 = cc in omega arith
        split true false q = let z : ◌≡◌ {A = ℕ} 3 1 = cc in omega arith
        split false b q = let z : ◌≡◌ {A = ℕ} 6 1 = cc in omega arith
