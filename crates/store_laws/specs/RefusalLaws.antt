-- A refused call leaves record and memory as they were; 10 leaves them as the room that was made left them. What a refused adjust
-- leaves is in AdjustLaws.
use Rattle.std.specs.Prelude.{ℕ, true, false, cond, ◌&&◌, List, length}
use Rattle.std.proofs.Common.{arith, ◌∙◌}
use Rattle.std.proofs.Math.Bool.{Bool, not}
use Rattle.std.proofs.Math.Path.{◌≡◌, refl, ap}
use Rattle.std.proofs.Math.Dec.{ltb, eqb}
use Rattle.interval_store_manager.specs.Calls.{Decided, go, refuse}
use Rattle.labels.specs.Decisions.{code_decided, room_decided}
use Rattle.store_definitions.specs.Memory.{PointStore}
use Rattle.store_definitions.specs.Answers.{kept, done, refused, Outcome, outcome}
use Rattle.store_definitions.specs.Parts.{Rows, rows_of, with_rows}
use Rattle.store_definitions.specs.Decisions.{and_then, refuse_if, form_decided, carried_out}
use Rattle.store_definitions.specs.Counting.{inc_test, dec_test, incremented, decremented, inc_spec, dec_spec}
use Rattle.store_definitions.specs.Rows.{compacted_rows, room_made, compact_spec}
use Rattle.store_definitions.specs.Adding.{point_length, waits, table_full, AddDecided, keep, wait, refuse_add, then_add, add_decided, row_of, label_given, overflows, laid_how, kept_after, index_given, free_left, keeps, add_carried_out, add_spec}
use Rattle.store_laws.specs.DecisionLaws.{Never, never_then, never_if, form_never}

module _ {E : Type 0} where
  -- a refusal is the decision's, and changes nothing
  pub carried_refused : (d : Decided) (p q : PointStore E) (n : ℕ) → (carried_out d p (outcome done q)).answer ≡ refused n → (d ≡ refuse n) × ((carried_out d p (outcome done q)).after ≡ p)
  carried_refused go p q n e = absurd (let z : ◌≡◌ {A = ℕ} 0 1 = cc in omega arith)
  carried_refused (refuse k) p q n e = (ap refuse (cc), refl)

  pub inc_refused : (p : PointStore E) (i l n : ℕ) → (inc_spec p i l).answer ≡ refused n → (inc_spec p i l).after ≡ p
  unfolding inc_spec
  inc_refused p i l n e = (carried_refused (and_then (form_decided p) (inc_test p i l)) p (incremented p i l) n e).1

  pub dec_refused : (p : PointStore E) (i l n : ℕ) → (dec_spec p i l).answer ≡ refused n → (dec_spec p i l).after ≡ p
  unfolding dec_spec
  dec_refused p i l n e = (carried_refused (and_then (form_decided p) (dec_test p i l)) p (decremented p i l) n e).1

  pub compact_refused : (zero_element : E) (p : PointStore E) (n : ℕ) → (compact_spec zero_element p).answer ≡ refused n → (compact_spec zero_element p).after ≡ p
  unfolding compact_spec
  compact_refused zero_element p n e = (carried_refused (form_decided p) p (with_rows (compacted_rows zero_element p.header (rows_of p)) p) n e).1

-- which refusals an add's decision gives: k is none of 3, 12, 4, 8, 9
module _ (k : ℕ) where
  code_never : (4 ≡ k → ⊥) → (on : Bool) (code : ℕ) → Never k (code_decided on code)
  unfolding code_decided
  code_never d on code = never_if k (on && ltb 23 code) 4 d

  room_never : {E : Type 0} (p : PointStore E) → (8 ≡ k → ⊥) → Never k (room_decided p.header.store_labels p.header.label_manager)
  unfolding room_decided
  room_never p d = never_if k (p.header.store_labels && eqb p.header.label_manager.last_in_use 0) 8 d

  abbrev NeverAdd : AddDecided → Type 0
  NeverAdd a = a ≡ refuse_add k → ⊥

  never_then_add : (d : Decided) (a : AddDecided) → Never k d → NeverAdd a → NeverAdd (then_add d a)
  never_then_add go a f g = g
  never_then_add (refuse n) a f g = λ e. f (ap refuse (cc))

  never_wait_or : (b : Bool) (a : AddDecided) → NeverAdd a → NeverAdd (cond b wait a)
  never_wait_or true a f e = let z : ◌≡◌ {A = ℕ} 0 1 = cc in omega arith
  never_wait_or false a f e = f e

  -- 9 by its cause, the others by their numbers
  pub never_but_full : {E : Type 0} (p : PointStore E) (point : List E) (code : ℕ) → Never k (form_decided p) → (3 ≡ k → ⊥) → (12 ≡ k → ⊥) → (4 ≡ k → ⊥) → (8 ≡ k → ⊥) → Never k (refuse_if (table_full p.header) 9) → NeverAdd (add_decided p point code)
  unfolding add_decided
  never_but_full p point code form d3 d12 d4 d8 full =
      let s = p.header in
      let short : Bool = not (eqb (length point) (point_length s)) in
      let last : Bool = eqb s.next_sequence_index 4294967295 in
      never_then_add _ _
      (never_then k (form_decided p) _ form
      (never_then k (refuse_if short 3) _ (never_if k short 3 d3)
      (never_then k (refuse_if last 12) _ (never_if k last 12 d12) (code_never d4 s.store_labels code))))
      (never_wait_or (waits s) _
      (never_then_add _ keep
      (never_then k (room_decided s.store_labels s.label_manager) _ (room_never p d8) full)
      (λ e. let z : ◌≡◌ {A = ℕ} 0 1 = cc in omega arith)))

  pub add_never : {E : Type 0} (p : PointStore E) (point : List E) (code : ℕ) → Never k (form_decided p) → (3 ≡ k → ⊥) → (12 ≡ k → ⊥) → (4 ≡ k → ⊥) → (8 ≡ k → ⊥) → (9 ≡ k → ⊥) → NeverAdd (add_decided p point code)
  add_never p point code form d3 d12 d4 d8 d9 = never_but_full p point code form d3 d12 d4 d8 (never_if k (table_full p.header) 9 d9)

module _ {E : Type 0} (eq : E → E → Bool) (zero_element : E) (p : PointStore E) (point : List E) (code : ℕ) where
  abbrev r : Rows E
  r = room_made zero_element p.header (rows_of p)

  -- an add that is decided to be kept is refused only with 10, and then the rows alone are changed, as room was made
  pub keeps_refused : (n : ℕ) → (keeps eq zero_element p point code).answer ≡ refused n → (n ≡ 10) × ((keeps eq zero_element p point code).after ≡ with_rows r p)
  unfolding keeps
  keeps_refused n e = choose (overflows eq p.header r (row_of p point)) e
    where
      made : Outcome E
      made = outcome (refused 10) (with_rows (room_made zero_element p.header (rows_of p)) p)

      laid : Outcome E
      laid = outcome (kept (index_given p) (label_given p) (laid_how eq p.header (room_made zero_element p.header (rows_of p)) (row_of p point)) (free_left p)) (kept_after eq (room_made zero_element p.header (rows_of p)) (row_of p point) p point code)

      choose : (b : Bool) → (cond b made laid).answer ≡ refused n → (n ≡ 10) × ((cond b made laid).after ≡ with_rows (room_made zero_element p.header (rows_of p)) p)
      choose true q = (cc, refl)
      choose false q = absurd (let z : ◌≡◌ {A = ℕ} 0 1 = cc in omega arith)

  -- 'A refusal .. changes nothing, except that 10 ..'
  pub add_refused : (n : ℕ) → (n ≡ 10 → ⊥) → (add_spec eq zero_element p point code).answer ≡ refused n → (add_spec eq zero_element p point code).after ≡ p
  unfolding add_spec
  add_refused n d e = split (add_decided p point code) e
    where
      split : (a : AddDecided) → (add_carried_out eq zero_element a p point code).answer ≡ refused n → (add_carried_out eq zero_element a p point code).after ≡ p
      split keep q = absurd (d (keeps_refused n q).0)
      split wait q = absurd (let z : ◌≡◌ {A = ℕ} 0 1 = cc in omega arith)
      split (refuse_add k) q = refl

  -- '.. 10 leaves floats, places, free start and store length as compaction and growth made them'
  pub add_refused_ten : (add_spec eq zero_element p point code).answer ≡ refused 10 → (add_spec eq zero_element p point code).after ≡ with_rows r p
  unfolding add_spec
  add_refused_ten e = split (add_decided p point code) refl e
    where
      split : (a : AddDecided) → add_decided p point code ≡ a → (add_carried_out eq zero_element a p point code).answer ≡ refused 10 → (add_carried_out eq zero_element a p point code).after ≡ with_rows r p
      split keep f q = (keeps_refused 10 q).1
      split wait f q = absurd (let z : ◌≡◌ {A = ℕ} 0 1 = cc in omega arith)
      split (refuse_add k) f q =
          absurd (add_never 10 p point code (form_never 10 p (λ z. omega arith)) (λ z. omega arith) (λ z. omega arith) (λ z. omega arith) (λ z. omega arith) (λ z. omega arith)
          (f ∙ ap refuse_add (cc)))
