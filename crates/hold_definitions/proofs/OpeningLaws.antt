-- Opening a hold: what is refused and with which number, and that an accepted opening is well-formed.
use Rattle.std.specs.Prelude.{ℕ, Bool, true, false, cond, not, None, List, length, take, leb}
use Rattle.std.proofs.Math.Decide.{dec_lt}
use Rattle.std.proofs.Common.{arith, subst, ◌∙◌}
use Rattle.std.proofs.Math.Path.{◌≡◌, refl, sym, ap}
use borrow.Author.Tests.{not-false, leb-true}
use Rattle.terms.specs.Below.{both}
use Rattle.interval_store_manager.specs.Calls.{Decided, go, refuse}
use Rattle.class_table.specs.Text.{table_read}
use Rattle.labels.specs.Labels.{Labels}
use Rattle.labels.specs.Opening.{labels_opened}
use Rattle.store_definitions.specs.declared.Shape.{Shape}
use Rattle.store_definitions.specs.Memory.{Memory, PointStore}
use Rattle.store_definitions.specs.Answers.{done, refused}
use Rattle.store_definitions.specs.Bounds.{lent_enough}
use Rattle.store_definitions.specs.Parts.{label_half, with_labels}
use Rattle.store_definitions.specs.Decisions.{and_then, refuse_if}
use Rattle.store_definitions.specs.Opening.{shape_allowed, open_decided, fresh_record, opened_memory, opened}
use Rattle.store_laws.specs.Cases.{by_cases, asked}
use Rattle.store_laws.specs.Sound.{sound_make}
use Rattle.store_laws.specs.DecisionLaws.{both_go, not_refused}
use Rattle.store_laws.specs.OpeningLaws.{filled_at, open_accepted, open_short, open_text, opened_sound}
use Rattle.hold_definitions.specs.Memory.{HoldMemory, PointHold, point_hold}
use Rattle.hold_definitions.specs.Answers.{HoldOutcome, hold_outcome}
use Rattle.hold_definitions.specs.Listed.{times}
use Rattle.hold_definitions.specs.WellFormed.{width_allowed, tables_lent}
use Rattle.hold_definitions.specs.Opening.{hold_open_decided, fresh_hold, no_hold, hold_open_carried_out, hold_open_spec}
use Rattle.hold_definitions.specs.CountsAfter.{count_now, counted_below, counted_past}
use Rattle.hold_definitions.proofs.Sound.{width_sound, HoldSound}

module _ {E : Type 0} (s : Shape) (width : ℕ) (text : List ℕ) (m : HoldMemory E) where
  -- 2 exactly outside the bounds; in them 15 exactly for a width that is not allowed; then 1 exactly over memory too short; then 17
  -- exactly for a text that is no table's
  pub hold_open_outside : shape_allowed s ≡ false → hold_open_decided s width text m ≡ refuse 2
  unfolding hold_open_decided
  hold_open_outside e = rw e

  pub hold_open_width : shape_allowed s ≡ true → width_allowed width s.capacity ≡ false → hold_open_decided s width text m ≡ refuse 15
  unfolding hold_open_decided
  hold_open_width e f = rw (e, f)

  module _ (e : shape_allowed s ≡ true) (f : width_allowed width s.capacity ≡ true) where
    abbrev lent : Bool
    lent = tables_lent s.capacity s.store_labels m

    asks : hold_open_decided s width text m ≡ and_then (refuse_if (not lent) 1) (open_decided s text m.store)
    unfolding hold_open_decided
    asks = rw (e, f)

    pub hold_open_short : lent ≡ false → hold_open_decided s width text m ≡ refuse 1
    hold_open_short g = asks ∙ (rw g)

    pub hold_open_store_short : lent ≡ true → lent_enough s.dimensions s.capacity s.store_labels m.store ≡ false → hold_open_decided s width text m ≡ refuse 1
    hold_open_store_short g l = asks ∙ (rw (g, open_short s text m.store e l))

    pub hold_open_text : lent ≡ true → lent_enough s.dimensions s.capacity s.store_labels m.store ≡ true → table_read text ≡ None → hold_open_decided s width text m ≡ refuse 17
    hold_open_text g l t = asks ∙ (rw (g, open_text s text m.store e l t))

  pub record Openable : Type 0 where
    pub shaped : shape_allowed s ≡ true
    pub wide : width_allowed width s.capacity ≡ true
    pub tables : tables_lent s.capacity s.store_labels m ≡ true
    pub of_store : open_decided s text m.store ≡ go

  pub hold_open_accepted : hold_open_decided s width text m ≡ go → Openable
  unfolding hold_open_decided
  hold_open_accepted e =
      let a = both_go (refuse_if (not (shape_allowed s)) 2) _ e in
      let b = both_go (refuse_if (not (width_allowed width s.capacity)) 15) _ a.1 in
      let c = both_go (refuse_if (not (tables_lent s.capacity s.store_labels m)) 1) (open_decided s text m.store) b.1 in
      record {
        shaped = not-false (shape_allowed s) (not_refused _ 2 a.0);
        wide = not-false (width_allowed width s.capacity) (not_refused _ 15 b.0);
        tables = not-false (tables_lent s.capacity s.store_labels m) (not_refused _ 1 c.0);
        of_store = c.1;
      }

  module _ (zero_element : E) where
    -- a refused opening gives no record and leaves the memory as it was
    pub hold_open_refused : (n : ℕ) (h : PointHold E) → hold_open_spec zero_element s width text m ≡ hold_outcome (refused n) h → h ≡ point_hold no_hold m
    unfolding hold_open_spec
    hold_open_refused n h e = split (hold_open_decided s width text m) e
      where
        split : (d : Decided) → hold_open_carried_out zero_element d s width text m ≡ hold_outcome (refused n) h → h ≡ point_hold no_hold m
        split go q = absurd (let a : done ≡ refused n = ap (λ (o : HoldOutcome E). o.answer) q in let z : ◌≡◌ {A = ℕ} 0 1 = cc in omega arith)
        split (refuse k) q = ap (λ (o : HoldOutcome E). o.after) (sym q)

    -- an accepted one was decided so, and gives a fresh hold
    pub hold_open_done : (h : PointHold E) → hold_open_spec zero_element s width text m ≡ hold_outcome done h → (hold_open_decided s width text m ≡ go) × (h ≡ fresh_hold width (opened zero_element s text m.store) m)
    unfolding hold_open_spec
    hold_open_done h e = split (hold_open_decided s width text m) e
      where
        split : (d : Decided) → hold_open_carried_out zero_element d s width text m ≡ hold_outcome done h → (d ≡ go) × (h ≡ fresh_hold width (opened zero_element s text m.store) m)
        split go q = (refl, ap (λ (o : HoldOutcome E). o.after) (sym q))
        split (refuse k) q = absurd (let a : refused k ≡ done = ap (λ (o : HoldOutcome E). o.answer) q in let z : ◌≡◌ {A = ℕ} 0 1 = cc in omega arith)

-- a fresh store has no counts
module _ {E : Type 0} (zero_element : E) (s : Shape) (text : List ℕ) (m : Memory E) where
  pub record Bare (p : PointStore E) : Type 0 where
    pub capacity : p.header.capacity ≡ s.capacity
    pub flag : p.header.store_labels ≡ s.store_labels
    pub counts : (i : ℕ) → count_now p i ≡ 0

  bare_store : PointStore E
  bare_store = record { header = fresh_record s text; memory = opened_memory zero_element s m }

  with_any : (l : Labels) (i : ℕ) → count_now (with_labels l bare_store) i ≡ 0
  unfolding opened_memory bare_store
  with_any l i =
      elim (dec_lt i s.initial_capacity) [
        | yes h ↦ counted_below (with_labels l bare_store) i h ∙ filled_at s.initial_capacity 0 m.reference_count i 0 h
        | no g ↦ counted_past (with_labels l bare_store) i (omega arith)
      ]

  pub opened_bare : Bare (opened zero_element s text m)
  unfolding opened bare_store
  opened_bare =
      by_cases Bare s.store_labels (with_labels (labels_opened s.capacity (label_half bare_store)) bare_store) bare_store
      (λ on. record { capacity = refl; flag = refl; counts = with_any (labels_opened s.capacity (label_half bare_store)) })
      (λ off. record { capacity = refl; flag = refl; counts = with_any (label_half bare_store) })

module _ {E : Type 0} (zero_element : E) (s : Shape) (width : ℕ) (text : List ℕ) (m : HoldMemory E) where
  nothing_named : (i : ℕ) (xs : List ℕ) → times i (take 0 xs) ≡ 0
  unfolding times
  nothing_named i xs = refl

  pub fresh_sound : hold_open_decided s width text m ≡ go → HoldSound (fresh_hold width (opened zero_element s text m.store) m)
  unfolding tables_lent
  fresh_sound e =
      let o = hold_open_accepted s width text m e in
      let p = opened zero_element s text m.store in
      let b = opened_bare zero_element s text m.store in
      let wide = width_sound width s.capacity o.wide in
      let lent = both (leb s.capacity (length m.held_indices)) (cond s.store_labels (leb s.capacity (length m.held_labels)) true) o.tables in
      record {
        well = sound_make p (opened_sound s text m.store zero_element (open_accepted s text m.store o.of_store));
        width_least = wide.0;
        width_most = rw b.capacity wide.1;
        indices_lent = rw b.capacity (leb-true s.capacity (length m.held_indices) lent.0);
        labels_lent_lem = λ on. rw b.capacity (leb-true s.capacity (length m.held_labels) (asked s.store_labels (leb s.capacity (length m.held_labels)) lent.1 (sym b.flag ∙ on)));
        held_most = omega arith;
        names = record {
          counts = λ i. b.counts i ∙ sym (nothing_named i m.held_indices);
          once = λ i. omega (arith, nothing_named i m.held_indices);
          own = λ on l h. absurd (omega (arith, nothing_named l m.held_labels));
        };
      }

  -- every accepted opening is well-formed
  pub hold_opening_well_formed : (h : PointHold E) → hold_open_spec zero_element s width text m ≡ hold_outcome done h → HoldSound h
  hold_opening_well_formed h e =
      let d = hold_open_done s width text m zero_element h e in
      subst HoldSound (sym d.1) (fresh_sound d.0)
