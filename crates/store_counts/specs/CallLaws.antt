-- What an accepted inc or dec may rely on, and what its parts come to.
use Rattle.std.specs.Prelude.{ℕ, ◌+◌, ◌≤◌, ◌<◌, Bool, true, false, ◌≡◌, length, get_or, set, eqb, Option, Result, Ok, Err}
use Rattle.std.proofs.Common.{arith, ◌∙◌, eq-eqb, ne_eqb}
use Rattle.std.proofs.Math.Bool.{cond}
use mathlib.Core.List.{List}
use Rattle.std.proofs.Math.Path.{refl, sym, ap}
use Rattle.std.proofs.lemmas.Bool.{eqb-false}
use Rattle.std.specs.Option.{ok_or}
use Rattle.terms.specs.declared.Refusal.{Refusal}
use Rattle.terms.specs.declared.Refusal.TheVariants.{IllFormed}
use Rattle.terms.specs.Refusals.{number}
use Rattle.interval_store_manager.specs.Calls.{go, decision_means}
use Rattle.labels.specs.Counted.{Counted, counted, raised, lowered}
use Rattle.labels.specs.Decisions.{inc_decided, dec_decided}
use Rattle.labels.specs.Forms.{InUse, LiveLabel, one_more, raisable}
use Rattle.labels.specs.Labels.{Labels, label_raised, label_lowered}
use Rattle.labels.specs.Sound.{sound_make as labels_sound_make}
use Rattle.store_definitions.specs.declared.Store.{Store}
use Rattle.store_definitions.specs.Memory.{Memory, PointStore, point_store}
use Rattle.store_definitions.specs.Answers.{done, refused, outcome}
use Rattle.store_definitions.specs.Parts.{table_length, point_table, label_half, with_points, with_labels}
use Rattle.store_definitions.specs.Decisions.{refuse_if, touch_decided}
use Rattle.store_definitions.specs.Counting.{inc_test, dec_test, incremented, place_after_dec, decremented, inc_spec, dec_spec}
use Rattle.store_definitions.specs.WellFormed.{well_formed}
use Rattle.store_laws.specs.Sound.{sound}
use Rattle.store_laws.specs.DecisionLaws.{both_go, not_refused, touch_go, inc_label_go, dec_label_go}
use Rattle.store_laws.specs.IllFormedLaws.{inc_ill, dec_ill}
use Rattle.store_check.specs.declared.Figures.{Figures}
use Rattle.store_check.specs.CheckLaws.{elementless}
use Rattle.store_check.specs.Checked.{checked, check_failed}
use Rattle.store_counts.specs.Tables.{Raisable, counts_alone, emptied, with_counts}
use Rattle.store_counts.specs.TestLaws.{inc_test_alone, dec_test_alone}
use Rattle.store_counts.specs.ReadingLaws.{well}

less : (k : ℕ) → k ≤ 65535 → (k ≡ 65535 → ⊥) → k < 65535
less k a b = omega arith

-- the place of index i, by its count
pub emptied_last : (counts location : List ℕ) (i : ℕ) → get_or counts i 0 ≡ 1 → set location i 65535 ≡ emptied counts location i
unfolding emptied
emptied_last counts location i e = rw (eq-eqb (get_or counts i 0) 1 e)

pub emptied_kept : (counts location : List ℕ) (i : ℕ) → (get_or counts i 0 ≡ 1 → ⊥) → location ≡ emptied counts location i
unfolding emptied
emptied_kept counts location i d = rw (ne_eqb (get_or counts i 0) 1 d)

module _ {E : Type 0} (p : PointStore E) where
  abbrev counts : List ℕ
  counts = p.memory.reference_count

  module _ (f : well_formed p ≡ true) where
    within : (i : ℕ) → i < table_length p.header → i < length counts
    within i h = let w = sound p f in omega (arith, w.table_within, w.lent.counts_lent)

    module _ (i l : ℕ) (t : inc_test p i l ≡ go) where
      inc_parts : (touch_decided p i ≡ go) × ((inc_decided p.header.store_labels p.header.capacity p.memory.label_count l ≡ go) × (refuse_if (eqb (get_or counts i 0) 65535) 7 ≡ go))
      unfolding inc_test
      inc_parts =
          let a = both_go (touch_decided p i) _ t in
          (a.0, both_go (inc_decided p.header.store_labels p.header.capacity p.memory.label_count l) _ a.1)

      pub inc_within : i < length counts
      inc_within = within i (touch_go p i inc_parts.0).0

      pub inc_room : get_or counts i 0 < 65536 → get_or counts i 0 < 65535
      inc_room h = less (get_or counts i 0) (omega arith) (eqb-false (get_or counts i 0) 65535 (not_refused _ 7 inc_parts.1.1))

      pub inc_label_ready : p.header.store_labels ≡ true → LiveLabel p.header.classes p.header.capacity (label_half p) l × (get_or p.memory.label_count l 0 < 65535)
      inc_label_ready on =
          let w = (sound p f).labels on in
          let u = inc_label_go p.header.capacity p.memory.label_count l (rw on at inc_parts.1.0) in (
            record {
              well = labels_sound_make p.header.classes p.header.capacity (label_half p) w;
              below = u.0.below;
              live = u.0.counted;
            },
            less (get_or p.memory.label_count l 0) (w.count_most l u.0.below) u.1,
          )

      pub inc_raisable : Raisable p.header.store_labels counts p.memory.label_attributes p.memory.label_count p.memory.attribute_count i l
      inc_raisable =
          record {
            point_lent = inc_within;
            point_room = inc_room (omega (arith, (sound p f).counts_most i (touch_go p i inc_parts.0).0));
            labels = λ on. raisable p.header.classes p.header.capacity (label_half p) l (inc_label_ready on).0 (inc_label_ready on).1;
          }

    module _ (i l : ℕ) (t : dec_test p i l ≡ go) where
      dec_parts : (touch_decided p i ≡ go) × (dec_decided p.header.store_labels p.header.capacity p.memory.label_count l ≡ go)
      unfolding dec_test
      dec_parts = both_go (touch_decided p i) _ t

      pub dec_point_ready : InUse (table_length p.header) (point_table p) i × (i < length p.memory.location)
      dec_point_ready =
          let w = sound p f in
          let u = touch_go p i dec_parts.0 in
          (record { well = w.points; below = u.0; live = u.1 }, omega (arith, w.rows.places_lent, w.table_within, u.0))

      pub dec_label_ready : p.header.store_labels ≡ true → LiveLabel p.header.classes p.header.capacity (label_half p) l
      dec_label_ready on =
          let u = dec_label_go p.header.capacity p.memory.label_count l (rw on at dec_parts.1) in
          record {
            well = labels_sound_make p.header.classes p.header.capacity (label_half p) ((sound p f).labels on);
            below = u.below;
            live = u.counted;
          }

  module _ (i l : ℕ) where
    abbrev raised_point : Counted
    raised_point = counted p.header.index_manager (set counts i (get_or counts i 0 + 1)) p.memory.index_starts p.memory.index_ends

    pub inc_off : p.header.store_labels ≡ false → with_points raised_point p.memory.location p ≡ incremented p i l
    unfolding incremented raised
    inc_off e = rw e

    pub inc_on : p.header.store_labels ≡ true → (h : Labels) → h ≡ label_raised (label_half p) l → with_labels h (with_points raised_point p.memory.location p) ≡ incremented p i l
    unfolding incremented raised
    inc_on e h g =
        let q = with_points raised_point p.memory.location p in
        ap (λ (x : Labels). with_labels x q) g ∙ sym (ap (λ (b : Bool). cond b (with_labels (label_raised (label_half p) l) q) q) e)

    -- by what is left in the three lists
    abbrev labels_more : List ℕ
    labels_more = one_more p.memory.label_count l

    abbrev slots_more : List ℕ
    slots_more = one_more p.memory.attribute_count (get_or p.memory.label_attributes l 0)

    pub inc_done : (points labels slots : List ℕ) → points ≡ one_more counts i → labels ≡ cond p.header.store_labels labels_more p.memory.label_count → slots ≡ cond p.header.store_labels slots_more p.memory.attribute_count → with_counts points labels slots p ≡ incremented p i l
    unfolding label_raised raised
    inc_done points labels slots a b d = rw (a, b, d) (split p.header.store_labels refl)
      where
        split : (on : Bool) → p.header.store_labels ≡ on → with_counts (one_more counts i) (cond on labels_more p.memory.label_count) (cond on slots_more p.memory.attribute_count) p ≡ incremented p i l
        split true e = inc_on e (label_raised (label_half p) l) refl
        split false e = inc_off e

    module _ (t : Counted) (a : t ≡ lowered (point_table p) i) (location : List ℕ) (b : location ≡ emptied counts p.memory.location i) where
      pub dec_off : p.header.store_labels ≡ false → with_points t location p ≡ decremented p i l
      unfolding decremented place_after_dec emptied
      dec_off e = rw (e, a, b)

      pub dec_on : p.header.store_labels ≡ true → (h : Labels) → h ≡ label_lowered (label_half p) l → with_labels h (with_points t location p) ≡ decremented p i l
      unfolding decremented place_after_dec emptied
      dec_on e h g =
          let k = label_lowered (label_half p) l in
          let q = with_points (lowered (point_table p) i) (emptied counts p.memory.location i) p in
          ap (λ (x : Labels). with_labels x (with_points t location p)) g
          ∙ ap (λ (u : Counted). with_labels k (with_points u location p)) a
          ∙ ap (λ (xs : List ℕ). with_labels k (with_points (lowered (point_table p) i) xs p)) b
          ∙ sym (ap (λ (c : Bool). cond c (with_labels k q) q) e)

    abbrev alone : PointStore (Unit {0})
    alone = point_store p.header (counts_alone counts p.memory.label_count)

    -- the ways out of a call
    module _ (f : well_formed p ≡ true) (d : Result Unit Refusal) where
      pub inc_goes : decision_means d ≡ inc_test alone i l → d ≡ Ok tt → inc_test p i l ≡ go
      inc_goes a b = sym (inc_test_alone p i l) ∙ sym a ∙ ap decision_means b

      pub inc_allowed : decision_means d ≡ inc_test alone i l → d ≡ Ok tt → (well_formed p ≡ true) × (inc_test p i l ≡ go)
      inc_allowed a b = (f, inc_goes a b)

      pub inc_went : decision_means d ≡ inc_test alone i l → d ≡ Ok tt → (q : PointStore E) → q ≡ incremented p i l → outcome done q ≡ inc_spec p i l
      unfolding inc_spec
      inc_went a b q e = rw (well p f, inc_goes a b) (ap (λ (x : PointStore E). outcome done x) e)

      pub inc_refused : decision_means d ≡ inc_test alone i l → (r : Refusal) → d ≡ Err r → outcome (refused (number r)) p ≡ inc_spec p i l
      unfolding inc_spec
      inc_refused a r b = rw (well p f, sym (inc_test_alone p i l) ∙ sym a ∙ ap decision_means b)

      pub dec_goes : decision_means d ≡ dec_test alone i l → d ≡ Ok tt → dec_test p i l ≡ go
      dec_goes a b = sym (dec_test_alone p i l) ∙ sym a ∙ ap decision_means b

      pub dec_allowed : decision_means d ≡ dec_test alone i l → d ≡ Ok tt → (well_formed p ≡ true) × (dec_test p i l ≡ go)
      dec_allowed a b = (f, dec_goes a b)

      pub dec_went : decision_means d ≡ dec_test alone i l → d ≡ Ok tt → (q : PointStore E) → q ≡ decremented p i l → outcome done q ≡ dec_spec p i l
      unfolding dec_spec
      dec_went a b q e = rw (well p f, dec_goes a b) (ap (λ (x : PointStore E). outcome done x) e)

      pub dec_refused : decision_means d ≡ dec_test alone i l → (r : Refusal) → d ≡ Err r → outcome (refused (number r)) p ≡ dec_spec p i l
      unfolding dec_spec
      dec_refused a r b = rw (well p f, sym (dec_test_alone p i l) ∙ sym a ∙ ap decision_means b)

-- and after a check that fails
module _ {E : Type 0} (s : Store) (m : Memory E) (answer : Option Figures) (a : answer ≡ checked (point_store s (elementless m))) (why : Refusal) (e : ok_or answer IllFormed ≡ Err why) (i l : ℕ) where
  pub inc_ill_formed : outcome (refused (number why)) (point_store s m) ≡ inc_spec (point_store s m) i l
  inc_ill_formed = let f = check_failed s m answer IllFormed a why e in rw f.1 (sym (inc_ill (point_store s m) f.0 i l))

  pub dec_ill_formed : outcome (refused (number why)) (point_store s m) ≡ dec_spec (point_store s m) i l
  dec_ill_formed = let f = check_failed s m answer IllFormed a why e in rw f.1 (sym (dec_ill (point_store s m) f.0 i l))
