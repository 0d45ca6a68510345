-- Opening: which shapes over which memory are accepted, what a refused opening gives, and that an accepted one is well-formed.
use Rattle.std.specs.Prelude.{ℕ, ◌*◌, ◌-◌, ◌/◌, ◌≤◌, ◌<◌, Bool, cond, ◌&&◌, None, is_some, List, refl, length, get_or, take, drop, replicate}
use Rattle.std.proofs.Math.Nat.{dvd-zero}
use Rattle.std.proofs.Common.{mul-le-mul_right, arith, inl, ◌∙◌, length-append, length-drop, length-set}
use Rattle.std.proofs.Math.Bool.{true, false}
use Rattle.std.proofs.Math.Path.{◌≡◌, sym, ap}
use Rattle.std.proofs.lemmas.List.{length-replicate, get_or-replicate}
use Rattle.std.proofs.Math.ListN.{get_or-append}
use borrow.Author.Tests.{eq-eqb}
use Rattle.terms.specs.Below.{both}
use Rattle.interval_store_manager.specs.Calls.{Decided, go, refuse, manager}
use Rattle.placement.specs.Places.{Live}
use Rattle.class_table.specs.Text.{table_read, table_of}
use Rattle.class_table.specs.TextLaws.{text_accepted, table_of_read}
use Rattle.labels.specs.Counted.{counted}
use Rattle.labels.specs.Labels.{Labels}
use Rattle.labels.specs.Opening.{labels_opened, table_opened_lem, opened_well}
use Rattle.labels.specs.Sound.{Sound as LabelsSound}
use Rattle.store_definitions.specs.declared.Shape.{Shape}
use Rattle.store_definitions.specs.Memory.{Memory, PointStore, point_store}
use Rattle.store_definitions.specs.Answers.{done, refused, Outcome, outcome}
use Rattle.store_definitions.specs.Bounds.{bounds_hold, start_allowed, rotation_allowed, lent_enough}
use Rattle.store_definitions.specs.Parts.{Rows, label_half, with_labels}
use Rattle.store_definitions.specs.Opening.{open_decided, fresh_record, filled_first, opened_memory, no_record, opened, open_spec}
use Rattle.store_definitions.specs.Decisions.{carried_out}
use Rattle.store_definitions.specs.WellFormed.{well_formed}
use Rattle.store_laws.specs.BoundsLaws.{InBounds, in_bounds, in_bounds_make, shaped, start_allowed_lem, start_allowed_make}
use Rattle.store_laws.specs.LentLaws.{PointsLent, LabelsLent, Lent, lent, lent_make}
use Rattle.store_laws.specs.PlacesLaws.{live_below_lem, live_placed}
use Rattle.store_laws.specs.Sound.{RowsSound, Sound, sound_make}
use Rattle.store_laws.specs.Cases.{by_cases}
use Rattle.interval_store_manager.specs.DecisionLaws.{no_go}

-- what an accepted opening rests on
pub record Openable {E : Type 0} (h : Shape) (text : List ℕ) (m : Memory E) : Type 0 where
  pub bounds : InBounds h.dimensions h.shingle_size h.capacity
  pub start_least : 1 ≤ h.initial_capacity
  pub start_most : h.initial_capacity ≤ h.capacity
  pub enough : Lent h.dimensions h.capacity h.store_labels m
  pub classes_read : is_some (table_read text) ≡ true

-- the first n entries made x
module _ {X : Type 0} (n : ℕ) (x : X) (xs : List X) where
  pub filled_length : n ≤ length xs → length (filled_first n x xs) ≡ length xs
  filled_length h = simp (length-append, length-replicate, length-drop) (omega arith)

  pub filled_at : (i : ℕ) (d : X) → i < n → get_or (filled_first n x xs) i d ≡ x
  filled_at i d l = get_or-append (replicate n x) (drop n xs) d i (rw (length-replicate n x) l) ∙ get_or-replicate n i x d l

open_go : (a b c : Bool) → cond a (cond b (cond c go (refuse 17)) (refuse 1)) (refuse 2) ≡ go → (a ≡ true) × ((b ≡ true) × (c ≡ true))
open_go true true true e = (refl, (refl, refl))
open_go true true false e = no_go e
open_go true false c e = no_go e
open_go false b c e = no_go e

module _ {E : Type 0} (h : Shape) (text : List ℕ) (m : Memory E) where
  abbrev shape_holds : Bool
  shape_holds = bounds_hold h.dimensions h.shingle_size h.capacity && start_allowed h.initial_capacity h.capacity

  abbrev memory_holds : Bool
  memory_holds = lent_enough h.dimensions h.capacity h.store_labels m

  -- an opening goes on exactly where the shape is in the bounds, the memory is long enough and the text is a table's, whatever the flags
  pub open_accepts : Openable h text m → open_decided h text m ≡ go
  unfolding open_decided
  open_accepts o =
      rw (
        in_bounds_make h.dimensions h.shingle_size h.capacity o.bounds,
        start_allowed_make h.initial_capacity h.capacity o.start_least o.start_most,
        lent_make h.capacity m h.dimensions h.store_labels o.enough,
        o.classes_read,
      )

  pub open_accepted : open_decided h text m ≡ go → Openable h text m
  unfolding open_decided
  open_accepted e =
      let p = open_go shape_holds memory_holds (is_some (table_read text)) e in
      let q = both (bounds_hold h.dimensions h.shingle_size h.capacity) (start_allowed h.initial_capacity h.capacity) p.0 in
      let t = start_allowed_lem h.initial_capacity h.capacity q.1 in
      record {
        bounds = in_bounds h.dimensions h.shingle_size h.capacity q.0;
        start_least = t.0;
        start_most = t.1;
        enough = lent h.capacity m h.dimensions h.store_labels p.1.0;
        classes_read = p.1.1;
      }

  -- 2 exactly outside the bounds, 1 exactly in them over memory too short, 17 exactly over memory that is long enough
  pub open_outside : shape_holds ≡ false → open_decided h text m ≡ refuse 2
  unfolding open_decided
  open_outside e = rw e

  pub open_short : shape_holds ≡ true → memory_holds ≡ false → open_decided h text m ≡ refuse 1
  unfolding open_decided
  open_short e f = rw (e, f)

  pub open_text : shape_holds ≡ true → memory_holds ≡ true → table_read text ≡ None → open_decided h text m ≡ refuse 17
  unfolding open_decided
  open_text e f g = rw (e, f, g)

  module _ (zero_element : E) where
    -- a refused opening gives no record and leaves the memory as it was
    pub open_refused : (n : ℕ) (p : PointStore E) → open_spec zero_element h text m ≡ outcome (refused n) p → p ≡ point_store no_record m
    unfolding open_spec
    open_refused n p e = split (open_decided h text m) e
      where
        split : (d : Decided) → carried_out d (point_store no_record m) (outcome done (opened zero_element h text m)) ≡ outcome (refused n) p → p ≡ point_store no_record m
        split go q = absurd (let a : done ≡ refused n = ap (λ (o : Outcome E). o.answer) q in let z : ◌≡◌ {A = ℕ} 0 1 = cc in omega arith)
        split (refuse k) q = ap (λ (o : Outcome E). o.after) (sym q)

    -- an accepted one was decided so, and gives the opened store
    pub open_done : (p : PointStore E) → open_spec zero_element h text m ≡ outcome done p → (open_decided h text m ≡ go) × (p ≡ opened zero_element h text m)
    unfolding open_spec
    open_done p e = split (open_decided h text m) e
      where
        split : (d : Decided) → carried_out d (point_store no_record m) (outcome done (opened zero_element h text m)) ≡ outcome done p → (d ≡ go) × (p ≡ opened zero_element h text m)
        split go q = (refl, ap (λ (o : Outcome E). o.after) (sym q))
        split (refuse k) q = absurd (let a : refused k ≡ done = ap (λ (o : Outcome E). o.answer) q in let z : ◌≡◌ {A = ℕ} 0 1 = cc in omega arith)

    pub open_opens : Openable h text m → open_spec zero_element h text m ≡ outcome done (opened zero_element h text m)
    unfolding open_spec
    open_opens o = rw (open_accepts o)

    module _ (o : Openable h text m) where
      abbrev dims : ℕ
      dims = h.dimensions

      abbrev start : ℕ
      start = h.initial_capacity

      abbrev fresh : PointStore E
      fresh = record { header = fresh_record h text; memory = opened_memory zero_element h m }

      abbrev q : PointsLent dims h.capacity m
      q = o.enough.points_lent

      abbrev places : List ℕ
      places = filled_first start 65535 m.location

      abbrev rows : Rows E
      rows = record { elements = filled_first (start * dims) zero_element m.store; location = places; free = 0; store_length = start * dims }

      store_most : start * dims ≤ h.capacity * dims
      store_most = mul-le-mul_right dims o.start_most

      places_length : length places ≡ length m.location
      places_length = filled_length start 65535 m.location (omega (arith, o.start_most, o.enough.places_lent))

      nothing_lives : (i : ℕ) → Live (take start places) i → ⊥
      nothing_lives i l =
          let g : start ≤ length places = omega (arith, places_length, o.start_most, o.enough.places_lent) in
          live_placed start places g i l (filled_at start 65535 m.location i 65535 (live_below_lem start places g i l))

      rows_opened : RowsSound dims (dims / h.shingle_size) h.capacity start rows
      rows_opened =
          let same = filled_length (start * dims) zero_element m.store (omega (arith, store_most, o.enough.floats_lent)) in
          record {
            floats_lent = rw same o.enough.floats_lent;
            places_lent = rw places_length o.enough.places_lent;
            store_within = store_most;
            free_whole = dvd-zero (dims / h.shingle_size);
            free_started = inl refl;
            free_inside = omega arith;
            well_placed = record {
              shaped = shaped dims h.shingle_size h.capacity o.bounds;
              small = omega (arith, o.bounds.dims_most);
              inside = omega arith;
              ends = λ i l. absurd (nothing_lives i l);
            };
            distinct_places = λ i j l k e. absurd (nothing_lives i l);
          }

      -- whatever the label half, if it is sound where labels are on
      opened_with : (l : Labels) → (h.store_labels ≡ true → LabelsSound (table_of text) h.capacity l) → Sound (with_labels l fresh)
      unfolding opened_memory rotation_allowed
      opened_with l f =
          record {
            bounds = o.bounds;
            rotation = refl;
            lent = record {
              window_lent = rw (filled_length dims zero_element m.last_known_shingle q.window_lent) q.window_lent;
              counts_lent = rw (filled_length start 0 m.reference_count (omega (arith, o.start_most, q.counts_lent))) q.counts_lent;
              starts_lent = rw (length-set m.index_starts 0 0) q.starts_lent;
              ends_lent = rw (length-set m.index_ends 0 (start - 1)) q.ends_lent;
            };
            table_within = o.start_most;
            rows = rows_opened;
            points =
                table_opened_lem start o.start_least (omega (arith, o.start_most, o.bounds.capacity_most))
                (counted (manager start 1) m.reference_count m.index_starts m.index_ends)
                (record { counts = omega (arith, o.start_most, q.counts_lent); starts = omega (arith, o.start_most, q.starts_lent); ends = omega (arith, o.start_most, q.ends_lent) });
            empty_is = λ i l.
                eq-eqb (get_or (filled_first start 0 m.reference_count) i 0) 0 (filled_at start 0 m.reference_count i 0 l)
                ∙ sym (eq-eqb (get_or places i 65535) 65535 (filled_at start 65535 m.location i 65535 l));
            sequence_most = omega arith;
            classes_allowed = (text_accepted text (table_of text) (table_of_read text o.classes_read)).1;
            counts_most = λ i l. rw (filled_at start 0 m.reference_count i 0 l) (omega arith);
            labels = f;
          }

      labels_opened_lem : LabelsLent h.capacity m → LabelsSound (table_of text) h.capacity (labels_opened h.capacity (label_half fresh))
      unfolding opened_memory
      labels_opened_lem l =
          opened_well h.capacity o.bounds.capacity_least o.bounds.capacity_most (table_of text) (label_half fresh) l.codes_lent l.slots_lent
          (record { counts = l.label_counts_lent; starts = l.label_starts_lent; ends = l.label_ends_lent })
          l.classes_lent
          (record { counts = l.slot_counts_lent; starts = l.slot_starts_lent; ends = l.slot_ends_lent })

      pub opened_sound : Sound (opened zero_element h text m)
      unfolding opened
      opened_sound =
          by_cases Sound h.store_labels (with_labels (labels_opened h.capacity (label_half fresh)) fresh) fresh
          (λ on. opened_with (labels_opened h.capacity (label_half fresh)) (λ _. labels_opened_lem (o.enough.labels_lent_lem on)))
          (λ off. opened_with (label_half fresh) (λ on. absurd (let t : true ≡ false = sym on ∙ off in let z : ◌≡◌ {A = ℕ} 0 1 = cc in omega arith)))

    -- every accepted opening is well-formed
    pub opening_well_formed : (p : PointStore E) → open_spec zero_element h text m ≡ outcome done p → well_formed p ≡ true
    opening_well_formed p e =
        let d = open_done p e in
        rw d.1 (sound_make (opened zero_element h text m) (opened_sound (open_accepted d.0)))
