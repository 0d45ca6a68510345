-- Compaction, growth and the room that an add makes keep rows sound, and empty the place of no point.
use Rattle.std.specs.Prelude.{ℕ, ◌*◌, ◌≤◌, ◌<◌, true, cond, List, ◌++◌, ◌≡◌, refl, length, get_or, take, drop, eqb}
use Rattle.std.proofs.Math.Decide.{ℕ_discrete}
use Rattle.std.proofs.Common.{arith, ◌∙◌, length-append, take_at, get_or-take}
use Rattle.std.proofs.Math.Bool.{Bool}
use Rattle.std.proofs.Math.Path.{sym}
use Rattle.std.proofs.Math.ListN.{length-drop, length-replicate, get_or-append}
use Rattle.std.proofs.Math.Seq.{length-take-le}
use borrow.Author.Tests.{eq-eqb, ne_eqb}
use Rattle.placement.specs.Compaction.{Layout, compacted}
use Rattle.placement.proofs.CompactionLaws.{CompactionKeeps, compaction_keeps, well_after, distinct_after}
use Rattle.placement.specs.Growth.{grown, grown_within_lem}
use Rattle.store_definitions.specs.declared.Store.{Store}
use Rattle.store_definitions.specs.Memory.{PointStore}
use Rattle.store_definitions.specs.Parts.{base_of, table_length, Rows, rows_of, with_rows}
use Rattle.store_definitions.specs.Answers.{done, outcome}
use Rattle.store_definitions.specs.Decisions.{form_decided}
use Rattle.store_definitions.specs.Rows.{compacted_rows, grown_rows, short, room_made, compact_spec}
use Rattle.store_definitions.specs.WellFormed.{well_formed}
use Rattle.store_laws.specs.Cases.{either}
use Rattle.store_laws.specs.PlacesLaws.{live_make}
use Rattle.store_laws.specs.Sound.{RowsSound, Sound, sound, sound_make}
use Rattle.store_laws.specs.DecisionLaws.{carried}

-- the same of the first n places are empty
abbrev pub SameEmpty : ℕ → List ℕ → List ℕ → Type 0
SameEmpty n a b = (i : ℕ) → i < n → eqb (get_or a i 65535) 65535 ≡ eqb (get_or b i 65535) 65535

-- rows of the shape and the table of a store
abbrev pub RowsOf : {E : Type 0} → Store → Rows E → Type 0
RowsOf s r = RowsSound s.dimensions (base_of s) s.capacity (table_length s) r

-- a store with other rows in place of its own
pub with_rows_lem : {E : Type 0} (p : PointStore E) (r : Rows E) → Sound p → RowsOf p.header r → SameEmpty (table_length p.header) p.memory.location r.location → Sound (with_rows r p)
with_rows_lem p r w g e =
    record {
      bounds = w.bounds;
      rotation = w.rotation;
      lent = record { window_lent = w.lent.window_lent; counts_lent = w.lent.counts_lent; starts_lent = w.lent.starts_lent; ends_lent = w.lent.ends_lent };
      table_within = w.table_within;
      rows = g;
      points = w.points;
      empty_is = λ i h. w.empty_is i h ∙ e i h;
      sequence_most = w.sequence_most;
      classes_allowed = w.classes_allowed;
      counts_most = w.counts_most;
      labels = w.labels;
    }

module _ {E : Type 0} (zero_element : E) (s : Store) (t : table_length s ≤ s.capacity) where
  abbrev n : ℕ
  n = table_length s

  module _ (r : Rows E) (w : RowsOf s r) where
    abbrev l : Layout E
    l = compacted zero_element s.dimensions (base_of s) s.internal_rotation r.elements (take n r.location) r.free

    kept : CompactionKeeps s.dimensions (base_of s) s.internal_rotation (take n r.location) r.free r.elements l
    kept = compaction_keeps zero_element s.dimensions (base_of s) s.internal_rotation r.elements (take n r.location) r.free w.well_placed

    lent : n ≤ length r.location
    lent = omega (arith, w.places_lent)

    listed : length l.location ≡ n
    listed = kept.indices_kept ∙ length-take-le n r.location lent

    front : take n (l.location ++ drop n r.location) ≡ l.location
    front = take_at l.location (drop n r.location) n listed

    pub compacted_sound : RowsOf s (compacted_rows zero_element s r)
    unfolding compacted_rows
    compacted_sound =
        record {
          floats_lent = rw kept.length_kept w.floats_lent;
          places_lent = rw (length-append l.location (drop n r.location), length-drop n r.location) (omega (arith, listed, w.places_lent));
          store_within = w.store_within;
          free_whole = kept.free_whole;
          free_started = kept.free_started;
          free_inside = omega (arith, kept.free_down, w.free_inside);
          well_placed = rw front (well_after s.dimensions (base_of s) s.internal_rotation (take n r.location) r.free r.elements l w.well_placed kept);
          distinct_places = rw front (distinct_after s.dimensions (base_of s) s.internal_rotation (take n r.location) r.free r.elements l w.well_placed kept w.distinct_places);
        }

    pub compacted_empty : SameEmpty n r.location (compacted_rows zero_element s r).location
    unfolding compacted_rows
    compacted_empty i h =
        rw (get_or-append l.location (drop n r.location) 65535 i (omega (arith, listed)))
        (elim (ℕ_discrete (get_or r.location i 65535) 65535) [
          | yes e ↦
              eq-eqb (get_or r.location i 65535) 65535 e
              ∙ sym (eq-eqb (get_or l.location i 65535) 65535 (kept.empty_kept i (get_or-take n r.location i 65535 h ∙ e)))
          | no d ↦
              ne_eqb (get_or r.location i 65535) 65535 d
              ∙ sym (ne_eqb (get_or l.location i 65535) 65535
              (λ e.
              omega (arith, rw e at (kept.ends i (live_make n r.location lent i h d)), kept.free_down, w.well_placed.small, w.well_placed.shaped.some_base)))
        ])

    -- growth by a fifth, in the lent floats
    abbrev longer : ℕ
    longer = grown r.store_length s.dimensions (s.capacity * s.dimensions)

    grows : (r.store_length ≤ longer) × (longer ≤ s.capacity * s.dimensions)
    grows = grown_within_lem r.store_length s.dimensions (s.capacity * s.dimensions) w.store_within

    same_length : length (grown_rows zero_element s r).elements ≡ length r.elements
    unfolding grown_rows
    same_length =
        simp (length-append, length-replicate, length-drop)
        (omega (arith, length-take-le r.store_length r.elements (omega (arith, w.store_within, w.floats_lent)), grows, w.floats_lent))

    pub grown_sound : RowsOf s (grown_rows zero_element s r)
    unfolding grown_rows
    grown_sound =
        record {
          floats_lent = rw same_length w.floats_lent;
          places_lent = w.places_lent;
          store_within = grows.1;
          free_whole = w.free_whole;
          free_started = w.free_started;
          free_inside = omega (arith, w.free_inside, grows);
          well_placed = rw same_length w.well_placed;
          distinct_places = w.distinct_places;
        }

  module _ (r : Rows E) (w : RowsOf s r) where
    abbrev c : Rows E
    c = compacted_rows zero_element s r

    abbrev longer_rows : Rows E
    longer_rows = grown_rows zero_element s c

    pub room_sound : RowsOf s (room_made zero_element s r)
    unfolding room_made
    room_sound =
        let b : Bool = short zero_element s c in
        either (RowsOf s) (short zero_element s r) (cond b longer_rows c) r
        (either (RowsOf s) b longer_rows c (grown_sound c (compacted_sound r w)) (compacted_sound r w))
        w

    pub room_empty : SameEmpty n r.location (room_made zero_element s r).location
    unfolding room_made grown_rows
    room_empty =
        let b : Bool = short zero_element s c in
        let P : Rows E → Type 0 = λ x. SameEmpty n r.location x.location in
        either P (short zero_element s r) (cond b longer_rows c) r (either P b longer_rows c (compacted_empty r w) (compacted_empty r w)) (λ i h. refl)

pub compact_keeps : {E : Type 0} (zero_element : E) (p : PointStore E) → well_formed p ≡ true → well_formed (compact_spec zero_element p).after ≡ true
unfolding compact_spec
compact_keeps zero_element p e =
    let w = sound p e in
    let r = compacted_rows zero_element p.header (rows_of p) in
    carried (λ q. well_formed q ≡ true) (form_decided p) p (outcome done (with_rows r p)) e
    (λ g.
    sound_make (with_rows r p)
    (with_rows_lem p r w (compacted_sound zero_element p.header w.table_within (rows_of p) w.rows)
    (compacted_empty zero_element p.header w.table_within (rows_of p) w.rows)))
