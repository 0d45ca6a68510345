-- Opening a product: what is refused and with which number, and that an accepted opening is well-formed.
use Rattle.std.specs.Prelude.{ℕ, zero, suc, Bool, not, None, List, get_or, replicate}
use Rattle.std.proofs.Common.{arith, sym, subst, ◌∙◌}
use Rattle.std.proofs.Math.Bool.{true, false}
use Rattle.std.proofs.Math.Path.{◌≡◌, refl, ap}
use borrow.Author.Tests.{not-false}
use Rattle.interval_store_manager.specs.Calls.{Decided, go, refuse}
use Rattle.class_table.specs.Text.{table_read}
use Rattle.labels.specs.Labels.{Labels}
use Rattle.labels.specs.Opening.{labels_opened}
use Rattle.store_definitions.specs.declared.Shape.{Shape}
use Rattle.store_definitions.specs.Memory.{Memory, PointStore}
use Rattle.store_definitions.specs.Answers.{done, refused}
use Rattle.store_definitions.specs.Bounds.{lent_enough}
use Rattle.store_definitions.specs.Parts.{label_half, with_labels}
use Rattle.store_definitions.specs.Decisions.{and_then, refuse_if}
use Rattle.store_definitions.specs.Opening.{shape_allowed, open_decided, fresh_record, opened_memory, opened}
use Rattle.store_laws.specs.Cases.{by_cases}
use Rattle.store_laws.specs.Sound.{sound_make}
use Rattle.store_laws.specs.DecisionLaws.{both_go, not_refused}
use Rattle.store_laws.specs.OpeningLaws.{open_outside, open_accepted, open_short, open_text, opened_sound}
use Rattle.probes_definitions.specs.Memory.{PointProbes, point_probes}
use Rattle.probes_definitions.specs.Answers.{ProbesOutcome, probes_outcome}
use Rattle.probes_definitions.specs.WellFormed.{eight_probes}
use Rattle.probes_definitions.specs.Opening.{probes_open_decided, fresh_probes, no_probes, probes_open_carried_out, probes_open_spec}
use Rattle.probes_definitions.proofs.Sound.{eight_sound, ProbesSound}

module _ {E : Type 0} (s : Shape) (text : List ℕ) (m : Memory E) where
  abbrev eight : Bool
  eight = eight_probes s.dimensions s.shingle_size s.internal_shingling

  -- 2 exactly for another base, without internal shingling or outside the bounds; then 1 exactly over memory too short, and
  -- 17 exactly for a text that is no table's
  pub probes_open_other : eight ≡ false → probes_open_decided s text m ≡ refuse 2
  unfolding probes_open_decided
  probes_open_other e = rw e

  pub probes_open_outside : shape_allowed s ≡ false → probes_open_decided s text m ≡ refuse 2
  unfolding probes_open_decided
  probes_open_outside e = ap (λ (d : Decided). and_then (refuse_if (not eight) 2) d) (open_outside s text m e) ∙ same eight
    where
      same : (b : Bool) → and_then (refuse_if (not b) 2) (refuse 2) ≡ refuse 2
      same true = refl
      same false = refl

  module _ (e : eight ≡ true) where
    -- the rest is the store's
    pub probes_open_store : probes_open_decided s text m ≡ open_decided s text m
    unfolding probes_open_decided
    probes_open_store = rw e

    pub probes_open_short : shape_allowed s ≡ true → lent_enough s.dimensions s.capacity s.store_labels m ≡ false → probes_open_decided s text m ≡ refuse 1
    probes_open_short f l = probes_open_store ∙ open_short s text m f l

    pub probes_open_text : shape_allowed s ≡ true → lent_enough s.dimensions s.capacity s.store_labels m ≡ true → table_read text ≡ None → probes_open_decided s text m ≡ refuse 17
    probes_open_text f l t = probes_open_store ∙ open_text s text m f l t

  pub record Openable : Type 0 where
    pub eight_probes_lem : eight ≡ true
    pub of_store : open_decided s text m ≡ go

  pub probes_open_accepted : probes_open_decided s text m ≡ go → Openable
  unfolding probes_open_decided
  probes_open_accepted e =
      let b = both_go (refuse_if (not eight) 2) (open_decided s text m) e in
      record {
        eight_probes_lem = not-false eight (not_refused _ 2 b.0);
        of_store = b.1;
      }

  module _ (zero_element : E) where
    -- a refused opening gives no record and leaves the memory as it was
    pub probes_open_refused : (n : ℕ) (p : PointProbes E) → probes_open_spec zero_element s text m ≡ probes_outcome (refused n) p → p ≡ point_probes no_probes m
    unfolding probes_open_spec
    probes_open_refused n p e = split (probes_open_decided s text m) e
      where
        split : (d : Decided) → probes_open_carried_out zero_element d s text m ≡ probes_outcome (refused n) p → p ≡ point_probes no_probes m
        split go q = absurd (let a : done ≡ refused n = ap (λ (o : ProbesOutcome E). o.answer) q in let z : ◌≡◌ {A = ℕ} 0 1 = cc in omega arith)
        split (refuse k) q = ap (λ (o : ProbesOutcome E). o.after) (sym q)

    -- an accepted one was decided so, and gives a fresh product
    pub probes_open_done : (p : PointProbes E) → probes_open_spec zero_element s text m ≡ probes_outcome done p → (probes_open_decided s text m ≡ go) × (p ≡ fresh_probes (opened zero_element s text m))
    unfolding probes_open_spec
    probes_open_done p e = split (probes_open_decided s text m) e
      where
        split : (d : Decided) → probes_open_carried_out zero_element d s text m ≡ probes_outcome done p → (d ≡ go) × (p ≡ fresh_probes (opened zero_element s text m))
        split go q = (refl, ap (λ (o : ProbesOutcome E). o.after) (sym q))
        split (refuse k) q = absurd (let a : refused k ≡ done = ap (λ (o : ProbesOutcome E). o.answer) q in let z : ◌≡◌ {A = ℕ} 0 1 = cc in omega arith)

pub zeros_at : (n k : ℕ) → ◌≡◌ {A = ℕ} (get_or (replicate n 0) k 0) 0
zeros_at zero k = refl
zeros_at (suc n) zero = refl
zeros_at (suc n) (suc k) = zeros_at n k

-- what a fresh store has of its shape
module _ {E : Type 0} (zero_element : E) (s : Shape) (text : List ℕ) (m : Memory E) where
  pub record Begun (p : PointStore E) : Type 0 where
    pub dimensions : p.header.dimensions ≡ s.dimensions
    pub shingle : p.header.shingle_size ≡ s.shingle_size
    pub internal : p.header.internal_shingling ≡ s.internal_shingling
    pub sequence : p.header.next_sequence_index ≡ 0
    pub window : p.memory.last_known_shingle ≡ (opened_memory zero_element s m).last_known_shingle

  begun_with : (l : Labels) → Begun (with_labels l (record { header = fresh_record s text; memory = opened_memory zero_element s m }))
  begun_with l = record { dimensions = refl; shingle = refl; internal = refl; sequence = refl; window = refl }

  pub opened_begun : Begun (opened zero_element s text m)
  unfolding opened
  opened_begun =
      let p : PointStore E = record { header = fresh_record s text; memory = opened_memory zero_element s m } in
      by_cases Begun s.store_labels (with_labels (labels_opened s.capacity (label_half p)) p) p
      (λ on. begun_with (labels_opened s.capacity (label_half p)))
      (λ off. begun_with (label_half p))

  pub fresh_sound : probes_open_decided s text m ≡ go → ProbesSound (fresh_probes (opened zero_element s text m))
  fresh_sound e =
      let o = probes_open_accepted s text m e in
      let p = opened zero_element s text m in
      let b = opened_begun in
      let eight = eight_sound s.dimensions s.shingle_size s.internal_shingling o.eight_probes_lem in
      record {
        well = sound_make p (opened_sound s text m zero_element (open_accepted s text m o.of_store));
        base_eight = rw (b.dimensions, b.shingle) eight.0;
        internal = b.internal ∙ eight.1;
        eight_tallies = refl;
        tallies_most = λ k h. omega (arith, zeros_at 8 k);
      }

  -- every accepted opening is well-formed
  pub probes_opening_well_formed : (p : PointProbes E) → probes_open_spec zero_element s text m ≡ probes_outcome done p → ProbesSound p
  probes_opening_well_formed p e =
      let d = probes_open_done s text m zero_element p e in
      subst ProbesSound (sym d.1) (fresh_sound d.0)
