-- A fresh store stands to the empty history as the invariant says.
use Rattle.std.specs.Prelude.{ℕ, zero, suc, ◌*◌, ◌-◌, ◌/◌, ◌≤◌, Bool, List, [], ◌≡◌, length, take, drop}
use Rattle.std.proofs.Common.{arith, ◌∙◌, length-take-le}
use Rattle.std.proofs.lemmas.Bool.{false≢true}
use Rattle.std.proofs.Math.Path.{refl}
use Rattle.std.proofs.Math.ListN.{get_or}
use Rattle.std.proofs.Math.Seq.{drop-length}
use Rattle.terms.specs.Below.{sum_same, sum_zeros}
use Rattle.store_definitions.specs.declared.Shape.{Shape}
use Rattle.store_definitions.specs.Memory.{Memory, PointStore}
use Rattle.store_definitions.specs.Parts.{label_half}
use Rattle.store_definitions.specs.Opening.{fresh_record, filled_first, opened_memory, opened}
use Rattle.labels.specs.Opening.{labels_opened}
use Rattle.store_laws.specs.OpeningLaws.{filled_length, filled_at}
use Rattle.guarantee.specs.History.{Given, dead, alive, nothing, joined_points}
use Rattle.guarantee.specs.Relates.{Relates}
use Rattle.guarantee.specs.CountCalls.{labels_aside}

no_points : {E : Type 0} (dims base : ℕ) (window : List E) → dims ≤ length window → (k : ℕ) → k ≤ 0 → drop (dims - k * base) (take dims window) ≡ joined_points k []
unfolding joined_points
no_points dims base window long zero h =
    let e : dims - 0 * base ≡ length (take dims window) = omega (arith, length-take-le dims window long) in
    rw e (drop-length (take dims window))
no_points dims base window long (suc k) h = absurd (omega arith)

module _ {E : Type 0} (eq : E → E → Bool) (zero_element : E) (h : Shape) (text : List ℕ) (m : Memory E) (then : Given E → PointStore E) where
  never : {A : Type 0} {x y : ℕ} {g : Given E} → dead ≡ alive x y g → A
  never e = absurd (let z : ◌≡◌ {A = ℕ} 0 1 = cc in omega arith)

  pub fresh : h.dimensions ≤ length m.last_known_shingle → Relates eq h then nothing (opened zero_element h text m)
  unfolding opened opened_memory joined_points
  fresh window =
      labels_aside eq h then h.store_labels nothing (labels_opened h.capacity (label_half bare)) bare
      (record {
        fits = record { dimensions = refl; shingle = refl; capacity = refl; internal = refl; rotation = refl };
        counts = λ i l. filled_at h.initial_capacity 0 m.reference_count i 0 l;
        live_below_lem = λ i e. absurd (false≢true e);
        live_counted = λ i e. absurd (false≢true e);
        sum = omega (arith, sum_same h.initial_capacity (λ i. get_or (filled_first h.initial_capacity 0 m.reference_count) i 0) (λ i. 0) (λ i l. filled_at h.initial_capacity 0 m.reference_count i 0 l) ∙ sum_zeros h.initial_capacity);
        copies = λ i g since. never since.2;
        sequence = refl;
        window = λ on k l none. no_points h.dimensions (h.dimensions / h.shingle_size) (filled_first h.dimensions zero_element m.last_known_shingle) (rw (filled_length h.dimensions zero_element m.last_known_shingle window) window) k none;
      })
    where
      bare : PointStore E
      bare = record { header = fresh_record h text; memory = opened_memory zero_element h m }
