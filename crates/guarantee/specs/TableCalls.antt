-- A kept add's index: taken from a table, grown or as it was, it keeps the invariant.
use Rattle.std.specs.Prelude.{ℕ, ◌+◌, ◌/◌, ◌≤◌, ◌<◌, Bool, true, cond, ◌≡◌, length, get_or, set, eqb}
use Rattle.std.proofs.Math.Decide.{dec_lt, ℕ_discrete}
use Rattle.std.proofs.Common.{arith, sym, subst, ◌∙◌, eq-eqb, ne_eqb}
use mathlib.Core.List.{List}
use Rattle.std.proofs.Math.Path.{ap}
use Rattle.std.proofs.Math.Seq.{get_or-set_same, get_or-set_other}
use Rattle.terms.specs.Below.{sum_below, fails, sum_same}
use Rattle.terms.specs.Rows.{Exact}
use Rattle.terms.specs.Sums.{sum_changed}
use Rattle.placement.specs.Copying.{turn, turned, copied}
use Rattle.labels.specs.Counted.{Counted, count_at, next_index, index_taken}
use Rattle.labels.specs.CountedLaws.{WellCounted, next_within, next_unused, take_keeps}
use Rattle.store_definitions.specs.declared.Shape.{Shape}
use Rattle.store_definitions.specs.Memory.{PointStore}
use Rattle.store_definitions.specs.Parts.{base_of, table_length, with_points}
use Rattle.store_definitions.specs.Rows.{copy_of, copy_spec}
use Rattle.store_definitions.specs.Adding.{placed}
use Rattle.store_laws.specs.Sound.{Sound}
use Rattle.store_laws.specs.FigureLaws.{sum_grown}
use Rattle.guarantee.specs.History.{Given, alive, count, is_live, History, gave, changed}
use Rattle.guarantee.specs.LifeLaws.{dead_count}
use Rattle.guarantee.specs.Relates.{copy_answer, CopyStands, Relates}
use Rattle.guarantee.specs.CopyLaws.{copy_answer_lem}

-- a table with places in which every index of the store has its count and its place, and new ones have count 0
pub record Grown {E : Type 0} (p : PointStore E) (n : ℕ) (t : Counted) (location : List ℕ) : Type 0 where
  pub well : WellCounted n t
  pub some : 0 < t.manager.last_in_use
  pub more : table_length p.header ≤ n
  pub old_counts : (i : ℕ) → i < table_length p.header → count_at t i ≡ get_or p.memory.reference_count i 0
  pub new_counts : (i : ℕ) → table_length p.header ≤ i → i < n → count_at t i ≡ 0
  pub old_places : (i : ℕ) → i < table_length p.header → get_or location i 65535 ≡ get_or p.memory.location i 65535
  pub places_lent : n ≤ length location

module _ {E : Type 0} (eq : E → E → Bool) (h : Shape) (then : Given E → PointStore E) (s : History E) (p : PointStore E) (r : Relates eq h then s p) (n : ℕ) (t : Counted) (location : List ℕ) (grown : Grown p n t location) (g : Given E) (place : ℕ) where
  abbrev i : ℕ
  i = next_index t

  abbrev after : PointStore E
  after = placed (with_points t location p) place

  below : i < n
  below = next_within n t grown.well grown.some

  whole : (index_taken t).manager.capacity ≡ n
  whole = (take_keeps n t grown.well grown.some).whole

  inside : i < length t.counts
  inside = omega (arith, below, grown.well.lent)

  -- the counts of the table are the history's
  table_counts : (k : ℕ) → k < n → count_at t k ≡ count (s.life k)
  table_counts k l =
      elim (dec_lt k (table_length p.header)) [
        | yes m ↦ grown.old_counts k m ∙ r.counts k m
        | no f ↦
            grown.new_counts k (omega arith) l
            ∙ sym (dead_count (s.life k) (fails (is_live (s.life k)) (λ e. omega (arith, r.live_below_lem k e))))
      ]

  table_sum : sum_below n (λ k. count_at t k) ≡ sum_below (table_length p.header) (λ k. get_or p.memory.reference_count k 0)
  table_sum =
      sum_grown (table_length p.header) n (λ k. count_at t k) grown.new_counts grown.more
      ∙ sum_same (table_length p.header) (λ k. count_at t k) (λ k. get_or p.memory.reference_count k 0) grown.old_counts

  -- one count for the index
  new_sum : sum_below n (λ k. get_or (set t.counts i 1) k 0) ≡ sum_below n (λ k. count_at t k) + 1
  new_sum =
      let e = sum_changed n i (λ k. count_at t k) (λ k. get_or (set t.counts i 1) k 0) below (λ k m d. get_or-set_other t.counts i k 1 0 d) in
      omega (arith, e, next_unused n t grown.well grown.some, get_or-set_same t.counts i 1 0 inside)

  others_copy : (k : ℕ) → (k ≡ i → ⊥) → is_live (s.life k) ≡ true → copy_of after k ≡ copy_of p k
  unfolding copy_of placed
  others_copy k d e = rw (get_or-set_other location i k place 65535 d, grown.old_places k (r.live_below_lem k e))

  own_copy : copy_of after i ≡ copied p.header.internal_rotation p.header.dimensions (base_of p.header) place p.memory.store
  unfolding copy_of placed
  own_copy = rw (get_or-set_same location i place 65535 (omega (arith, below, grown.places_lent)))

  -- its copy right after the add
  module _ (now : then g ≡ after) (sound : Sound after) (row : Exact eq → copied p.header.internal_rotation p.header.dimensions (base_of p.header) place p.memory.store ≡ turned h.dimensions (turn h.internal_rotation h.dimensions (h.dimensions / h.shingle_size) g.place) g.row) where
    listed : i < table_length after.header
    unfolding placed
    listed = rw whole below

    counted : 0 < get_or after.memory.reference_count i 0
    unfolding placed index_taken
    counted = rw (get_or-set_same t.counts i 1 0 inside) (omega arith)

    own : CopyStands eq h then i g (copied p.header.internal_rotation p.header.dimensions (base_of p.header) place p.memory.store)
    unfolding placed
    own =
        record {
          as_then = λ out.
              ap (λ (q : PointStore E). copy_spec q i out) now
              ∙ copy_answer_lem after sound i listed counted out
              ∙ ap (λ (d : ℕ). copy_answer d (copy_of after i) out) r.fits.dimensions
              ∙ ap (λ (c : List E). copy_answer h.dimensions c out) own_copy;
          row = row;
        }

    new_copies : (k : ℕ) (f : Given E) (x y : ℕ) → cond (eqb k i) (alive 0 0 g) (s.life k) ≡ alive x y f → CopyStands eq h then k f (copy_of after k)
    new_copies k f x y e =
        elim (ℕ_discrete k i) [
          | yes q ↦
              let same : g ≡ f = let a : alive 0 0 g ≡ alive x y f = rw (eq-eqb k i q) at e in cc in
              subst (λ (j : ℕ). CopyStands eq h then j f (copy_of after j)) (sym q)
              (rw own_copy (subst (λ (j : Given E). CopyStands eq h then i j (copied p.header.internal_rotation p.header.dimensions (base_of p.header) place p.memory.store)) same own))
          | no d ↦
              let a : s.life k ≡ alive x y f = rw (ne_eqb k i d) at e in
              subst (CopyStands eq h then k f) (sym (others_copy k d (ap is_live a))) (r.copies k f (x, y, a))
        ]

    pub index_kept : Relates eq h then (changed g (gave i) s) after
    unfolding placed index_taken
    index_kept =
        record {
          fits = record {
            dimensions = r.fits.dimensions;
            shingle = r.fits.shingle;
            capacity = r.fits.capacity;
            internal = r.fits.internal;
            rotation = r.fits.rotation;
          };
          counts = λ k l.
              elim (ℕ_discrete k i) [
                | yes e ↦ rw (eq-eqb k i e, e, get_or-set_same t.counts i 1 0 inside)
                | no d ↦ rw (ne_eqb k i d, get_or-set_other t.counts i k 1 0 d) (table_counts k (rw whole at l))
              ];
          live_below_lem = λ k e.
              rw whole
              (elim (ℕ_discrete k i) [
                | yes q ↦ rw q below
                | no d ↦ omega (arith, r.live_below_lem k (rw (ne_eqb k i d) at e), grown.more)
              ]);
          live_counted = λ k e.
              elim (ℕ_discrete k i) [
                | yes q ↦ rw (eq-eqb k i q) (omega arith)
                | no d ↦ rw (ne_eqb k i d) (r.live_counted k (rw (ne_eqb k i d) at e))
              ];
          sum = rw whole (omega (arith, new_sum, table_sum, r.sum));
          copies = λ k f since. new_copies k f since.0 since.1 since.2;
          sequence = r.sequence;
          window = r.window;
        }
