-- What the check counts of a store that is well-formed.
use Rattle.std.specs.Prelude.{ℕ, true, not, List, ◌≡◌, get_or, ltb, eqb}
use Rattle.std.proofs.Common.{sym, ap}
use Rattle.terms.specs.Below.{one, count_below, sum_same}
use Rattle.labels.specs.Forms.{FreeOf}
use Rattle.store_definitions.specs.declared.Store.{Store}
use Rattle.store_definitions.specs.Memory.{Memory, PointStore, point_store}
use Rattle.store_definitions.specs.Parts.{table_length, label_half}
use Rattle.store_laws.specs.FigureLaws.{above_zero}
use Rattle.store_check.specs.declared.Figures.{Figures}
use Rattle.store_check.specs.Entries.{counts_live}
use Rattle.store_check.specs.CheckLaws.{elementless}

-- so many points are live and, with labels on, so many label indices and slots are free
pub record FiguresOf {E : Type 0} (f : Figures) (p : PointStore E) : Type 0 where
  pub live_is : f.live ≡ counts_live (table_length p.header) p.memory.reference_count
  pub labels_free : p.header.store_labels ≡ true → FreeOf f.free (label_half p)

-- the definitions' own count of the live
pub counts_live_lem : (n : ℕ) (counts : List ℕ) → counts_live n counts ≡ count_below n (λ i. ltb 0 (get_or counts i 0))
unfolding counts_live count_below
counts_live_lem n counts =
    sum_same n (λ i. one (not (eqb (get_or counts i 0) 0))) (λ i. one (ltb 0 (get_or counts i 0))) (λ i h. ap one (sym (above_zero (get_or counts i 0))))

-- the check sees of the elements only how many there are
pub figures_filled : {E : Type 0} (s : Store) (m : Memory E) (f : Figures) → FiguresOf f (point_store s (elementless m)) → FiguresOf f (point_store s m)
figures_filled s m f figures = record { live_is = figures.live_is; labels_free = figures.labels_free }
