-- Laws of opening: the managers that new makes are those of the opened tables.
use Rattle.std.specs.Prelude.{ℕ, ◌-◌, ◌≤◌, List, true, ◌≡◌, length, set}
use Rattle.std.proofs.Common.{arith, ◌∙◌, ap}
use Rattle.interval_store_manager.specs.declared.IntervalStoreManager.{IntervalStoreManager}
use Rattle.interval_store_manager.specs.WellFormed.{capacity_allowed, lent_enough}
use Rattle.interval_store_manager.specs.Sound.{allowed_make, lent_make}
use Rattle.interval_store_manager.specs.Answers.{Opening, opened, refused, opening}
use Rattle.interval_store_manager.specs.Calls.{manager, new_spec}
use Rattle.labels.specs.Counted.{Counted, counted}
use Rattle.labels.specs.Labels.{Labels}
use Rattle.labels.specs.Opening.{cleared, table_opened, labels_opened, Openable}

-- every list of the label half has an entry for each index, and the capacity is allowed
pub record LabelsOpenable (capacity : ℕ) (labels slots counts starts ends classes slot_counts slot_starts slot_ends : List ℕ) : Type 0 where
  pub label_manager_lem : Openable capacity starts ends
  pub slot_manager : Openable capacity slot_starts slot_ends
  pub labels_lent_lem : capacity ≤ length labels
  pub slots_lent : capacity ≤ length slots
  pub counts_lent : capacity ≤ length counts
  pub classes_lent : capacity ≤ length classes
  pub slot_counts_lent : capacity ≤ length slot_counts

-- what may be opened is what new_unchecked asks for
pub may_open : (c : ℕ) (ss es : List ℕ) → Openable c ss es → (capacity_allowed c ≡ true) × (lent_enough c ss es ≡ true)
may_open c ss es o = (allowed_make c o.least o.most, lent_make c ss es o.starts_lent o.ends_lent)

-- new accepts what may be opened
accepted : (c : ℕ) (ss es : List ℕ) → Openable c ss es → new_spec c ss es ≡ opening (opened (manager c 1)) (set ss 0 0) (set es 0 (c - 1))
unfolding new_spec
accepted c ss es o = rw (allowed_make c o.least o.most, lent_make c ss es o.starts_lent o.ends_lent)

pub not_refused : (c : ℕ) (ss es ts fs : List ℕ) (n : ℕ) {A : Type 0} → Openable c ss es → opening (refused n) ts fs ≡ new_spec c ss es → A
not_refused c ss es ts fs n {A} o e =
    let f : refused n ≡ opened (manager c 1) = ap (λ (x : Opening). x.answer) (e ∙ accepted c ss es o) in
    absurd (let z : ◌≡◌ {A = ℕ} 0 1 = cc in omega arith)

pub table_is : (c : ℕ) (t : Counted) (r : IntervalStoreManager) (counts ss es : List ℕ) → Openable c t.starts t.ends → opening (opened r) ss es ≡ new_spec c t.starts t.ends → counts ≡ cleared c t.counts → counted r counts ss es ≡ table_opened c t
table_is c t r counts ss es o e f =
    let g = e ∙ accepted c t.starts t.ends o in
    let starts = ap (λ (x : Opening). x.starts) g in
    let ends = ap (λ (x : Opening). x.ends) g in
    let m : opened r ≡ opened (manager c 1) = ap (λ (x : Opening). x.answer) g in
    let q : r ≡ manager c 1 = cc in
    rw (starts, ends, f, q)

-- the label half opened part by part
pub opened_is : (c : ℕ) (l : Labels) (labels slots classes : List ℕ) (lt st : Counted) → labels ≡ cleared c l.labels → slots ≡ cleared c l.label_attributes → lt ≡ table_opened c l.label_table → classes ≡ cleared c l.attributes → st ≡ table_opened c l.attribute_table → record { labels = labels; label_attributes = slots; label_table = lt; attributes = classes; attribute_table = st } ≡ labels_opened c l
unfolding labels_opened
opened_is c l labels slots classes lt st d a e h f = rw (d, a, e, h, f)
