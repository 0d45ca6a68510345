-- Laws of the whole check: what each of its tests says of well-formedness.
use Rattle.std.specs.Prelude.{ℕ, ◌≤◌, List, Bool, true, false, ◌≡◌, Some, None, cond, refl, length}
use Rattle.std.proofs.Common.{arith, sym, ◌∙◌, ap}
use Rattle.std.proofs.lemmas.Option.{cond_some, none-some}
use Rattle.labels.specs.declared.LabelsFree.{LabelsFree}
use Rattle.terms.specs.Below.{fails, every_below}
use Rattle.interval_store_manager.specs.WellFormed.{well_formed}
use Rattle.interval_store_manager.specs.Intervals.{free_number}
use Rattle.interval_store_manager.specs.MarkLaws.{marks_count}
use Rattle.interval_store_manager.specs.Sound as manager
use Rattle.labels.specs.Counted.{free_indices}
use Rattle.labels.specs.Labels.{Labels, label_count_at, tables_lent, labels_well, labels_ok}
use Rattle.labels.specs.Forms.{FreeOf}
use Rattle.labels.specs.Sound.{Sound, sound, tables_lent_lem, tables_lent_make, lent_of}
use Rattle.label_check.specs.Checks.{label_passes, slot_fits, Summed, MarksOf, labels_pass, slots_fit, passed}
use Rattle.label_check.specs.CheckLaws.{LabelsLent, SlotsLent}
use Rattle.label_check.specs.Checked.{free_in, half_checked, labels_checked}

-- a test that fails cannot hold
clash : {b : Bool} → b ≡ true → b ≡ false → ⊥
clash {b} e f = let q : true ≡ false = sym e ∙ f in let z : ◌≡◌ {A = ℕ} 0 1 = cc in omega arith

module _ (classes : List ℕ) (c : ℕ) (l : Labels) where
  -- a fact of every well-formed label half that does not hold
  refuted : (Sound classes c l → ⊥) → None ≡ half_checked classes c l
  unfolding half_checked
  refuted f = rw (fails (labels_well classes c l) (λ e. f (sound classes c l e)))

  pub label_capacity_other : (l.label_table.manager.capacity ≡ c → ⊥) → None ≡ half_checked classes c l
  label_capacity_other d = refuted (λ w. d w.label_table_lem.whole)

  pub slot_capacity_other : (l.attribute_table.manager.capacity ≡ c → ⊥) → None ≡ half_checked classes c l
  slot_capacity_other d = refuted (λ w. d w.slot_table.whole)

  abbrev lent : Bool
  lent = tables_lent c l.labels l.label_attributes l.label_table.counts l.attributes l.attribute_table.counts

  pub not_lent : lent ≡ false → None ≡ half_checked classes c l
  not_lent e = refuted (λ w. clash (tables_lent_make c l (lent_of classes c l w)) e)

  abbrev labels_managed : Bool
  labels_managed = well_formed l.label_table.manager l.label_table.starts l.label_table.ends

  abbrev slots_managed : Bool
  slots_managed = well_formed l.attribute_table.manager l.attribute_table.starts l.attribute_table.ends

  pub labels_not_managed : labels_managed ≡ false → None ≡ half_checked classes c l
  labels_not_managed e = refuted (λ w. clash w.label_table_lem.managed e)

  pub slots_not_managed : slots_managed ≡ false → None ≡ half_checked classes c l
  slots_not_managed e = refuted (λ w. clash w.slot_table.managed e)

  -- what the passes may rely on
  most : labels_managed ≡ true → l.label_table.manager.capacity ≡ c → c ≤ 1024
  most e q = omega (arith, q, (manager.sound l.label_table.manager l.label_table.starts l.label_table.ends e).most)

  pub labels_lent_lem : (marks : List ℕ) → labels_managed ≡ true → l.label_table.manager.capacity ≡ c → lent ≡ true → length marks ≡ 1024 → LabelsLent c l.labels l.label_attributes l.label_table.counts l.attributes marks
  labels_lent_lem marks e q t g =
      let lent = tables_lent_lem c l t in
      record {
        most = most e q;
        codes_lent = lent.codes_lent;
        slots_lent = lent.slots_lent;
        counts_lent = lent.counts_lent;
        classes_lent = lent.classes_lent;
        marks_lent = omega (arith, most e q, g);
      }

  pub slots_lent : (marks sums : List ℕ) (free : ℕ) → MarksOf l.attribute_table marks → free ≡ free_number l.attribute_table.manager.capacity l.attribute_table.manager.last_in_use l.attribute_table.starts l.attribute_table.ends → l.attribute_table.manager.capacity ≡ c → labels_managed ≡ true → l.label_table.manager.capacity ≡ c → lent ≡ true → length marks ≡ 1024 → length sums ≡ 1024 → SlotsLent c free l.attributes l.attribute_table.counts marks sums
  slots_lent marks sums free m number same e q t g h =
      let lent = tables_lent_lem c l t in
      record {
        classes_lent = lent.classes_lent;
        counts_lent = lent.slot_counts_lent;
        marks_lent = omega (arith, most e q, g);
        sums_lent = omega (arith, most e q, h);
        free_is =
            number
            ∙ (ap (λ (k : ℕ). free_number k l.attribute_table.manager.last_in_use l.attribute_table.starts l.attribute_table.ends) same
            ∙ sym (marks_count c l.attribute_table.manager.last_in_use l.attribute_table.starts l.attribute_table.ends marks m));
      }

  -- a label that does not pass
  pub labels_fail : (label_marks : List ℕ) → MarksOf l.label_table label_marks → every_below c (λ i. label_passes classes c l.labels l.label_attributes l.label_table.counts l.attributes label_marks i) ≡ false → None ≡ half_checked classes c l
  labels_fail label_marks lm e = refuted (λ w. clash (labels_pass classes c l label_marks lm w) e)

  -- a slot that does not fit
  pub slots_fail : (slot_marks sums : List ℕ) → MarksOf l.attribute_table slot_marks → labels_managed ≡ true → l.label_table.manager.capacity ≡ c → Summed c l.label_attributes l.label_table.counts sums → every_below c (λ s. slot_fits l.attributes l.attribute_table.counts slot_marks sums s) ≡ false → None ≡ half_checked classes c l
  slots_fail slot_marks sums sm lw lc e f = refuted (λ w. clash (slots_fit classes c l slot_marks sums sm (most lw lc) e w) f)

  -- every label passes and every slot fits
  pub all_pass : (label_marks slot_marks sums : List ℕ) → MarksOf l.label_table label_marks → MarksOf l.attribute_table slot_marks → labels_managed ≡ true → slots_managed ≡ true → l.label_table.manager.capacity ≡ c → l.attribute_table.manager.capacity ≡ c → ((i : ℕ) → label_count_at l i ≤ 65535) → lent ≡ true → every_below c (λ i. label_passes classes c l.labels l.label_attributes l.label_table.counts l.attributes label_marks i) ≡ true → Summed c l.label_attributes l.label_table.counts sums → every_below c (λ s. slot_fits l.attributes l.attribute_table.counts slot_marks sums s) ≡ true → (labels slots : ℕ) → labels ≡ free_indices l.label_table → slots ≡ free_indices l.attribute_table → Some (record { labels = labels; slots = slots }) ≡ half_checked classes c l
  unfolding half_checked
  all_pass label_marks slot_marks sums lm sm lw sw lc sc few t p e f labels slots a b =
      rw (passed classes c l label_marks slot_marks sums lm sm lw sw lc sc few (most lw lc) t p e f, a, b)

-- what an answer says of well-formedness, and of how many are free
none_if : {A : Type 0} (b : Bool) (x : A) → None ≡ cond b (Some x) None → false ≡ b
none_if true x e = absurd (none-some x e)
none_if false x e = refl

pub found : (on : Bool) (classes : List ℕ) (c : ℕ) (l : Labels) (free : LabelsFree) → Some free ≡ labels_checked on classes c l → (true ≡ labels_ok on classes c l) × (on ≡ true → FreeOf free l)
unfolding half_checked
found true classes c l free e =
    let p = cond_some (labels_well classes c l) (free_in l) free (sym e) in
    (sym p.0, λ q. record { labels = ap (λ (f : LabelsFree). f.labels) (sym p.1); slots = ap (λ (f : LabelsFree). f.slots) (sym p.1) })
found false classes c l free e = (refl, λ q. absurd (let z : ◌≡◌ {A = ℕ} 0 1 = cc in omega arith))

pub not_found : (on : Bool) (classes : List ℕ) (c : ℕ) (l : Labels) → None ≡ labels_checked on classes c l → false ≡ labels_ok on classes c l
unfolding half_checked
not_found true classes c l e = none_if (labels_well classes c l) (free_in l) e
not_found false classes c l e = absurd (none-some _ e)
