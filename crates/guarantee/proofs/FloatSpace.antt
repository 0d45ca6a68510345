-- An add is refused for float space only as the guarantee says.
use Rattle.std.specs.Prelude.{ℕ, ◌+◌, ◌*◌, ◌<◌, Bool, true, false, cond, List}
use Rattle.std.proofs.Common.{arith, sym, ◌∙◌}
use Rattle.std.proofs.Math.Path.{◌≡◌, refl, ap}
use Rattle.interval_store_manager.specs.Calls.{go, refuse}
use Rattle.placement.specs.AlignmentLaws.{point_room}
use Rattle.placement.specs.declared.Laid.{Laid}
use Rattle.placement.specs.Growth.{grown}
use Rattle.labels.specs.Counted.{live_number}
use Rattle.store_definitions.specs.Memory.{PointStore}
use Rattle.store_definitions.specs.Answers.{kept, refused, outcome}
use Rattle.store_definitions.specs.Parts.{base_of, table_length, point_table, rows_of, with_rows}
use Rattle.store_definitions.specs.Rows.{room_made}
use Rattle.store_definitions.specs.Adding.{AddDecided, keep, wait, refuse_add, add_decided, row_of, label_given, overflows, laid_how, kept_after, index_given, free_left, keeps, add_carried_out, add_spec}
use Rattle.store_definitions.specs.WellFormed.{well_formed}
use Rattle.store_laws.specs.Sound.{sound}
use Rattle.store_laws.specs.RefusalLaws.{add_never, add_refused_ten}
use Rattle.store_laws.specs.AddDecisionLaws.{keeps_on}
use Rattle.guarantee.specs.SpaceLaws.{refused_bound, refused_largest, unturned_fits}
use Rattle.guarantee.proofs.EachCallKeeps.{formed}

full_room : {E : Type 0} (b : Bool) (x y : PointStore E) (i l : ℕ) (laid : Laid) (left : ℕ) → (cond b (outcome (refused 10) x) (outcome (kept i l laid left) y)).answer ≡ refused 10 → b ≡ true
full_room true x y i l laid left e = refl
full_room false x y i l laid left e = absurd (let z : ◌≡◌ {A = ℕ} 0 1 = cc in omega arith)

module _ {E : Type 0} (eq : E → E → Bool) (zero_element : E) (p : PointStore E) (point : List E) (code : ℕ) where
  -- before room is made, nothing is refused with 10
  decided_not_ten : well_formed p ≡ true → add_decided p point code ≡ refuse_add 10 → ⊥
  decided_not_ten f =
      add_never 10 p point code (λ e. let z : ◌≡◌ {A = ℕ} 0 1 = let t : go ≡ refuse 10 = sym (formed p f) ∙ e in cc in omega arith)
      (λ e. omega arith)
      (λ e. omega arith)
      (λ e. omega arith)
      (λ e. omega arith)
      (λ e. omega arith)

  -- 10: the add is kept but for its row
  ten : well_formed p ≡ true → (add_spec eq zero_element p point code).answer ≡ refused 10
      → (add_decided p point code ≡ keep) × (overflows eq p.header (room_made zero_element p.header (rows_of p)) (row_of p point) ≡ true)
  unfolding add_spec keeps
  ten f = split (add_decided p point code) refl
    where
      split : (d : AddDecided) → add_decided p point code ≡ d → (add_carried_out eq zero_element d p point code).answer ≡ refused 10
          → (d ≡ keep) × (overflows eq p.header (room_made zero_element p.header (rows_of p)) (row_of p point) ≡ true)
      split keep e a = (
        refl,
        full_room (overflows eq p.header (room_made zero_element p.header (rows_of p)) (row_of p point)) (with_rows (room_made zero_element p.header (rows_of p)) p) (kept_after eq (room_made zero_element p.header (rows_of p)) (row_of p point) p point code) (index_given p) (label_given p) (laid_how eq p.header (room_made zero_element p.header (rows_of p)) (row_of p point)) (free_left p) a,
      )
      split wait e a = absurd (let z : ◌≡◌ {A = ℕ} 0 1 = cc in omega arith)
      split (refuse_add n) e a = absurd (decided_not_ten f (e ∙ ap refuse_add (let q : n ≡ 10 = cc in q)))

  -- 'The guarantee on float space without rotation covers these small stores too': no add of a well-formed store, fresh or not
  pub unturned_never_ten : well_formed p ≡ true → p.header.internal_rotation ≡ false → (add_spec eq zero_element p point code).answer ≡ refused 10 → ⊥
  unturned_never_ten f off e =
      let t = ten f e in
      unturned_fits p (sound p f) zero_element eq (row_of p point) t.1 off (keeps_on p point code t.0).not_full

  -- with rotation or without, 10 comes at the largest store length alone: below it one growth makes room
  pub ten_at_largest : well_formed p ≡ true → (add_spec eq zero_element p point code).answer ≡ refused 10
      → (add_spec eq zero_element p point code).after.header.store_length ≡ p.header.capacity * p.header.dimensions
  ten_at_largest f e =
      ap (λ (q : PointStore E). q.header.store_length) (add_refused_ten eq zero_element p point code e)
      ∙ refused_largest p (sound p f) zero_element eq (row_of p point) (ten f e).1

  -- and only where the live indices' room and one point more pass the grown store length
  pub ten_bound : well_formed p ≡ true → (add_spec eq zero_element p point code).answer ≡ refused 10
      → grown p.header.store_length p.header.dimensions (p.header.capacity * p.header.dimensions)
      < live_number (table_length p.header) (point_table p) * point_room p.header.internal_rotation p.header.dimensions (base_of p.header) + p.header.dimensions
  ten_bound f e = refused_bound p (sound p f) zero_element eq (row_of p point) (ten f e).1
