-- Each call, accepted or refused, keeps the invariant.
use Rattle.std.specs.Prelude.{ℕ, Bool, true, List, ◌∷◌, ◌≡◌}
use Rattle.std.proofs.Math.Path.{refl}
use Rattle.interval_store_manager.specs.Calls.{Decided, go, refuse}
use Rattle.store_definitions.specs.declared.Shape.{Shape}
use Rattle.store_definitions.specs.Memory.{PointStore}
use Rattle.store_definitions.specs.Answers.{Answer, kept, refused, done, Outcome, outcome}
use Rattle.store_definitions.specs.Parts.{rows_of, with_rows}
use Rattle.store_definitions.specs.Decisions.{form_decided, carried_out}
use Rattle.store_definitions.specs.Counting.{Pairing, inc_test, dec_test, incremented, decremented, inc_spec, dec_spec, adjust_from, adjust_spec}
use Rattle.store_definitions.specs.Rows.{compacted_rows, room_made, compact_spec}
use Rattle.store_definitions.specs.Adding.{AddDecided, keep, wait, refuse_add, add_decided, row_of, label_given, overflows, laid_how, kept_after, index_given, free_left, keeps, add_carried_out, add_spec}
use Rattle.store_definitions.specs.WellFormed.{well_formed}
use Rattle.store_laws.specs.Sound.{Sound}
use Rattle.store_laws.specs.Cases.{by_cases}
use Rattle.store_laws.specs.CountingLaws.{inc_keeps, dec_keeps, adjust_keeps}
use Rattle.store_laws.specs.RowsLaws.{compact_keeps}
use Rattle.store_laws.specs.AddDecisionLaws.{waits_on, keeps_on}
use Rattle.store_laws.specs.AddingLaws.{add_keeps}
use Rattle.guarantee.specs.Run.{Call, add, inc, dec, adjust, compact, called}
use Rattle.guarantee.specs.History.{Given, History, accepted, place_in, row_of_add, recorded, changed_by}
use Rattle.guarantee.specs.Relates.{Relates}
use Rattle.guarantee.specs.AdjustCall.{standing_is, inc_accepted_kept, dec_accepted_kept, pairs_kept}
use Rattle.guarantee.specs.RowCalls.{compact_kept, room_kept}
use Rattle.guarantee.specs.AddCall.{kept_full, wait_kept, add_kept}

pub formed : {E : Type 0} (p : PointStore E) → well_formed p ≡ true → form_decided p ≡ go
unfolding form_decided
formed p e = rw e

module _ {E : Type 0} (eq : E → E → Bool) (zero_element : E) where
  pub call_well_formed : (c : Call E) (p : PointStore E) → well_formed p ≡ true → well_formed (called eq zero_element c p).after ≡ true
  call_well_formed (add point code) p e = add_keeps eq zero_element p point code e
  call_well_formed (inc i l) p e = inc_keeps p i l e
  call_well_formed (dec i l) p e = dec_keeps p i l e
  call_well_formed (adjust qs) p e = adjust_keeps p qs e
  call_well_formed compact p e = compact_keeps zero_element p e

  module _ (h : Shape) (then : Given E → PointStore E) (before : List (Call E)) (s : History E) (p : PointStore E) (w : Sound p) (r : Relates eq h then s p) where
    -- the store right after this call
    abbrev Now : Call E → PointStore E → Type 0
    Now c q = (row : List E) (place : ℕ) → then (record { calls = c ∷ before; row = row; place = place }) ≡ q

    -- what the history keeps of it
    abbrev by : Call E → Answer → Given E
    by c a = record { calls = c ∷ before; row = row_of_add h (accepted c a s.points); place = place_in a }

    -- what a call leaves, with its answer
    abbrev Leaves : Call E → Outcome E → Type 0
    Leaves c o = Now c o.after → Relates eq h then (recorded h c before o.answer s) o.after

    inc_leaves : (i l : ℕ) (d : Decided) → inc_test p i l ≡ d → Leaves (inc i l) (carried_out d p (outcome done (incremented p i l)))
    unfolding recorded changed_by
    inc_leaves i l go e now = inc_accepted_kept eq h then (by (inc i l) done) s p i l w r e
    inc_leaves i l (refuse n) e now = r

    dec_leaves : (i l : ℕ) (d : Decided) → dec_test p i l ≡ d → Leaves (dec i l) (carried_out d p (outcome done (decremented p i l)))
    unfolding recorded changed_by
    dec_leaves i l go e now = dec_accepted_kept eq h then (by (dec i l) done) s p i l w r e
    dec_leaves i l (refuse n) e now = r

    adjust_leaves : (qs : List Pairing) → Leaves (adjust qs) (adjust_from 0 qs p)
    unfolding recorded
    adjust_leaves qs now =
        let a = (adjust_from 0 qs p).answer in
        let k = pairs_kept eq h then (by (adjust qs) a) 0 qs s p w r in
        rw (standing_is qs k.0 a k.1) k.2

    compact_leaves : Leaves compact (outcome done (with_rows (compacted_rows zero_element p.header (rows_of p)) p))
    unfolding recorded changed_by
    compact_leaves now = compact_kept eq h then s p w r zero_element

    add_leaves : (point : List E) (code : ℕ) (d : AddDecided) → add_decided p point code ≡ d → Leaves (add point code) (add_carried_out eq zero_element d p point code)
    unfolding recorded changed_by keeps
    add_leaves point code keep e =
        let k = keeps_on p point code e in
        let x = room_made zero_element p.header (rows_of p) in
        let row = row_of p point in
        by_cases (Leaves (add point code)) (overflows eq p.header x row) (outcome (refused 10) (with_rows x p))
        (outcome (kept (index_given p) (label_given p) (laid_how eq p.header x row) (free_left p)) (kept_after eq (room_made zero_element p.header (rows_of p)) (row_of p point) p point code))
        (λ full now. room_kept eq h then s p w r zero_element)
        (λ fits now. add_kept eq zero_element h then s p w r point code k (kept_full p point code e) fits _ refl refl (now _ _))
    add_leaves point code wait e = λ now. wait_kept eq zero_element h then s p w r point code (waits_on p point code e).sized
    add_leaves point code (refuse_add n) e = λ now. r

    pub call_kept : (c : Call E) → well_formed p ≡ true → Leaves c (called eq zero_element c p)
    unfolding add_spec inc_spec dec_spec adjust_spec compact_spec
    call_kept (add point code) f = add_leaves point code (add_decided p point code) refl
    call_kept (inc i l) f = rw (formed p f) (inc_leaves i l (inc_test p i l) refl)
    call_kept (dec i l) f = rw (formed p f) (dec_leaves i l (dec_test p i l) refl)
    call_kept (adjust qs) f = rw (formed p f) (adjust_leaves qs)
    call_kept compact f = rw (formed p f) compact_leaves
