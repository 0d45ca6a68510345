-- What an accepted and what a kept add may rely on.
use Rattle.std.specs.Prelude.{ℕ, ◌≤◌, ◌<◌, Bool, cond, not, List, refl, length, ltb, eqb}
use Rattle.std.proofs.Common.{arith, eqb-true, ltb-false}
use Rattle.std.proofs.Math.Bool.{true, false}
use Rattle.std.proofs.Math.Path.{◌≡◌}
use Rattle.std.proofs.lemmas.Bool.{eqb-false, not-false}
use Rattle.terms.specs.Below.{positive}
use Rattle.interval_store_manager.specs.Calls.{Decided, go, refuse}
use Rattle.labels.specs.Decisions.{code_decided, room_decided}
use Rattle.store_definitions.specs.declared.Store.{Store}
use Rattle.store_definitions.specs.Memory.{PointStore}
use Rattle.store_definitions.specs.Decisions.{and_then, refuse_if, form_decided}
use Rattle.store_definitions.specs.Adding.{point_length, waits, table_full, AddDecided, keep, wait, then_add, add_decided}
use Rattle.store_laws.specs.DecisionLaws.{both_go, not_refused}

-- what an accepted add may rely on
pub record Accepted {E : Type 0} (p : PointStore E) (point : List E) (code : ℕ) : Type 0 where
  pub sized : length point ≡ point_length p.header
  pub unfinished : p.header.next_sequence_index ≡ 4294967295 → ⊥
  pub coded : p.header.store_labels ≡ true → code ≤ 23

-- and a kept one
pub record Kept {E : Type 0} (p : PointStore E) (point : List E) (code : ℕ) : Type 0 where
  pub accepted : Accepted p point code
  pub label_free : p.header.store_labels ≡ true → 0 < p.header.label_manager.last_in_use
  pub not_full : table_full p.header ≡ false

then_keep : (d : Decided) (a : AddDecided) → then_add d a ≡ keep → (d ≡ go) × (a ≡ keep)
then_keep go a e = (refl, e)
then_keep (refuse n) a e = absurd (let z : ◌≡◌ {A = ℕ} 0 1 = cc in omega arith)

then_wait : (d : Decided) (a : AddDecided) → then_add d a ≡ wait → d ≡ go
then_wait go a e = refl
then_wait (refuse n) a e = absurd (let z : ◌≡◌ {A = ℕ} 0 1 = cc in omega arith)

kept_go : (b : Bool) (d : Decided) → cond b wait (then_add d keep) ≡ keep → d ≡ go
kept_go true d e = absurd (let z : ◌≡◌ {A = ℕ} 0 1 = cc in omega arith)
kept_go false d e = (then_keep d keep e).0

code_go : (on : Bool) (code : ℕ) → code_decided on code ≡ go → on ≡ true → code ≤ 23
unfolding code_decided
code_go true code e h = ltb-false 23 code (not_refused (ltb 23 code) 4 e)
code_go false code e h = absurd (let z : ◌≡◌ {A = ℕ} 0 1 = cc in omega arith)

module _ {E : Type 0} (p : PointStore E) (point : List E) (code : ℕ) where
  abbrev s : Store
  s = p.header

  abbrev asked : Decided
  asked =
      and_then (form_decided p)
      (and_then (refuse_if (not (eqb (length point) (point_length s))) 3)
      (and_then (refuse_if (eqb s.next_sequence_index 4294967295) 12) (code_decided s.store_labels code)))

  accepts : asked ≡ go → Accepted p point code
  accepts e =
      let a = both_go (form_decided p) _ e in
      let b = both_go (refuse_if (not (eqb (length point) (point_length s))) 3) _ a.1 in
      let c = both_go (refuse_if (eqb s.next_sequence_index 4294967295) 12) (code_decided s.store_labels code) b.1 in
      record {
        sized = eqb-true (length point) (point_length s) (not-false (eqb (length point) (point_length s)) (not_refused _ 3 b.0));
        unfinished = eqb-false s.next_sequence_index 4294967295 (not_refused _ 12 c.0);
        coded = code_go s.store_labels code c.1;
      }

  room_go : (on : Bool) → room_decided on s.label_manager ≡ go → on ≡ true → 0 < s.label_manager.last_in_use
  unfolding room_decided
  room_go true e h = positive s.label_manager.last_in_use (eqb-false s.label_manager.last_in_use 0 (not_refused _ 8 e))
  room_go false e h = absurd (let z : ◌≡◌ {A = ℕ} 0 1 = cc in omega arith)

  pub waits_on : add_decided p point code ≡ wait → Accepted p point code
  unfolding add_decided
  waits_on e = accepts (then_wait asked _ e)

  pub keeps_on : add_decided p point code ≡ keep → Kept p point code
  unfolding add_decided
  keeps_on e =
      let a = then_keep asked _ e in
      let b = both_go (room_decided s.store_labels s.label_manager) (refuse_if (table_full s) 9) (kept_go (waits s) _ a.1) in
      record {
        accepted = accepts a.0;
        label_free = room_go s.store_labels b.0;
        not_full = not_refused (table_full s) 9 b.1;
      }
