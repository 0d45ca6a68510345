-- Laws of the decisions: what an accepted call may rely on, and that 8 is given exactly where every label index is in use.
use Rattle.std.specs.Prelude.{ℕ, ◌≤◌, ◌<◌, List, Bool, true, false, cond, ◌≡◌, refl, get_or, ltb, eqb}
use Rattle.std.proofs.Common.{arith, sym, ◌∙◌, ltb-true, lt-ltb, eq-eqb, ne_eqb}
use Rattle.std.proofs.Math.Decide.{dec_lt}
use Rattle.std.proofs.lemmas.Bool.{eqb-false}
use Rattle.terms.specs.Below.{both, fails, every_below, every_at, every_make}
use Rattle.interval_store_manager.specs.declared.IntervalStoreManager.{IntervalStoreManager}
use Rattle.interval_store_manager.specs.Calls.{go, refuse}
use Rattle.interval_store_manager.specs.DecisionLaws.{no_go}
use Rattle.labels.specs.Counted.{Counted, count_at, next_index}
use Rattle.labels.specs.CountedLaws.{WellCounted, unused_stacked, next_within, next_unused}
use Rattle.labels.specs.Decisions.{in_use, code_decided, room_decided, inc_decided, dec_decided}

-- a label index in use, taken apart
pub in_use_lem : (c : ℕ) (counts : List ℕ) (i : ℕ) → in_use true c counts i ≡ true → (i < c) × (0 < get_or counts i 0)
unfolding in_use
in_use_lem c counts i e =
    let p = both (ltb i c) (ltb 0 (get_or counts i 0)) e in (ltb-true i c p.0, ltb-true 0 (get_or counts i 0) p.1)

pub code_go : (code : ℕ) → code_decided true code ≡ go → code ≤ 23
unfolding code_decided
code_go code e =
    elim (dec_lt 23 code) [
      | yes l ↦ no_go (rw (lt-ltb 23 code l) at e)
      | no g ↦ omega arith
    ]

pub room_go : (m : IntervalStoreManager) → room_decided true m ≡ go → 0 < m.last_in_use
unfolding room_decided
room_go m e =
    elim (dec_lt 0 m.last_in_use) [
      | yes l ↦ l
      | no g ↦ no_go (rw (eq-eqb m.last_in_use 0 (omega arith)) at e)
    ]

tested : (a b : Bool) → cond a (cond b (refuse 7) go) (refuse 6) ≡ go → (a ≡ true) × (b ≡ false)
tested true true e = no_go e
tested true false e = (refl, refl)
tested false b e = no_go e

pub inc_go : (c : ℕ) (counts : List ℕ) (i : ℕ) → inc_decided true c counts i ≡ go → get_or counts i 0 ≤ 65535 → (i < c) × ((0 < get_or counts i 0) × (get_or counts i 0 < 65535))
unfolding inc_decided
inc_go c counts i e h =
    let p = tested (in_use true c counts i) (eqb (get_or counts i 0) 65535) e in
    let q = in_use_lem c counts i p.0 in
    let d = eqb-false (get_or counts i 0) 65535 p.1 in
    (q.0, (q.1, elim (dec_lt (get_or counts i 0) 65535) [ yes l ↦ l | no g ↦ absurd (d (omega arith)) ]))

used : (a : Bool) → cond a go (refuse 6) ≡ go → a ≡ true
used true e = refl
used false e = no_go e

pub dec_go : (c : ℕ) (counts : List ℕ) (i : ℕ) → dec_decided true c counts i ≡ go → (i < c) × (0 < get_or counts i 0)
unfolding dec_decided
dec_go c counts i e = in_use_lem c counts i (used (in_use true c counts i) e)

-- 'labels on, every label index in use'
pub all_in_use : (c : ℕ) (t : Counted) → WellCounted c t → eqb t.manager.last_in_use 0 ≡ every_below c (λ i. ltb 0 (count_at t i))
all_in_use c t w =
    elim (dec_lt 0 t.manager.last_in_use) [
      | yes h ↦
          ne_eqb t.manager.last_in_use 0 (λ e. omega arith)
          ∙ sym (fails (every_below c (λ i. ltb 0 (count_at t i)))
          (λ e.
          let u = ltb-true 0 (count_at t (next_index t)) (every_at c (λ i. ltb 0 (count_at t i)) e (next_index t) (next_within c t w h)) in
          omega (arith, u, next_unused c t w h)))
      | no g ↦
          eq-eqb t.manager.last_in_use 0 (omega arith)
          ∙ sym (every_make c (λ i. ltb 0 (count_at t i))
          (λ i l.
          elim (dec_lt 0 (count_at t i)) [
            | yes u ↦ lt-ltb 0 (count_at t i) u
            | no f ↦ absurd (g (unused_stacked c t w i l (omega arith)))
          ]))
    ]
