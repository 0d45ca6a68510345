-- From how many intervals hold each index to which indices are free, and how many.
use Rattle.std.specs.Prelude.{ℕ, ◌+◌, ◌-◌, ◌≤◌, ◌<◌, List, Bool, true, false, not, ◌&&◌, ◌||◌, ◌≡◌, refl, ltb, eqb}
use Rattle.std.proofs.Common.{arith, sym, ◌∙◌, ap, le-ltb, lt-ltb, ltb-false, ltb-true, eq-eqb, ne_eqb}
use Rattle.std.proofs.Math.Bool.{and-true, and-false, or-true, or-false}
use Rattle.std.proofs.Math.Decide.{dec_lt}
use Rattle.terms.specs.Below.{one, sum_below, sum_same, sum_add, sum_ones}
use Rattle.interval_store_manager.specs.Intervals.{inside, holders, is_free}
use Rattle.interval_store_manager.specs.IntervalLaws.{inside_single, interval_size}
use Rattle.interval_store_manager.specs.StackLaws.{sizes, entries_le_sizes}
use Rattle.interval_store_manager.specs.Sound.{Sound}

pub free_held : (n : ℕ) (ss es : List ℕ) (i : ℕ) → is_free n ss es i ≡ true → 0 < holders n ss es i
unfolding is_free
free_held n ss es i e = ltb-true 0 (holders n ss es i) e

pub not_free_held : (n : ℕ) (ss es : List ℕ) (i : ℕ) → is_free n ss es i ≡ false → holders n ss es i ≡ 0
unfolding is_free
not_free_held n ss es i e = let h : holders n ss es i ≤ 0 = ltb-false 0 (holders n ss es i) e in omega arith

-- an empty stack holds nothing
pub empty_stack : (ss es : List ℕ) (i : ℕ) → is_free 0 ss es i ≡ false
unfolding is_free holders
empty_stack ss es i = refl

-- an index held once more is free, whatever it was; every other stays as it was
pub free_more : (b : Bool) (n n' : ℕ) (ss es ss' es' : List ℕ) (k : ℕ) → holders n' ss' es' k ≡ holders n ss es k + one b → is_free n' ss' es' k ≡ (is_free n ss es k || b)
unfolding is_free
free_more true n n' ss es ss' es' k e = rw (e, lt-ltb 0 (holders n ss es k + 1) (omega arith)) (sym (or-true (ltb 0 (holders n ss es k))))
free_more false n n' ss es ss' es' k e =
    let f : holders n' ss' es' k ≡ holders n ss es k = omega arith in rw f (sym (or-false (ltb 0 (holders n ss es k))))

-- an index held at most once and then once less is no longer free
pub free_less : (b : Bool) (n n' : ℕ) (ss es ss' es' : List ℕ) (k : ℕ) → holders n ss es k ≤ 1 → holders n ss es k ≡ holders n' ss' es' k + one b → is_free n' ss' es' k ≡ (is_free n ss es k && not b)
unfolding is_free
free_less true n n' ss es ss' es' k h e = rw (le-ltb 0 (holders n' ss' es' k) (omega arith)) (sym (and-false (ltb 0 (holders n ss es k))))
free_less false n n' ss es ss' es' k h e =
    let f : holders n' ss' es' k ≡ holders n ss es k = omega arith in rw f (sym (and-true (ltb 0 (holders n ss es k))))

-- one index below the capacity held once more is one more in all
pub sum_one : (c i : ℕ) (f g : ℕ → ℕ) → i < c → ((k : ℕ) → g k ≡ f k + one (eqb k i)) → sum_below c g ≡ sum_below c f + 1
sum_one c i f g h e =
    sum_same c g (λ k. f k + one (inside i i k)) (λ k l. e k ∙ ap (λ (x : ℕ). f k + x) (sym (inside_single i k)))
    ∙ (sum_add c f (λ k. one (inside i i k))
    ∙ ap (λ (x : ℕ). sum_below c f + x) (let z : i - i + 1 ≡ 1 = omega arith in interval_size c i i (omega arith) h ∙ z))

pub sizes_one : (c i n n' : ℕ) (ss es ss' es' : List ℕ) → i < c → ((k : ℕ) → holders n' ss' es' k ≡ holders n ss es k + one (eqb k i)) → sizes c n' ss' es' ≡ sizes c n ss es + 1
unfolding sizes
sizes_one c i n n' ss es ss' es' h e = sum_one c i (holders n ss es) (holders n' ss' es') h e

-- an index that none holds, held once more, leaves every index held at most once
pub single_more : (f : ℕ → ℕ) (i k : ℕ) → f i ≡ 0 → f k ≤ 1 → f k + one (eqb k i) ≤ 1
single_more f i k z h =
    elim (dec_lt k i) [
      | yes l ↦ rw (ne_eqb k i (λ e. omega arith)) (omega arith)
      | no g ↦
          elim (dec_lt i k) [
            | yes l ↦ rw (ne_eqb k i (λ e. omega arith)) (omega arith)
            | no d ↦ let e : k ≡ i = omega arith in rw (eq-eqb k i e, e, z) (omega arith)
          ]
    ]

-- a stack that leaves an index below the capacity out has fewer entries in use than the capacity
pub room : {c n : ℕ} {ss es : List ℕ} (i : ℕ) → Sound c n ss es → i < c → holders n ss es i ≡ 0 → n < c
unfolding sizes
room {c} {n} {ss} {es} i s h z =
    let all = sum_ones c (λ k. holders n ss es k + one (eqb k i)) (λ k l. single_more (holders n ss es) i k z (s.single k l)) in
    let more = sum_one c i (holders n ss es) (λ k. holders n ss es k + one (eqb k i)) h (λ k. refl) in
    omega (arith, entries_le_sizes c n ss es s.bounds)
