-- What a change at the stack's top does to the indices held and to the bounds: the top's start or end set anew, an
-- interval pushed, the top popped. The laws of get, release and change rest on these.
use Rattle.std.specs.Prelude.{ℕ, zero, suc, ◌+◌, ◌-◌, ◌≤◌, ◌<◌, List, ◌≡◌, length, get_or, set}
use Rattle.std.proofs.Common.{arith, add-one, ◌∙◌, ap₂, ⊎_elim, get_or-set_other, get_or-set_same}
use Rattle.terms.specs.Below.{one, below_or_last}
use Rattle.terms.specs.Entries.{stored}
use Rattle.interval_store_manager.specs.Intervals.{inside, holders}
use Rattle.interval_store_manager.specs.StackLaws.{agree_set, agree_self, holders_same, Bounded}

-- the top counted apart from the rest
pub holders_top : (n : ℕ) (ss es : List ℕ) (k : ℕ) → 0 < n → holders n ss es k ≡ holders (n - 1) ss es k + one (inside (get_or ss (n - 1) 0) (get_or es (n - 1) 0) k)
unfolding holders
holders_top zero ss es k h = absurd (omega arith)
holders_top (suc t) ss es k h = let e : suc t - 1 ≡ t = omega arith in rw e

-- a new start at the top
pub top_start : (n : ℕ) (ss es : List ℕ) (v k : ℕ) → 0 < n → n ≤ length ss → holders n (set ss (n - 1) v) es k ≡ holders (n - 1) ss es k + one (inside v (get_or es (n - 1) 0) k)
top_start n ss es v k h g =
    holders_top n (set ss (n - 1) v) es k h
    ∙ ap₂ (λ (a b : ℕ). a + one (inside b (get_or es (n - 1) 0) k))
    (holders_same (n - 1) (set ss (n - 1) v) ss es es k (agree_set (n - 1) ss (n - 1) v (omega arith)) (agree_self (n - 1) es))
    (get_or-set_same ss (n - 1) v 0 (omega arith))

-- a new end at the top
pub top_end : (n : ℕ) (ss es : List ℕ) (v k : ℕ) → 0 < n → n ≤ length es → holders n ss (set es (n - 1) v) k ≡ holders (n - 1) ss es k + one (inside (get_or ss (n - 1) 0) v k)
top_end n ss es v k h g =
    holders_top n ss (set es (n - 1) v) k h
    ∙ ap₂ (λ (a b : ℕ). a + one (inside (get_or ss (n - 1) 0) b k))
    (holders_same (n - 1) ss ss (set es (n - 1) v) es k (agree_self (n - 1) ss) (agree_set (n - 1) es (n - 1) v (omega arith)))
    (get_or-set_same es (n - 1) v 0 (omega arith))

-- an interval pushed
pub push : (n : ℕ) (ss es : List ℕ) (s e k : ℕ) → n < length ss → n < length es → holders (n + 1) (set ss n s) (set es n e) k ≡ holders n ss es k + one (inside s e k)
unfolding holders
push n ss es s e k h g =
    rw (
      add-one n,
      holders_same n (set ss n s) ss (set es n e) es k (agree_set n ss n s (omega arith)) (agree_set n es n e (omega arith)),
      get_or-set_same ss n s 0 h,
      get_or-set_same es n e 0 g,
    )

-- fewer entries, or a larger capacity, keep the bounds
pub bounded_fewer : {c n : ℕ} {ss es : List ℕ} (i : ℕ) → i ≤ n → Bounded c n ss es → Bounded c i ss es
bounded_fewer i h b = record { ordered = λ j l. b.ordered j (omega arith); below = λ j l. b.below j (omega arith) }

pub bounded_wider : {c n : ℕ} {ss es : List ℕ} (d : ℕ) → c ≤ d → Bounded c n ss es → Bounded d n ss es
bounded_wider d h b = record { ordered = b.ordered; below = λ j l. omega (arith, b.below j l) }

pub bounded_start : {c n : ℕ} {ss es : List ℕ} (v : ℕ) → 0 < n → n ≤ length ss → v ≤ get_or es (n - 1) 0 → Bounded c n ss es → Bounded c n (set ss (n - 1) v) es
bounded_start {c} {n} {ss} {es} v h g l b =
    record {
      ordered = λ j m. stored (λ x. x ≤ get_or es j 0) ss (n - 1) v j (omega arith) (λ e. rw e l) (λ d. b.ordered j m);
      below = b.below;
    }

pub bounded_end : {c n : ℕ} {ss es : List ℕ} (v : ℕ) → 0 < n → n ≤ length es → get_or ss (n - 1) 0 ≤ v → v < c → Bounded c n ss es → Bounded c n ss (set es (n - 1) v)
bounded_end {c} {n} {ss} {es} v h g l u b =
    record {
      ordered = λ j m. stored (λ x. get_or ss j 0 ≤ x) es (n - 1) v j (omega arith) (λ e. rw e l) (λ d. b.ordered j m);
      below = λ j m. stored (λ x. x < c) es (n - 1) v j (omega arith) (λ e. u) (λ d. b.below j m);
    }

pub bounded_push : {c n : ℕ} {ss es : List ℕ} (s e : ℕ) → n < length ss → n < length es → s ≤ e → e < c → Bounded c n ss es → Bounded c (n + 1) (set ss n s) (set es n e)
bounded_push {c} {n} {ss} {es} s e h g l u b =
    record {
      ordered = λ j m.
          stored (λ x. x ≤ get_or (set es n e) j 0) ss n s j h
          (λ q. rw (q, get_or-set_same es n e 0 g) l)
          (λ d. rw (get_or-set_other es n j e 0 d) (b.ordered j (before j m d)));
      below = λ j m. stored (λ x. x < c) es n e j g (λ q. u) (λ d. b.below j (before j m d));
    }
  where
    before : (j : ℕ) → j < n + 1 → (j ≡ n → ⊥) → j < n
    before j m d = ⊎_elim (λ l. l) (λ q. absurd (d q)) (below_or_last n j (omega arith))
