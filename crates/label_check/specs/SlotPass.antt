-- Laws of the pass over the slots: how many are live, and the classes that the live ones leave seen.
use Rattle.std.specs.Prelude.{ℕ, zero, suc, ◌+◌, ◌≤◌, ◌<◌, List, Bool, true, false, cond, ◌&&◌, ◌||◌, not, ◌≡◌, refl, length, get_or, set, replicate, ltb, eqb}
use Rattle.std.proofs.Common.{arith, add-one, sym, ◌∙◌, ap, ap₂, get_or-set_same, get_or-set_other, eq-eqb, ne_eqb, lt-ltb, eqb-true}
use Rattle.std.proofs.Math.Decide.{dec_lt, ℕ_discrete}
use Rattle.std.proofs.Math.Bool.{or-false, or-true, and-true, and-false}
use mir.Val.{bool_byte}
use Rattle.terms.specs.Below.{one, both, positive, every_below, every_and, sum_below, count_below}
use Rattle.labels.specs.Labels.{holds_class, differ}
use Rattle.label_check.specs.Checks.{slot_passes, slot_fits}

pub byte_one : (b : Bool) → bool_byte b ≡ one b
byte_one true = refl
byte_one false = refl

-- one number more
pub every_next : (n : ℕ) (p : ℕ → Bool) (ok more : Bool) → ok ≡ every_below n p → more ≡ p n → (ok && more) ≡ every_below (n + 1) p
unfolding every_below
every_next n p ok more e f = rw (add-one n, e, f)

-- how many slots below n are live
unfoldable pub slots_live : ℕ → List ℕ → ℕ
slots_live n counts = count_below n (λ s. not (eqb (get_or counts s 0) 0))

pub live_next : (n : ℕ) (counts : List ℕ) → slots_live (n + 1) counts ≡ slots_live n counts + bool_byte (not (eqb (get_or counts n 0) 0))
unfolding slots_live count_below sum_below
live_next n counts =
    rw (add-one n) (ap (λ (x : ℕ). slots_live n counts + x) (sym (byte_one (not (eqb (get_or counts n 0) 0)))))

pub byte_le : (b : Bool) → bool_byte b ≤ 1
byte_le true = omega arith
byte_le false = omega arith

pub live_most : (n : ℕ) (counts : List ℕ) → slots_live n counts ≤ n
unfolding slots_live count_below sum_below
live_most zero counts = omega arith
live_most (suc n) counts =
    omega (arith, live_most n counts, byte_one (not (eqb (get_or counts n 0) 0)), byte_le (not (eqb (get_or counts n 0) 0)))

-- where each mark fits, what is not marked is live
pub live_unmarked : (n : ℕ) (counts marks sums : List ℕ) → every_below n (λ s. slot_passes counts marks sums s) ≡ true → slots_live n counts + sum_below n (λ k. get_or marks k 0) ≡ n
unfolding slots_live count_below sum_below every_below slot_passes
live_unmarked zero counts marks sums e = refl
live_unmarked (suc n) counts marks sums e =
    let dead = eqb (get_or counts n 0) 0 in
    let p = both (every_below n (λ s. slot_passes counts marks sums s)) (slot_passes counts marks sums n) e in
    let fits = (both (eqb (get_or counts n 0) (get_or sums n 0)) _ p.1).1 in
    omega (arith, live_unmarked n counts marks sums p.0, eqb-true (get_or marks n 0) (one dead) fits, not_one dead)
  where
    not_one : (b : Bool) → one (not b) + one b ≡ 1
    not_one true = refl
    not_one false = refl

-- a live slot below n holds class k
unfoldable pub class_held : ℕ → List ℕ → List ℕ → ℕ → Bool
class_held zero held counts k = false
class_held (suc n) held counts k = class_held n held counts k || holds_class held counts k n

-- the classes seen are those that live slots below n hold
abbrev pub Seen : ℕ → List ℕ → List ℕ → List Bool → Type 0
Seen n held counts seen = (k : ℕ) → get_or seen k false ≡ class_held n held counts k

pub seen_none : (n : ℕ) (held counts : List ℕ) → Seen 0 held counts (replicate n false)
unfolding class_held
seen_none zero held counts k = refl
seen_none (suc n) held counts zero = refl
seen_none (suc n) held counts (suc k) = seen_none n held counts k

pub live_is : (n : ℕ) → ltb 0 n ≡ not (eqb n 0)
live_is n =
    elim (ℕ_discrete n 0) [
      | yes e ↦ rw e
      | no d ↦ lt-ltb 0 n (positive n d) ∙ ap not (sym (ne_eqb n 0 d))
    ]

eqb_swap : (a b : ℕ) → eqb a b ≡ eqb b a
eqb_swap a b =
    elim (ℕ_discrete a b) [
      | yes e ↦ eq-eqb a b e ∙ sym (eq-eqb b a (sym e))
      | no d ↦ ne_eqb a b d ∙ sym (ne_eqb b a (λ e. d (sym e)))
    ]

pub seen_more : (n : ℕ) (held counts : List ℕ) (seen after : List Bool) → get_or held n 0 < length seen → Seen n held counts seen → after ≡ cond (eqb (get_or counts n 0) 0) seen (set seen (get_or held n 0) true) → Seen (n + 1) held counts after
unfolding class_held holds_class
seen_more n held counts seen after h e f k =
    rw (f, add-one n, live_is (get_or counts n 0), sym (e k)) (marked (eqb (get_or counts n 0) 0))
  where
    marked : (dead : Bool) → get_or (cond dead seen (set seen (get_or held n 0) true)) k false ≡ (get_or seen k false || (not dead && eqb (get_or held n 0) k))
    marked true = sym (or-false (get_or seen k false))
    marked false =
        elim (ℕ_discrete k (get_or held n 0)) [
          | yes q ↦ rw (q, eq-eqb (get_or held n 0) (get_or held n 0) refl) (get_or-set_same seen (get_or held n 0) true false h ∙ sym (or-true (get_or seen (get_or held n 0) false)))
          | no d ↦
              rw (ne_eqb (get_or held n 0) k (λ q. d (sym q)))
              (get_or-set_other seen (get_or held n 0) k true false d ∙ sym (or-false (get_or seen k false)))
        ]

-- a slot differs from every slot before it exactly where it is not live or its class is not held there
differ_below : (n m : ℕ) (held counts : List ℕ) → every_below m (λ t. differ held counts n t) ≡ not (ltb 0 (get_or counts n 0) && class_held m held counts (get_or held n 0))
unfolding every_below class_held holds_class differ
differ_below n zero held counts = sym (ap not (and-false (ltb 0 (get_or counts n 0))))
differ_below n (suc m) held counts =
    rw (differ_below n m held counts, eqb_swap (get_or held n 0) (get_or held m 0))
    (neither (ltb 0 (get_or counts n 0)) (class_held m held counts (get_or held n 0)) (ltb 0 (get_or counts m 0) && eqb (get_or held m 0) (get_or held n 0)))
  where
    neither : (l a b : Bool) → (not (l && a) && not (l && b)) ≡ not (l && (a || b))
    neither true true b = refl
    neither true false b = refl
    neither false a b = refl

-- one slot more: two live slots below n hold one class, or slot n holds one that is seen
pub met_more : (n : ℕ) (held counts : List ℕ) (seen : List Bool) (met again : Bool) → Seen n held counts seen → not met ≡ every_below n (λ s. every_below s (λ t. differ held counts s t)) → again ≡ (not (eqb (get_or counts n 0) 0) && get_or seen (get_or held n 0) false) → not (met || again) ≡ every_below (n + 1) (λ s. every_below s (λ t. differ held counts s t))
met_more n held counts seen met again e f g =
    let differs : every_below n (λ t. differ held counts n t) ≡ not again = differ_below n n held counts ∙ ap not (ap₂ (λ (a b : Bool). a && b) (live_is (get_or counts n 0)) (sym (e (get_or held n 0))) ∙ sym g) in
    neither met again
    ∙ every_next n (λ s. every_below s (λ t. differ held counts s t)) (not met) (not again) f (sym differs)
  where
    neither : (a b : Bool) → not (a || b) ≡ (not a && not b)
    neither true b = refl
    neither false b = refl

live_grow : (n c : ℕ) (counts : List ℕ) → n ≤ c → slots_live n counts ≤ slots_live c counts
unfolding slots_live count_below sum_below
live_grow n zero counts h = let e : n ≡ 0 = omega arith in rw e (omega arith)
live_grow n (suc c) counts h =
    elim (dec_lt c n) [
      | yes l ↦ let e : n ≡ suc c = omega arith in rw e (omega arith)
      | no g ↦ omega (arith, live_grow n c counts (omega arith))
    ]

-- below c there are live slots from n on
pub more_live : (n c : ℕ) (counts : List ℕ) → n ≤ c → slots_live n counts < slots_live c counts → n < c
more_live n c counts h l =
    elim (dec_lt n c) [
      | yes m ↦ m
      | no g ↦ let e : n ≡ c = omega arith in let same = ap (λ (k : ℕ). slots_live k counts) e in absurd (omega (arith, same))
    ]

-- and where there are none, the slots from n on hold no class
pub rest_differ : (n c : ℕ) (held counts : List ℕ) → n ≤ c → slots_live c counts ≤ slots_live n counts → every_below n (λ s. every_below s (λ t. differ held counts s t)) ≡ every_below c (λ s. every_below s (λ t. differ held counts s t))
unfolding every_below slots_live count_below sum_below
rest_differ n zero held counts h l = let e : n ≡ 0 = omega arith in rw e
rest_differ n (suc c) held counts h l =
    elim (dec_lt c n) [
      | yes m ↦ let e : n ≡ suc c = omega arith in rw e
      | no g ↦
          let none : one (not (eqb (get_or counts c 0) 0)) ≡ 0 = omega (arith, live_grow n c counts (omega arith)) in
          let dead : ltb 0 (get_or counts c 0) ≡ false = live_is (get_or counts c 0) ∙ off (not (eqb (get_or counts c 0) 0)) none in
          let last : every_below c (λ t. differ held counts c t) ≡ true = differ_below c c held counts ∙ rw dead in
          rest_differ n c held counts (omega arith) (omega arith) ∙ rw last (sym (and-true _))
    ]
  where
    off : (b : Bool) → one b ≡ 0 → b ≡ false
    off true e = absurd (omega arith)
    off false e = refl

-- a slot fits where it passes and differs
pub fits_are : (c : ℕ) (held counts marks sums : List ℕ) → every_below c (λ s. slot_fits held counts marks sums s) ≡ (every_below c (λ s. slot_passes counts marks sums s) && every_below c (λ s. every_below s (λ t. differ held counts s t)))
unfolding slot_fits
fits_are c held counts marks sums =
    every_and c (λ s. slot_passes counts marks sums s) (λ s. every_below s (λ t. differ held counts s t))
