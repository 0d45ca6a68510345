-- The pass that marks the free indices: what holds after the first i intervals, and what each way out of it shows.
use Prim.Native.Nat.{ℕ, ◌+◌, ◌-◌, ◌≤◌, ◌<◌}
use native.Mathlib.Omega.{arith}
use native.Mathlib.Decide.{dec_lt}
use native.Mathlib.Numerals.{add-one}
use mathlib.Core.List.{List}
use mathlib.Core.Bool.{true, ◌&&◌, or-true, or-false}
use Rattle.std.specs.Prelude.{Some, None}
use mathlib.Core.Path.{◌≡◌, refl, sym, ◌∙◌, ap}
use lib.ListN.{length, get_or}
use Rattle.std.proofs.lemmas.Option.{none-some}
use Rattle.terms.specs.Below.{one, both, fails}
use borrow.Author.Tests.{leb-true, le-leb}
use lib.Dec.{leb}
use Rattle.interval_store_manager.specs.Intervals.{inside, holders, is_free, in_bounds}
use Rattle.interval_store_manager.specs.IntervalLaws.{inside_yes, inside_left, inside_right}
use Rattle.interval_store_manager.specs.StackLaws.{Bounded, bounded_make, sizes, sizes_none, sizes_more, sizes_grow}
use Rattle.interval_store_manager.specs.FreeLaws.{free_more, empty_stack}
use Rattle.interval_store_manager.specs.Marks.{filled, Unmarked, Marks, sizes_checked, Swept}
use Rattle.interval_store_manager.specs.MarkLaws.{filled_in, filled_below, filled_above}

pub record Sweeping (capacity n : ℕ) (starts ends old marks : List ℕ) (total i : ℕ) : Type 0 where
  pub at : i ≤ n
  pub long : length marks ≡ length old
  pub bounds : Bounded capacity i starts ends
  pub total_is : total ≡ sizes capacity i starts ends
  pub total_le : total ≤ capacity
  pub marked : Marks i starts ends marks

-- one interval more is marked
marks_more : (i : ℕ) (ss es marks marks' : List ℕ) → get_or ss i 0 ≤ get_or es i 0 → Marks i ss es marks → ((k : ℕ) → get_or marks' k 0 ≡ filled marks (get_or ss i 0) (get_or es i 0 + 1) k) → Marks (i + 1) ss es marks'
unfolding holders
marks_more i ss es marks marks' h m f k =
    let s = get_or ss i 0 in
    let e = get_or es i 0 in
    let held : holders (i + 1) ss es k ≡ holders i ss es k + one (inside s e k) = rw (add-one i) in
    let free = free_more (inside s e k) i (i + 1) ss es ss es k held in
    f k
    ∙ (elim (dec_lt k s) [
      | yes l ↦ filled_below marks s (e + 1) k l ∙ (m k ∙ rw (inside_left s e k l) (ap one (sym (or-false (is_free i ss es k)))))
      | no g ↦
          elim (dec_lt e k) [
            | yes l ↦ filled_above marks s (e + 1) k (omega arith) ∙ (m k ∙ rw (inside_right s e k l) (ap one (sym (or-false (is_free i ss es k)))))
            | no d ↦
                filled_in marks s (e + 1) k (omega arith) (omega arith)
                ∙ rw (inside_yes s e k (omega arith) (omega arith)) (ap one (sym (or-true (is_free i ss es k))))
          ]
    ]
    ∙ ap one (sym free))

pub begins : (c n : ℕ) (ss es marks : List ℕ) → Unmarked marks → Sweeping c n ss es marks marks 0 0
begins c n ss es marks u =
    record {
      at = omega arith;
      long = refl;
      bounds = record { ordered = λ j l. absurd (omega arith); below = λ j l. absurd (omega arith) };
      total_is = sym (sizes_none c ss es);
      total_le = omega arith;
      marked = λ k. u k ∙ ap one (sym (empty_stack ss es k));
    }

module _ (c n : ℕ) (ss es old marks : List ℕ) (total i : ℕ) (s : Sweeping c n ss es old marks total i) (l : i < n) where
  pub total_more : get_or ss i 0 ≤ get_or es i 0 → get_or es i 0 < c → total + (get_or es i 0 - get_or ss i 0 + 1) ≡ sizes c (i + 1) ss es
  total_more h g = rw (add-one i) (omega (arith, sizes_more c i ss es h g, s.total_is))

  bounds_more : get_or ss i 0 ≤ get_or es i 0 → get_or es i 0 < c → Bounded c (i + 1) ss es
  bounds_more h g =
      record {
        ordered = λ j m. elim (dec_lt j i) [ yes p ↦ s.bounds.ordered j p | no q ↦ let e : j ≡ i = omega arith in rw e h ];
        below = λ j m. elim (dec_lt j i) [ yes p ↦ s.bounds.below j p | no q ↦ let e : j ≡ i = omega arith in rw e g ];
      }

  pub goes_on : (marks' : List ℕ) → get_or ss i 0 ≤ get_or es i 0 → get_or es i 0 < c → total + (get_or es i 0 - get_or ss i 0 + 1) ≤ c → length marks' ≡ length marks → ((k : ℕ) → get_or marks' k 0 ≡ filled marks (get_or ss i 0) (get_or es i 0 + 1) k) → Sweeping c n ss es old marks' (total + (get_or es i 0 - get_or ss i 0 + 1)) (i + 1)
  goes_on marks' h g t e f =
      record {
        at = omega arith;
        long = e ∙ s.long;
        bounds = bounds_more h g;
        total_is = total_more h g;
        total_le = t;
        marked = marks_more i ss es marks marks' h s.marked f;
      }

-- what each way out shows
pub stops : (c n : ℕ) (ss es marks : List ℕ) → (in_bounds c n ss es ≡ true → sizes c n ss es ≤ c → ⊥) → Swept c n ss es marks None
unfolding sizes_checked
stops c n ss es marks h =
    record {
      is = rw (fails (in_bounds c n ss es && leb (sizes c n ss es) c) (λ f. let p = both (in_bounds c n ss es) (leb (sizes c n ss es) c) f in h p.0 (leb-true (sizes c n ss es) c p.1)));
      marked = λ t e. absurd (none-some t e);
    }

pub finished : (c n : ℕ) (ss es old marks : List ℕ) (total i : ℕ) → Sweeping c n ss es old marks total i → n ≤ i → Swept c n ss es marks (Some total)
unfolding sizes_checked
finished c n ss es old marks total i s h =
    let e : i ≡ n = omega (arith, s.at) in
    let sum : total ≡ sizes c n ss es = rw e at s.total_is in
    let fits : sizes c n ss es ≤ c = omega (arith, s.total_le) in
    record {
      is = rw (bounded_make c n ss es (rw e at s.bounds), le-leb (sizes c n ss es) c fits, sum);
      marked = λ t f. rw e at s.marked;
    }

-- sizes that pass the capacity at i pass it at n
pub too_many : (c n i : ℕ) (ss es : List ℕ) → i ≤ n → c < sizes c i ss es → sizes c n ss es ≤ c → ⊥
too_many c n i ss es h g e = omega (arith, sizes_grow c i n ss es h)
