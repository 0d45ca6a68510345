-- A kept hold add's figure: 'a hold add gives it as it stood before the oldest was given up'.
use Rattle.std.specs.Prelude.{ℕ, ◌+◌, ◌≤◌, Bool, true, List, [], ◌∷◌, ◌++◌, ◌≡◌, length, get_or, ltb}
use Rattle.std.proofs.Math.Decide.{dec_lt}
use Rattle.std.proofs.Common.{arith, sym, ap, subst, ◌∙◌, lt-ltb, le-ltb}
use Rattle.terms.specs.Below.{one, count_below, sum_same}
use Rattle.placement.specs.declared.Laid.{Laid}
use Rattle.labels.specs.Counted.{live_number}
use Rattle.store_definitions.specs.Memory.{PointStore}
use Rattle.store_definitions.specs.Answers.{Answer, kept, Outcome}
use Rattle.store_definitions.specs.Parts.{table_length, point_table}
use Rattle.store_definitions.specs.Adding.{add_spec}
use Rattle.store_laws.specs.Sound.{sound}
use Rattle.store_laws.specs.AddingLaws.{add_keeps}
use Rattle.store_laws.specs.FigureLaws.{figure_and_live}
use Rattle.hold_definitions.specs.Memory.{PointHold, store_of, indices_of, labels_of}
use Rattle.hold_definitions.specs.Answers.{HoldOutcome}
use Rattle.hold_definitions.specs.Listed.{times, sum_times}
use Rattle.hold_definitions.specs.WellFormed.{hold_well_formed}
use Rattle.hold_definitions.specs.Adding.{holding, held_after, hold_added, hold_add_spec}
use Rattle.hold_definitions.specs.CountsAfter.{counted_below, counted_inside, Gained, Leaves, add_leaves}
use Rattle.hold_definitions.proofs.Sound.{Names, HoldSound, hold_sound}
use Rattle.hold_definitions.proofs.NamesLaws.{gained_names}
use Rattle.hold_definitions.proofs.AddingLaws.{length_more, held_length, holding_length, hold_answers}

at_most_once : (n : ℕ) → n ≤ 1 → one (ltb 0 n) ≡ n
at_most_once n h =
    elim (dec_lt 0 n) [
      | yes l ↦ rw (lt-ltb 0 n l) (omega arith)
      | no g ↦ rw (le-ltb 0 n (omega arith)) (omega arith)
    ]

-- the live points are those that the list names
pub live_named : {E : Type 0} (q : PointStore E) (xs ls : List ℕ) → Names q xs ls → live_number (table_length q.header) (point_table q) ≡ length xs
unfolding live_number count_below
live_named q xs ls n =
    sum_same (table_length q.header) (λ i. one (ltb 0 (get_or q.memory.reference_count i 0))) (λ i. times i xs)
    (λ i l. rw (sym (counted_below q i l), n.counts i) (at_most_once (times i xs) (n.once i)))
    ∙ sum_times (table_length q.header) xs (λ i named. counted_inside q i (omega (arith, n.counts i, named)))

module _ {E : Type 0} (eq : E → E → Bool) (zero_element : E) (h : PointHold E) (point : List E) (code : ℕ) where
  abbrev o : Outcome E
  o = add_spec eq zero_element (store_of h) point code

  -- the points held before the add, the new one, and the figure make up the table
  pub hold_figure : hold_well_formed h ≡ true → (i l : ℕ) (laid : Laid) (left : ℕ) → (hold_add_spec eq zero_element h point code).answer ≡ kept i l laid left
      → left + (h.header.held + 1) ≡ table_length (store_of (hold_add_spec eq zero_element h point code).after).header
  hold_figure f i l laid left e =
      let s : HoldSound h = hold_sound h f in
      let done : hold_add_spec eq zero_element h point code ≡ hold_added h o = hold_answers eq zero_element h point code f in
      let a : o.answer ≡ kept i l laid left = ap (λ (r : HoldOutcome E). r.answer) (sym done) ∙ e in
      let g : Gained (store_of h) o.after i l = subst (λ (x : Answer). Leaves (store_of h) x o.after) a (add_leaves eq zero_element (store_of h) (sound (store_of h) s.well) point code) in
      let xs : List ℕ = indices_of h ++ i ∷ [] in
      let ls : List ℕ = labels_of h ++ l ∷ [] in
      let after : store_of (hold_add_spec eq zero_element h point code).after ≡ store_of (holding h xs ls o.after) = ap (λ (r : HoldOutcome E). store_of r.after) done ∙ ap (λ (x : Answer). store_of (held_after h x o.after)) a in
      let long : table_length (store_of (hold_add_spec eq zero_element h point code).after).header ≡ table_length o.after.header =
      ap (λ (q : PointStore E). table_length q.header) after ∙ holding_length h s o.after (add_keeps eq zero_element (store_of h) point code s.well) i l g in
      omega (arith, long, figure_and_live eq zero_element (store_of h) point code s.well i l laid left a, live_named o.after xs ls (gained_names (store_of h) o.after i l (indices_of h) (labels_of h) s.names g), length_more (indices_of h) i, held_length h s)
