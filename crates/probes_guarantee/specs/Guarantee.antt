-- What holds after every list of sets on a fresh product, refused ones included: one record, with a field for each clause. It is
-- said from the sets and their answers alone.
use Rattle.std.specs.Prelude.{ℕ, Bool, cond, List, [], ◌∷◌, ◌≡◌, length, eqb}
use Rattle.store_definitions.specs.declared.Shape.{Shape}
use Rattle.store_definitions.specs.Answers.{Answer, done, refused, output}
use Rattle.guarantee.specs.Run.{add, after, answer_to}
use Rattle.guarantee.specs.History.{history}
use Rattle.guarantee.specs.Guarantee.{Guarantee}
use Rattle.probes_definitions.specs.Memory.{PointProbes, store_of, last_floats}
use Rattle.probes_guarantee.specs.Calls.{tallies_call}
use Rattle.probes_guarantee.specs.Run.{ProbeSet, probes_after, probes_answer_to}
use Rattle.probes_guarantee.specs.History.{last_of, estimated_readings, filled_sets, filled_set, absent_first, store_calls}

-- of every set of a list, with the sets before it
abbrev pub EachSet : {E : Type 0} → (ProbeSet E → List (ProbeSet E) → Type 0) → List (ProbeSet E) → Type 0
EachSet P [] = Unit {0}
EachSet P (s ∷ before) = P s before × EachSet P before

-- a number for each of the eight probes
unfoldable pub each_probe : (ℕ → ℕ) → List ℕ
each_probe f = f 0 ∷ f 1 ∷ f 2 ∷ f 3 ∷ f 4 ∷ f 5 ∷ f 6 ∷ f 7 ∷ []

module _ {E : Type 0} (eq : E → E → Bool) (zero_element : E) (s : Shape) (start : PointProbes E) where
  -- 3 for a set that has not eight readings, 16 for an Absent before the first accepted set, and otherwise what the store answers
  -- to the filled set
  unfoldable pub answer_given : ProbeSet E → List (ProbeSet E) → Answer
  answer_given x before =
      cond (eqb (length x.readings) 8)
      (cond (absent_first eq zero_element start x before) (refused 16)
      (answer_to eq zero_element (store_of start) (add (filled_set eq zero_element start x before) x.code) (store_calls eq zero_element start before)))
      (refused 3)

  pub record ProbesGuarantee (sets : List (ProbeSet E)) : Type 0 where
    pub answers : EachSet (λ x before. probes_answer_to eq zero_element start x before ≡ answer_given x before) sets
    -- the product's run is the store's run on the filled sets
    pub run : store_of (probes_after eq zero_element start sets) ≡ after eq zero_element (store_of start) (store_calls eq zero_element start sets)
    -- so every clause of the list guarantee holds of it, and the points that its rows are made of are the filled sets
    pub of_store : Guarantee eq zero_element s (store_of start) (store_calls eq zero_element start sets)
    pub windows : (history eq zero_element s (store_of start) (store_calls eq zero_element start sets)).points ≡ filled_sets eq zero_element start sets
    -- each tally is the number of its probe's Estimated readings in accepted sets
    pub tallies : (out : List ℕ) → length out ≡ 8 → tallies_call (probes_after eq zero_element start sets) out ≡ output done (each_probe (estimated_readings eq zero_element start sets))
    -- the last floats are the last filled set's
    pub last_floats_lem : last_floats (store_of (probes_after eq zero_element start sets)) ≡ last_of zero_element (filled_sets eq zero_element start sets)
