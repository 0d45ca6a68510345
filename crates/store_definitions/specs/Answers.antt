-- Answers in document 01's numbers and values, and what each answer of the code stands for.
use Rattle.std.specs.Prelude.{ℕ, Bool, List, Option, Some, None, Result, Ok, Err}
use Rattle.terms.specs.Refusals.{number}
use Rattle.placement.specs.declared.Laid.{Laid}
use Rattle.terms.specs.declared.Refusal.{Refusal}
use Rattle.store_definitions.specs.declared.AdjustRefusal.{AdjustRefusal}
use Rattle.store_definitions.specs.declared.Kept.{Kept}
use Rattle.store_definitions.specs.declared.Store.{Store}
use Rattle.store_definitions.specs.Memory.{PointStore}

pub data Answer : Type 0 where
  -- a kept add: index, label index, how the row was laid and how many point indices remain free
  kept : ℕ → ℕ → Laid → ℕ → Answer
  -- an accepted add that keeps no point yet
  waiting : Answer
  -- an accepted call that has no value
  done : Answer
  -- a number read
  is : ℕ → Answer
  -- a yes or no read
  says : Bool → Answer
  -- a refusal, by its number
  refused : ℕ → Answer
  -- an adjust's refusal, with how many pairs stand before the refused one
  refused_after : ℕ → ℕ → Answer

-- an accepted add that keeps no point answers None
abbrev pub added_means : Result (Option Kept) Refusal → Answer
added_means (Ok (Some k)) = kept k.index.0 k.label.0 k.laid k.free_indices
added_means (Ok None) = waiting
added_means (Err r) = refused (number r)

abbrev pub done_means : Result Unit Refusal → Answer
done_means (Ok _) = done
done_means (Err r) = refused (number r)

-- an opening that was accepted answers the store's record
abbrev pub opened_means : Result Store Refusal → Answer
opened_means (Ok _) = done
opened_means (Err r) = refused (number r)

abbrev pub adjusted_means : Result Unit AdjustRefusal → Answer
adjusted_means (Ok _) = done
adjusted_means (Err r) = refused_after (number r.why) r.pairs_before

abbrev pub number_means : Result ℕ Refusal → Answer
number_means (Ok n) = is n
number_means (Err r) = refused (number r)

abbrev pub equality_means : Result Bool Refusal → Answer
equality_means (Ok b) = says b
equality_means (Err r) = refused (number r)

-- an answer with the store after the call
pub record Outcome (E : Type 0) : Type 0 where
  pub answer : Answer
  pub after : PointStore E

abbrev pub outcome : {E : Type 0} → Answer → PointStore E → Outcome E
outcome a p = record { answer = a; after = p }

-- an answer with the output slice after the call; the store is only read
pub record Output (X : Type 0) : Type 0 where
  pub answer : Answer
  pub out : List X

abbrev pub output : {X : Type 0} → Answer → List X → Output X
output a out = record { answer = a; out = out }
