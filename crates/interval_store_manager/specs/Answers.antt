-- What the manager's answers stand for: document 01's numbers and values.
use Rattle.std.specs.Prelude.{ℕ, Bool, List, Result, Ok, Err}
use Rattle.terms.specs.declared.Refusal.{Refusal}
use Rattle.terms.specs.Refusals.{number}
use Rattle.interval_store_manager.specs.declared.IntervalStoreManager.{IntervalStoreManager}
use Rattle.interval_store_manager.specs.declared.Given.{Given}

pub data Answer : Type 0 where
  -- an accepted opening, with the manager
  opened : IntervalStoreManager → Answer
  -- an accepted call that has no value
  done : Answer
  -- an index given, and how many remain free
  given : ℕ → ℕ → Answer
  -- a number read
  holds : ℕ → Answer
  -- a yes or no read
  says : Bool → Answer
  -- a refusal, by its number
  refused : ℕ → Answer

abbrev pub opened_means : Result IntervalStoreManager Refusal → Answer
opened_means (Ok m) = opened m
opened_means (Err r) = refused (number r)

abbrev pub changed_means : Result Unit Refusal → Answer
changed_means (Ok _) = done
changed_means (Err r) = refused (number r)

abbrev pub got_means : Result Given Refusal → Answer
got_means (Ok g) = given g.index g.free
got_means (Err r) = refused (number r)

abbrev pub number_means : Result ℕ Refusal → Answer
number_means (Ok n) = holds n
number_means (Err r) = refused (number r)

abbrev pub emptiness_means : Result Bool Refusal → Answer
emptiness_means (Ok b) = says b
emptiness_means (Err r) = refused (number r)

-- an answer with the two lists after the call
pub record Opening : Type 0 where
  pub answer : Answer
  pub starts : List ℕ
  pub ends : List ℕ

-- an answer with the manager and the two lists after the call
pub record Outcome : Type 0 where
  pub answer : Answer
  pub manager : IntervalStoreManager
  pub starts : List ℕ
  pub ends : List ℕ

abbrev pub opening : Answer → List ℕ → List ℕ → Opening
opening a starts ends = record { answer = a; starts = starts; ends = ends }

abbrev pub outcome : Answer → IntervalStoreManager → List ℕ → List ℕ → Outcome
outcome a m starts ends = record { answer = a; manager = m; starts = starts; ends = ends }
