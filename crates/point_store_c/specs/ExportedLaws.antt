-- From what a call of the manager ensures to what the exported call owes, for any of the definitions f.
use Rattle.std.specs.Prelude.{ℕ, ◌≤◌, ◌<◌, List, [], ◌∷◌, Bool, true, false, cond, ◌≡◌, refl, Result, Ok, Err, length, get_or, ltb}
use Rattle.std.proofs.Common.{arith, sym, ◌∙◌, le-leb}
use Rattle.std.proofs.Math.Decide.{dec_lt}
use Rattle.std.proofs.Math.Path.{ap}
use Rattle.std.proofs.lemmas.Bool.{lt-leb}
use mir.Val.{bool_byte}
use Rattle.terms.specs.declared.Refusal.{Refusal}
use Rattle.terms.specs.Below.{one}
use Rattle.interval_store_manager.specs.declared.IntervalStoreManager.{IntervalStoreManager}
use Rattle.interval_store_manager.specs.WellFormed.{capacity_allowed, well_formed}
use Rattle.interval_store_manager.specs.Answers.{Answer, opened, done, given, holds, says, refused, changed_means, number_means, emptiness_means, opening, Outcome, outcome}
use Rattle.interval_store_manager.specs.Calls.{manager, refuse, carried_out, changed, new_spec, change_decided, change_spec, get_decided, get_spec, release_decided, release_spec}
use Rattle.store_definitions.specs.Answers.{number_means as store_number, equality_means as store_equality}
use Rattle.point_store_c.specs.Exported.{manager_in, manager_out, returned, recorded, opened_as, exported, exported_call, exported_opening, Read, read, exported_reading}
use Rattle.point_store_c.specs.ExportedStore.{Read as StoreRead, read as store_read, exported_reading as store_reading}

pub manager_long : (words : List ℕ) → 2 ≤ length words → manager (get_or words 0 0) (get_or words 1 0) ≡ manager_in words
unfolding manager_in
manager_long words h = rw (le-leb 2 (length words) h)

pub manager_short : (words : List ℕ) → length words < 2 → manager 0 0 ≡ manager_in words
unfolding manager_in
manager_short words h = rw (lt-leb 2 (length words) h)

module _ (f : IntervalStoreManager → Outcome) (words : List ℕ) (m after : IntervalStoreManager) (starts ends : List ℕ) (a : Answer) (read_in : m ≡ manager_in words) (ensures : outcome a after starts ends ≡ f m) where
  met : (b : Answer) → a ≡ b → outcome b after starts ends ≡ f (manager_in words)
  met b e = ap (λ (x : Answer). outcome x after starts ends) (sym e) ∙ ensures ∙ ap f read_in

  pub call_refused : (xs : List ℕ) (n : ℕ) → a ≡ refused n → exported n words xs starts ends ≡ exported_call words xs (f (manager_in words))
  unfolding exported_call
  call_refused xs n e = ap (exported_call words xs) (met (refused n) e)

  pub call_done : (xs : List ℕ) → a ≡ done → exported 0 (manager_out words after) xs starts ends ≡ exported_call words xs (f (manager_in words))
  unfolding exported_call
  call_done xs e = ap (exported_call words xs) (met done e)

  pub call_given : (xs : List ℕ) (i free : ℕ) → a ≡ given i free → exported 0 (manager_out words after) (i ∷ free ∷ []) starts ends ≡ exported_call words xs (f (manager_in words))
  unfolding exported_call
  call_given xs i free e = ap (exported_call words xs) (met (given i free) e)

-- whether an answer is a refusal
abbrev pub is_refused : Answer → Bool
is_refused (opened m) = false
is_refused done = false
is_refused (given i free) = false
is_refused (holds n) = false
is_refused (says b) = false
is_refused (refused n) = true

-- a definition that refuses the manager of capacity 0
pub record Refuses (f : IntervalStoreManager → Outcome) : Type 0 where
  pub refuses : is_refused (f (manager 0 0)).answer ≡ true

-- where the call was accepted, the record was long enough
pub accepted_long : (f : IntervalStoreManager → Outcome) (words : List ℕ) (m after : IntervalStoreManager) (starts ends : List ℕ) (a b : Answer) → Refuses f → m ≡ manager_in words → outcome a after starts ends ≡ f m → a ≡ b → is_refused b ≡ false → 2 ≤ length words
accepted_long f words m after starts ends a b r p e q i =
    elim (dec_lt (length words) 2) [
      | yes l ↦
          let s : m ≡ manager 0 0 = p ∙ sym (manager_short words l) in
          let t : a ≡ (f (manager 0 0)).answer = ap (λ (o : Outcome). o.answer) e ∙ ap (λ (x : IntervalStoreManager). (f x).answer) s in
          let z : false ≡ true = sym i ∙ ap is_refused (sym q ∙ t) ∙ r.refuses in
          absurd (let y : ◌≡◌ {A = ℕ} 0 1 = cc in omega arith)
      | no g ↦ omega arith
    ]

-- a call that answers no value, of which the code's answer is r
pub changed_carried : (words : List ℕ) (r : Result Unit Refusal) (m : IntervalStoreManager) (starts ends : List ℕ) → exported_call words [] (outcome (changed_means r) m starts ends) ≡ exported (returned (changed_means r)) (recorded words (changed_means r) m) [] starts ends
unfolding exported_call
changed_carried words (Ok _) m starts ends = refl
changed_carried words (Err why) m starts ends = refl

pub changed_long : (f : IntervalStoreManager → Outcome) (words : List ℕ) (m after : IntervalStoreManager) (starts ends : List ℕ) (r : Result Unit Refusal) → m ≡ manager_in words → outcome (changed_means r) after starts ends ≡ f m → Refuses f → changed_means r ≡ done → 2 ≤ length words
changed_long f words m after starts ends r p e k q = accepted_long f words m after starts ends (changed_means r) done k p e q refl

none_formed : (starts ends : List ℕ) → well_formed (manager 0 0) starts ends ≡ false
unfolding well_formed capacity_allowed
none_formed starts ends = refl

pub get_refuses : (starts ends : List ℕ) → Refuses (λ m. get_spec m starts ends)
unfolding get_spec get_decided
get_refuses starts ends = record { refuses = rw (none_formed starts ends) }

pub release_refuses : (starts ends : List ℕ) (i : ℕ) → Refuses (λ m. release_spec m starts ends i)
unfolding release_spec release_decided
release_refuses starts ends i = record { refuses = rw (none_formed starts ends) }

either_refuses : (big : Bool) (starts ends : List ℕ) (o : Outcome) → is_refused (carried_out (cond big (refuse 13) (refuse 1)) (manager 0 0) starts ends o).answer ≡ true
either_refuses true starts ends o = refl
either_refuses false starts ends o = refl

pub change_refuses : (starts ends : List ℕ) (new : ℕ) → Refuses (λ m. change_spec m starts ends new)
unfolding change_spec change_decided
change_refuses starts ends new =
    record { refuses = rw (none_formed starts ends) (either_refuses (ltb 1024 new) starts ends (changed (manager 0 0) starts ends new)) }

module _ (words : List ℕ) (size : ℕ) (starts ends : List ℕ) where
  -- a record too short
  pub open_short : (n : ℕ) → length words < 2 → n ≡ cond (capacity_allowed size) 1 13 → exported n words [] starts ends ≡ exported_opening words size starts ends
  unfolding exported_opening
  open_short n h e = rw (lt-leb 2 (length words) h, e)

  module _ (a : Answer) (starts' ends' : List ℕ) (h : 2 ≤ length words) (ensures : opening a starts' ends' ≡ new_spec size starts ends) where
    open_long : (b : Answer) → a ≡ b → opened_as words (opening b starts' ends') ≡ exported_opening words size starts ends
    unfolding exported_opening
    open_long b e = rw (le-leb 2 (length words) h) (ap (opened_as words) (ap (λ (x : Answer). opening x starts' ends') (sym e) ∙ ensures))

    pub open_refused : (n : ℕ) → a ≡ refused n → exported n words [] starts' ends' ≡ exported_opening words size starts ends
    open_refused n e = open_long (refused n) e

    pub open_done : (m : IntervalStoreManager) → a ≡ opened m → exported 0 (manager_out words m) [] starts' ends' ≡ exported_opening words size starts ends
    open_done m e = open_long (opened m) e

-- a bool's cast
pub cast_one : (b : Bool) → bool_byte b ≡ one b
cast_one true = refl
cast_one false = refl

module _ (f : IntervalStoreManager → Answer) (words : List ℕ) (m : IntervalStoreManager) (a : Answer) (read_in : m ≡ manager_in words) (ensures : a ≡ f m) (xs : List ℕ) where
  said : (b : Answer) → a ≡ b → b ≡ f (manager_in words)
  said b e = sym e ∙ ensures ∙ ap f read_in

  pub reading_refused : (n : ℕ) → a ≡ refused n → read n xs ≡ exported_reading xs (f (manager_in words))
  unfolding exported_reading
  reading_refused n e = ap (exported_reading xs) (said (refused n) e)

  pub reading_holds : (n : ℕ) → a ≡ holds n → read 0 (n ∷ []) ≡ exported_reading xs (f (manager_in words))
  unfolding exported_reading
  reading_holds n e = ap (exported_reading xs) (said (holds n) e)

  pub reading_says : (b : Bool) → a ≡ says b → read 0 (bool_byte b ∷ []) ≡ exported_reading xs (f (manager_in words))
  unfolding exported_reading
  reading_says b e = rw (cast_one b) (ap (exported_reading xs) (said (says b) e))

-- a reading whose number is lent as a store's is
as_read : StoreRead → Read
as_read r = read r.value r.numbers

pub number_lent : (r : Result ℕ Refusal) (x n y : ℕ) → store_read n (y ∷ []) ≡ store_reading (x ∷ []) (store_number r) → read n (y ∷ []) ≡ exported_reading (x ∷ []) (number_means r)
unfolding store_reading as_read exported_reading
number_lent (Ok k) x n y e = ap as_read e
number_lent (Err why) x n y e = ap as_read e

pub truth_lent : (r : Result Bool Refusal) (x n y : ℕ) → store_read n (y ∷ []) ≡ store_reading (x ∷ []) (store_equality r) → read n (y ∷ []) ≡ exported_reading (x ∷ []) (emptiness_means r)
unfolding store_reading as_read exported_reading
truth_lent (Ok b) x n y e = ap as_read e
truth_lent (Err why) x n y e = ap as_read e
