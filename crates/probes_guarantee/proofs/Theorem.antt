-- The product's guarantee holds after every list of sets on every fresh product.
use Rattle.std.specs.Prelude.{ℕ, zero, suc, ◌+◌, ◌-◌, ◌<◌, Bool, not, ◌&&◌, ◌≡◌, length, take}
use Rattle.std.proofs.Common.{arith, ◌∙◌, take_at}
use Rattle.std.proofs.Math.Bool.{true, false, cond}
use mathlib.Core.List.{List, [], ◌∷◌, ◌++◌}
use Rattle.std.proofs.Math.Path.{refl, sym, ap, subst}
use Rattle.std.proofs.Math.ListN.{get_or, drop, replicate}
use Rattle.std.proofs.Math.Seq.{ext_get_or}
use Rattle.std.proofs.Math.Dec.{eqb}
use borrow.Author.Tests.{eq-eqb, eqb-true}
use Rattle.store_definitions.specs.declared.Shape.{Shape}
use Rattle.store_definitions.specs.Memory.{Memory, PointStore}
use Rattle.store_definitions.specs.Answers.{Answer, done, refused, Outcome, outcome, output}
use Rattle.store_definitions.specs.Opening.{open_spec, opened, opened_memory}
use Rattle.store_laws.specs.Sound.{sound}
use Rattle.store_laws.specs.AddingLaws.{add_keeps}
use Rattle.guarantee.specs.Calls.{open_call, add_call}
use Rattle.guarantee.specs.Run.{Call, add, after}
use Rattle.guarantee.specs.History.{history, recorded, points_with}
use Rattle.guarantee.proofs.Theorem.{guaranteed}
use Rattle.probes_definitions.specs.Memory.{PointProbes, store_of, last_floats}
use Rattle.probes_definitions.specs.Answers.{ProbesOutcome, probes_outcome}
use Rattle.probes_definitions.specs.Readings.{any_absent, filled}
use Rattle.probes_definitions.specs.ReadingLaws.{filled_length}
use Rattle.probes_definitions.specs.Setting.{set_added, no_earlier}
use Rattle.probes_definitions.specs.Tallies.{probes_form_decided, tallies_spec}
use Rattle.probes_definitions.proofs.Sound.{ProbesSound, probes_sound_make}
use Rattle.probes_definitions.specs.WindowAfter.{add_leaves, eight_wide, last_length}
use Rattle.probes_definitions.proofs.SettingLaws.{set_checks}
use Rattle.probes_definitions.proofs.OpeningLaws.{probes_open_accepted, probes_open_done, zeros_at, opened_begun, fresh_sound}
use Rattle.probes_guarantee.specs.Calls.{probes_open_call, set_call}
use Rattle.probes_guarantee.specs.Run.{ProbeSet, probes_after, probes_answer_to}
use Rattle.probes_guarantee.specs.History.{last_of, estimates_with, estimated_readings, filled_sets, filled_set, absent_first, store_calls}
use Rattle.probes_guarantee.specs.Guarantee.{EachSet, each_probe, answer_given, ProbesGuarantee}
use Rattle.probes_guarantee.specs.StoreRun.{checked_as_lem, Follows, set_follows}

-- the end of zeros is zeros
drop_replicate : {E : Type 0} (x : E) (n m k : ℕ) → m ≡ n + k → drop n (replicate m x) ≡ replicate k x
drop_replicate x zero m k e = ap (λ (j : ℕ). replicate j x) (let same : m ≡ k = omega arith in same)
drop_replicate x (suc n) zero k e = absurd (omega arith)
drop_replicate x (suc n) (suc m) k e = drop_replicate x n m k (omega arith)

replicate_length : {E : Type 0} (x : E) (n : ℕ) → length (replicate n x) ≡ n
replicate_length x zero = refl
replicate_length x (suc n) = ap suc (replicate_length x n)

each_at : (f : ℕ → ℕ) (k : ℕ) → k < 8 → get_or (each_probe f) k 0 ≡ f k
unfolding each_probe
each_at f zero h = refl
each_at f (suc zero) h = refl
each_at f (suc (suc zero)) h = refl
each_at f (suc (suc (suc zero))) h = refl
each_at f (suc (suc (suc (suc zero)))) h = refl
each_at f (suc (suc (suc (suc (suc zero))))) h = refl
each_at f (suc (suc (suc (suc (suc (suc zero)))))) h = refl
each_at f (suc (suc (suc (suc (suc (suc (suc zero))))))) h = refl
each_at f (suc (suc (suc (suc (suc (suc (suc (suc k)))))))) h = absurd (omega arith)

module _ {E : Type 0} (eq : E → E → Bool) (zero_element : E) (s : Shape) (start : PointProbes E) (text : List ℕ) (m : Memory E) (accepted : probes_open_call zero_element s text m ≡ probes_outcome done start) where
  -- what an accepted opening of a product is: one of its store, with nothing tallied and a window of zeros
  record Fresh : Type 0 where
    well : ProbesSound start
    of_store : open_call zero_element s text m ≡ outcome done (store_of start)
    none_yet : start.header.store.next_sequence_index ≡ 0
    zeros : last_floats (store_of start) ≡ replicate 8 zero_element
    nothing : (k : ℕ) → get_or start.header.tallies k 0 ≡ 0

  fresh : Fresh
  unfolding open_spec last_floats opened_memory
  fresh =
      let d = probes_open_done s text m zero_element start accepted in
      let same = sym d.1 in
      let o = probes_open_accepted s text m d.0 in
      let b = opened_begun zero_element s text m in
      let w = fresh_sound zero_element s text m d.0 in
      let p = opened zero_element s text m in
      let wide = eight_wide p (sound p w.well) w.base_eight in
      let dims = p.header.dimensions in
      let few : dims ≡ dims - 8 + 8 = omega (arith, wide) in
      record {
        well = subst ProbesSound same w;
        of_store = rw o.of_store (ap (λ (x : PointProbes E). outcome done (store_of x)) same);
        none_yet = ap (λ (x : PointProbes E). x.header.store.next_sequence_index) d.1 ∙ b.sequence;
        zeros =
            ap (λ (x : PointProbes E). last_floats (store_of x)) d.1
            ∙ ap (λ (xs : List E). drop (dims - 8) (take dims xs)) (b.window ∙ ap (λ (n : ℕ). replicate n zero_element ++ drop n m.last_known_shingle) (sym b.dimensions))
            ∙ ap (λ (xs : List E). drop (dims - 8) xs) (take_at (replicate dims zero_element) (drop dims m.last_known_shingle) dims (replicate_length zero_element dims))
            ∙ drop_replicate zero_element (dims - 8) dims 8 few;
        nothing = λ k. ap (λ (x : PointProbes E). get_or x.header.tallies k 0) d.1 ∙ zeros_at 8 k;
      }

  abbrev p : List (ProbeSet E) → PointProbes E
  p sets = probes_after eq zero_element start sets

  abbrev calls : List (ProbeSet E) → List (Call E)
  calls sets = store_calls eq zero_element start sets

  abbrev points : List (ProbeSet E) → List (List E)
  points sets = filled_sets eq zero_element start sets

  abbrev counts : List (ProbeSet E) → ℕ → ℕ
  counts sets = estimated_readings eq zero_element start sets

  abbrev FollowsAs : PointProbes E → List (Call E) → List (List E) → (ℕ → ℕ) → Type 0
  FollowsAs x cs ps ns = Follows eq zero_element s (store_of start) x cs ps ns

  abbrev FollowsAfter : List (ProbeSet E) → Type 0
  FollowsAfter sets = FollowsAs (p sets) (calls sets) (points sets) (counts sets)

  begin : FollowsAfter []
  unfolding probes_after store_calls filled_sets estimated_readings after history
  begin =
      record {
        probes_well = fresh.well;
        run = refl;
        sequence = fresh.none_yet;
        last = fresh.zeros;
        points_same = refl;
        tallies_same = λ k h. fresh.nothing k;
      }

  -- the same by other names
  carried : (x y : PointProbes E) (cs ds : List (Call E)) (ps qs : List (List E)) (ns ms : ℕ → ℕ) → y ≡ x → ds ≡ cs → qs ≡ ps → ((k : ℕ) → ms k ≡ ns k) → FollowsAs x cs ps ns → FollowsAs y ds qs ms
  carried x y cs ds ps qs ns ms a b c d f =
      let g = subst (λ (z : PointProbes E). FollowsAs z ds qs ns) (sym a) (subst (λ (z : List (Call E)). FollowsAs x z qs ns) (sym b) (subst (λ (z : List (List E)). FollowsAs x cs z ns) (sym c) f)) in
      record {
        probes_well = g.probes_well;
        run = g.run;
        sequence = g.sequence;
        last = g.last;
        points_same = g.points_same;
        tallies_same = λ k h. g.tallies_same k h ∙ sym (d k);
      }

  module _ (x : ProbeSet E) (before : List (ProbeSet E)) (f : FollowsAfter before) where
    abbrev now : PointProbes E
    now = p before

    abbrev point : List E
    point = filled_set eq zero_element start x before

    abbrev o : Outcome E
    o = add_call eq zero_element (store_of now) point x.code

    abbrev is_eight : Bool
    is_eight = eqb (length x.readings) 8

    abbrev is_first : Bool
    is_first = absent_first eq zero_element start x before

    abbrev called : ProbesOutcome E
    called = set_call eq zero_element now x.readings x.code

    first_is : no_earlier now x.readings ≡ is_first
    unfolding no_earlier
    first_is = ap (λ (n : ℕ). any_absent x.readings && eqb n 0) f.sequence

    -- the set's outcome by the two tests
    abbrev outcome_as : Bool → Bool → ProbesOutcome E
    outcome_as b c = cond b (cond c (probes_outcome (refused 16) now) (set_added now x.readings o)) (probes_outcome (refused 3) now)

    called_is : called ≡ outcome_as is_eight is_first
    called_is =
        set_checks eq zero_element now x.readings x.code (probes_sound_make now f.probes_well)
        ∙ checked_as_lem eq zero_element now x.readings x.code
        ∙ ap (λ (c : Bool). cond is_eight (cond c (probes_outcome (refused 16) now) (set_added now x.readings (add_call eq zero_element (store_of now) (filled x.readings (last_floats (store_of now))) x.code))) (probes_outcome (refused 3) now)) first_is
        ∙ ap (λ (xs : List E). cond is_eight (cond is_first (probes_outcome (refused 16) now) (set_added now x.readings (add_call eq zero_element (store_of now) (filled x.readings xs) x.code))) (probes_outcome (refused 3) now)) f.last

    -- a set that the product refuses
    refused_follows : (n : ℕ) → called ≡ probes_outcome (refused n) now → calls (x ∷ before) ≡ calls before → FollowsAfter (x ∷ before)
    unfolding probes_after filled_sets estimated_readings
    refused_follows n e same =
        let a : called.answer ≡ refused n = ap (λ (z : ProbesOutcome E). z.answer) e in
        carried now (p (x ∷ before)) (calls before) (calls (x ∷ before)) (points before) (points (x ∷ before)) (counts before) (counts (x ∷ before))
        (ap (λ (z : ProbesOutcome E). z.after) e) same
        (ap (λ (z : Answer). points_with point z (points before)) a)
        (λ k. ap (λ (z : Answer). estimates_with x.readings z k (counts before k)) a)
        f

    -- one that is handed on
    sized : is_eight ≡ true → length point ≡ 8
    sized e =
        let w = f.probes_well in
        let eight = eqb-true (length x.readings) 8 e in
        let enough : length (last_of zero_element (points before)) ≡ 8 = ap (λ (xs : List E). length xs) (sym f.last) ∙ last_length (store_of now) (sound (store_of now) w.well) w.base_eight in
        filled_length x.readings (last_of zero_element (points before)) (omega (arith, eight, enough)) ∙ eight

    past_is : history eq zero_element s (store_of start) (add point x.code ∷ calls before) ≡ recorded s (add point x.code) (calls before) o.answer (history eq zero_element s (store_of start) (calls before))
    unfolding history
    past_is = ap (λ (q : PointStore E). recorded s (add point x.code) (calls before) (add_call eq zero_element q point x.code).answer (history eq zero_element s (store_of start) (calls before))) (sym f.run)

    ran_is : after eq zero_element (store_of start) (add point x.code ∷ calls before) ≡ o.after
    unfolding after
    ran_is = ap (λ (q : PointStore E). (add_call eq zero_element q point x.code).after) (sym f.run)

    handed_follows : is_eight ≡ true → called ≡ set_added now x.readings o → calls (x ∷ before) ≡ add point x.code ∷ calls before → FollowsAfter (x ∷ before)
    unfolding probes_after filled_sets estimated_readings
    handed_follows eight e same =
        let a : called.answer ≡ o.answer = ap (λ (z : ProbesOutcome E). z.answer) e in
        carried (set_added now x.readings o).after (p (x ∷ before)) (add point x.code ∷ calls before) (calls (x ∷ before)) (points_with point o.answer (points before)) (points (x ∷ before)) (λ k. estimates_with x.readings o.answer k (counts before k)) (counts (x ∷ before))
        (ap (λ (z : ProbesOutcome E). z.after) e) same
        (ap (λ (z : Answer). points_with point z (points before)) a)
        (λ k. ap (λ (z : Answer). estimates_with x.readings z k (counts before k)) a)
        (set_follows eq zero_element s (store_of start) now (calls before) (points before) (counts before) f x.readings point (sized eight) x.code o.after
        (add_keeps eq zero_element (store_of now) point x.code f.probes_well.well) ran_is o.answer past_is (add_leaves eq zero_element (store_of now) point x.code))

    abbrev calls_as : Bool → Bool → List (Call E)
    calls_as b c = cond (b && not c) (add point x.code ∷ calls before) (calls before)

    split : (b c : Bool) → is_eight ≡ b → called ≡ outcome_as b c → calls (x ∷ before) ≡ calls_as b c → FollowsAfter (x ∷ before)
    split true true eight e same = refused_follows 16 e same
    split true false eight e same = handed_follows eight e same
    split false c eight e same = refused_follows 3 e same

    step : FollowsAfter (x ∷ before)
    unfolding store_calls
    step = split is_eight is_first refl called_is refl

    -- its answer
    answer_is : probes_answer_to eq zero_element start x before ≡ answer_given eq zero_element s start x before
    unfolding answer_given
    answer_is =
        ap (λ (z : ProbesOutcome E). z.answer) called_is
        ∙ by_tests is_eight is_first
        ∙ ap (λ (q : PointStore E). cond is_eight (cond is_first (refused 16) (add_call eq zero_element q point x.code).answer) (refused 3)) f.run
      where
        by_tests : (b c : Bool) → (outcome_as b c).answer ≡ cond b (cond c (refused 16) o.answer) (refused 3)
        by_tests true true = refl
        by_tests true false = refl
        by_tests false c = refl

  follows : (sets : List (ProbeSet E)) → FollowsAfter sets
  follows [] = begin
  follows (x ∷ before) = step x before (follows before)

  answers : (sets : List (ProbeSet E)) → EachSet (λ x before. probes_answer_to eq zero_element start x before ≡ answer_given eq zero_element s start x before) sets
  answers [] = tt
  answers (x ∷ before) = (answer_is x before (follows before), answers before)

  tallies_are : (sets : List (ProbeSet E)) → (p sets).header.tallies ≡ each_probe (counts sets)
  unfolding each_probe
  tallies_are sets =
      let f = follows sets in
      ext_get_or 0 (p sets).header.tallies (each_probe (counts sets)) f.probes_well.eight_tallies
      (λ k h. let below : k < 8 = omega (arith, f.probes_well.eight_tallies) in f.tallies_same k below ∙ sym (each_at (counts sets) k below))

  -- the product's guarantee
  pub probes_guaranteed : (sets : List (ProbeSet E)) → ProbesGuarantee eq zero_element s start sets
  unfolding tallies_spec probes_form_decided
  probes_guaranteed sets =
      let f = follows sets in
      record {
        answers = answers sets;
        run = f.run;
        of_store = guaranteed eq zero_element s (store_of start) text m fresh.of_store (calls sets);
        windows = f.points_same;
        tallies = λ out sized. rw (probes_sound_make (p sets) f.probes_well, eq-eqb (length out) 8 sized) (ap (λ (ts : List ℕ). output done ts) (tallies_are sets));
        last_floats_lem = f.last;
      }
