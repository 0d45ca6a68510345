-- The hold's guarantee holds after every list of hold adds on every fresh hold.
use Prim.Native.Nat.{ℕ, ◌+◌, ◌/◌, ◌≤◌, ◌<◌}
use Rattle.std.proofs.Common.{arith, ◌∙◌}
use Rattle.std.specs.Prelude.{Bool, ◌≡◌, length}
use mathlib.Core.List.{List, [], ◌∷◌}
use Rattle.std.proofs.Math.Path.{refl, sym, ap, subst}
use borrow.Author.Tests.{eq-eqb}
use Rattle.placement.specs.declared.Laid.{Laid}
use Rattle.placement.specs.Copying.{turn, turned}
use Rattle.store_definitions.specs.declared.Shape.{Shape}
use Rattle.store_definitions.specs.Memory.{PointStore}
use Rattle.store_definitions.specs.Answers.{Answer, kept, done, is, refused, Outcome, outcome, output}
use Rattle.store_definitions.specs.Parts.{table_length}
use Rattle.store_definitions.specs.Decisions.{touch_decided}
use Rattle.store_definitions.specs.Counting.{count_spec}
use Rattle.store_definitions.specs.Opening.{open_spec}
use Rattle.store_laws.specs.Sound.{sound}
use Rattle.store_laws.specs.AddingLaws.{add_keeps}
use Rattle.guarantee.specs.Calls.{open_call, add_call, copy_call, count_call}
use Rattle.guarantee.specs.Run.{Call, add, after}
use Rattle.guarantee.specs.History.{history, recorded}
use Rattle.guarantee.specs.Guarantee.{Guarantee}
use Rattle.guarantee.proofs.EachCallKeeps.{formed}
use Rattle.guarantee.specs.CopyLaws.{count_answer_lem}
use Rattle.guarantee.proofs.Theorem.{guaranteed}
use Rattle.hold_definitions.specs.Memory.{HoldMemory, PointHold, store_of}
use Rattle.hold_definitions.specs.Listed.{times}
use Rattle.hold_definitions.specs.Answers.{HoldOutcome, hold_outcome}
use Rattle.hold_definitions.specs.Adding.{held_after, hold_added}
use Rattle.hold_definitions.specs.Readings.{hold_form_decided, held_spec, held_number_spec}
use Rattle.hold_definitions.specs.CountsAfter.{Leaves, add_leaves, count_now, counted_live, counted_below, counted_inside}
use Rattle.hold_definitions.proofs.Sound.{HoldSound, hold_sound_make}
use Rattle.hold_definitions.proofs.AddingLaws.{hold_answers, held_length}
use Rattle.hold_definitions.proofs.FigureLaws.{hold_figure}
use Rattle.hold_definitions.proofs.OpeningLaws.{hold_open_accepted, hold_open_done, fresh_sound}
use Rattle.hold_guarantee.specs.Calls.{hold_open_call, hold_add_call}
use Rattle.hold_guarantee.specs.Run.{HoldAdd, hold_after, hold_answer_to}
use Rattle.hold_guarantee.specs.History.{KeptAdd, indices, newest, accepted_points, kept_adds}
use Rattle.hold_guarantee.specs.Guarantee.{Each, EachAdd, held_adds, held_list, HoldGuarantee}
use Rattle.hold_guarantee.proofs.ListLaws.{each_map}
use Rattle.hold_guarantee.proofs.StoreRun.{store_calls, given_by, LivesSince, Follows, add_follows}

newest_none : {A : Type 0} (n : ℕ) → ◌≡◌ {A = List A} (newest n []) []
unfolding newest
newest_none Prim.Native.Nat.zero = refl
newest_none (Prim.Native.Nat.suc n) = refl

module _ {E : Type 0} (eq : E → E → Bool) (zero_element : E) (s : Shape) (width : ℕ) (start : PointHold E) (text : List ℕ) (m : HoldMemory E) (accepted : hold_open_call zero_element s width text m ≡ hold_outcome done start) where
  -- what an accepted opening of a hold is: one of its store, and an empty list of the width
  record Fresh : Type 0 where
    sound : HoldSound start
    wide : start.header.width ≡ width
    empty : start.header.held ≡ 0
    of_store : open_call zero_element s text m.store ≡ outcome done (store_of start)

  fresh : Fresh
  unfolding open_spec
  fresh =
      let d = hold_open_done s width text m zero_element start accepted in
      let same = sym d.1 in
      let o = hold_open_accepted s width text m d.0 in
      record {
        sound = subst HoldSound same (fresh_sound zero_element s width text m d.0);
        wide = ap (λ (h : PointHold E). h.header.width) (sym same);
        empty = ap (λ (h : PointHold E). h.header.held) (sym same);
        of_store = rw o.of_store (ap (λ (h : PointHold E). outcome done (store_of h)) same);
      }

  abbrev h : List (HoldAdd E) → PointHold E
  h adds = hold_after eq zero_element start adds

  abbrev calls : List (HoldAdd E) → List (Call E)
  calls adds = store_calls eq zero_element start adds

  abbrev FollowsAfter : List (HoldAdd E) → Type 0
  FollowsAfter adds = Follows eq zero_element s width start (h adds) (calls adds) (kept_adds eq zero_element start s adds) (accepted_points eq zero_element start adds)

  begin : FollowsAfter []
  unfolding hold_after store_calls kept_adds accepted_points after history indices
  begin =
      record {
        sound = fresh.sound;
        wide = fresh.wide;
        run = refl;
        list = rw (fresh.empty, newest_none {A = KeptAdd E} width);
        lives = rw (newest_none {A = KeptAdd E} width) tt;
        lived = rw (newest_none {A = KeptAdd E} width) tt;
        points_same = refl;
      }

  module _ (a : HoldAdd E) (before : List (HoldAdd E)) (f : FollowsAfter before) where
    abbrev p : PointStore E
    p = store_of (h before)

    abbrev o : Outcome E
    o = add_call eq zero_element p a.point a.code

    answered : hold_add_call eq zero_element (h before) a.point a.code ≡ hold_added (h before) o
    answered = hold_answers eq zero_element (h before) a.point a.code (hold_sound_make (h before) f.sound)

    -- the hold's answer is the store's
    answer_is : hold_answer_to eq zero_element start a before ≡ o.answer
    answer_is = ap (λ (r : HoldOutcome E). r.answer) answered

    after_is : h (a ∷ before) ≡ held_after (h before) (hold_answer_to eq zero_element start a before) o.after
    unfolding hold_after
    after_is = ap (λ (r : HoldOutcome E). r.after) answered ∙ ap (λ (x : Answer). held_after (h before) x o.after) (sym answer_is)

    past_is : history eq zero_element s (store_of start) (add a.point a.code ∷ calls before) ≡ recorded s (add a.point a.code) (calls before) (hold_answer_to eq zero_element start a before) (history eq zero_element s (store_of start) (calls before))
    unfolding history
    past_is = ap (λ (x : Answer). recorded s (add a.point a.code) (calls before) x (history eq zero_element s (store_of start) (calls before))) (ap (λ (q : PointStore E). (add_call eq zero_element q a.point a.code).answer) (sym f.run) ∙ sym answer_is)

    ran_is : after eq zero_element (store_of start) (add a.point a.code ∷ calls before) ≡ o.after
    unfolding after
    ran_is = ap (λ (q : PointStore E). (add_call eq zero_element q a.point a.code).after) (sym f.run)

    step : FollowsAfter (a ∷ before)
    unfolding store_calls kept_adds accepted_points
    step =
        subst (λ (x : PointHold E). Follows eq zero_element s width start x (calls (a ∷ before)) (kept_adds eq zero_element start s (a ∷ before)) (accepted_points eq zero_element start (a ∷ before))) (sym after_is)
        (add_follows eq zero_element s width start (h before) (calls before) (kept_adds eq zero_element start s before) (accepted_points eq zero_element start before) f a.point a.code o.after
        (add_keeps eq zero_element p a.point a.code f.sound.well) ran_is (a ∷ before) refl (hold_answer_to eq zero_element start a before) past_is
        (subst (λ (x : Answer). Leaves p x o.after) (sym answer_is) (add_leaves eq zero_element p (sound p f.sound.well) a.point a.code))
        (omega (arith, f.wide, f.sound.width_least))
        refl)

  follows : (adds : List (HoldAdd E)) → FollowsAfter adds
  follows [] = begin
  follows (a ∷ before) = step a before (follows before)

  -- the list guarantee for the store's calls
  of_store : (adds : List (HoldAdd E)) → Guarantee eq zero_element s (store_of start) (calls adds)
  of_store adds = guaranteed eq zero_element s (store_of start) text m.store fresh.of_store (calls adds)

  module _ (adds : List (HoldAdd E)) where
    f : FollowsAfter adds
    f = follows adds

    abbrev inside : PointStore E
    inside = store_of (h adds)

    abbrev xs : List ℕ
    xs = held_list eq zero_element s width start adds

    counts : (i : ℕ) → count_now inside i ≡ times i xs
    counts i = f.sound.names.counts i ∙ ap (λ (ys : List ℕ). times i ys) f.list

    once : (i : ℕ) → times i xs ≤ 1
    once i = rw (sym f.list) (f.sound.names.once i)

    number : (h adds).header.held ≡ length xs
    number = sym (held_length (h adds) f.sound) ∙ ap (λ (ys : List ℕ). length ys) f.list

    -- a live index, and any other
    live : (i : ℕ) → 0 < times i xs → count_call inside i ≡ is 1
    live i named =
        let c : count_now inside i ≡ 1 = omega (arith, counts i, once i) in
        let listed = counted_inside inside i (omega (arith, c)) in
        let counted = sym (counted_below inside i listed) ∙ c in
        count_answer_lem inside (sound inside f.sound.well) i listed (omega (arith, counted)) ∙ ap is counted

    no_other : (i : ℕ) → times i xs ≡ 0 → count_call inside i ≡ refused 5
    unfolding count_spec touch_decided
    no_other i none = rw (formed inside f.sound.well, counted_live inside i, counts i, none)

    -- what copy gives of an index that has lived since its add
    copy_then : (k : KeptAdd E) → LivesSince eq zero_element s width start (calls adds) k → (out : List E) → copy_call inside k.index out ≡ copy_call (after eq zero_element (store_of start) (given_by eq zero_element start k).calls) k.index out
    copy_then k e out =
        ap (λ (p : PointStore E). copy_call p k.index out) f.run
        ∙ (of_store adds).copies_kept k.index (given_by eq zero_element start k) (0, 0, e) out

  each_with : (P Q R : KeptAdd E → Type 0) → ((k : KeptAdd E) → P k → Q k → R k) → (ks : List (KeptAdd E)) → Each P ks → Each Q ks → Each R ks
  each_with P Q R g [] a b = tt
  each_with P Q R g (k ∷ ks) a b = (g k a.0 b.0, each_with P Q R g ks a.1 b.1)

  answers : (adds : List (HoldAdd E)) → EachAdd (λ a before. hold_answer_to eq zero_element start a before ≡ (add_call eq zero_element (store_of (h before)) a.point a.code).answer) adds
  answers [] = tt
  answers (a ∷ before) = (answer_is a before (follows before), answers before)

  figures : (adds : List (HoldAdd E)) → EachAdd (λ a before. (i l : ℕ) (laid : Laid) (left : ℕ) → hold_answer_to eq zero_element start a before ≡ kept i l laid left → left + (length (held_list eq zero_element s width start before) + 1) ≡ table_length (store_of (h (a ∷ before))).header) adds
  unfolding hold_after
  figures [] = tt
  figures (a ∷ before) = (
    λ i l laid left e.
        omega (arith, hold_figure eq zero_element (h before) a.point a.code (hold_sound_make (h before) (follows before).sound) i l laid left e, number before),
    figures before,
  )

  -- the hold's guarantee
  pub hold_guaranteed : (adds : List (HoldAdd E)) → HoldGuarantee eq zero_element s width start adds
  unfolding held_spec held_number_spec hold_form_decided
  hold_guaranteed adds =
      let follow = follows adds in
      let well = hold_sound_make (h adds) follow.sound in
      record {
        answers = answers adds;
        figures = figures adds;
        held = λ out sized. rw (well, eq-eqb (length out) (h adds).header.held (sized ∙ sym (number adds))) (ap (λ (ys : List ℕ). output done ys) follow.list);
        held_number = rw well (ap is (number adds));
        held_once = once adds;
        live = live adds;
        no_other = no_other adds;
        copies_kept =
            each_with (LivesSince eq zero_element s width start (calls adds)) (λ k. LivesSince eq zero_element s width start (calls k.adds) k) _
            (λ k now then out. copy_then adds k now out ∙ sym (copy_then k.adds k then out))
            (held_adds eq zero_element s width start adds) follow.lives follow.lived;
        copies_row = λ exact.
            each_map (LivesSince eq zero_element s width start (calls adds)) _
            (λ k e out sized. subst (λ (p : PointStore E). copy_call p k.index out ≡ output done (turned s.dimensions (turn s.internal_rotation s.dimensions (s.dimensions / s.shingle_size) k.place) k.row)) (sym follow.run) ((of_store adds).copies_row exact k.index (given_by eq zero_element start k) (0, 0, e) out sized))
            (held_adds eq zero_element s width start adds) follow.lives;
      }
