-- A hold's run as a run of the store inside: each hold add is an add and, where a point is given up, a dec.
use Rattle.std.specs.Prelude.{ℕ, ◌≤◌, ◌<◌, Bool, ◌≡◌, get_or, drop, eqb}
use Rattle.std.proofs.Common.{arith, ◌∙◌, take_at, eq-eqb, ne_eqb}
use Rattle.std.proofs.Math.Bool.{true, false, cond}
use mathlib.Core.List.{List, [], ◌∷◌, ◌++◌}
use Rattle.std.proofs.Math.Path.{refl, sym, ap, subst}
use Rattle.std.proofs.Math.ListN.{length}
use Rattle.std.proofs.Math.Dec.{ltb}
use Rattle.terms.specs.Below.{one}
use Rattle.placement.specs.Laying.{place_of}
use Rattle.placement.specs.declared.Laid.{Laid}
use Rattle.store_definitions.specs.declared.Shape.{Shape}
use Rattle.store_definitions.specs.Memory.{PointStore}
use Rattle.store_definitions.specs.Answers.{Answer, kept, waiting, done, is, says, refused, refused_after, Outcome, outcome}
use Rattle.store_definitions.specs.Counting.{dec_spec}
use Rattle.store_definitions.specs.WellFormed.{well_formed}
use Rattle.guarantee.specs.Calls.{add_call}
use Rattle.guarantee.specs.Run.{Call, add, dec, after}
use Rattle.guarantee.specs.History.{Given, alive, History, history, recorded, changed_by, points_with, row_of_add, deced_life}
use Rattle.hold_definitions.specs.Memory.{PointHold, store_of, indices_of, labels_of}
use Rattle.hold_definitions.specs.Listed.{times, times_first}
use Rattle.hold_definitions.specs.Adding.{with_store, with_list, oldest_label, gave_up, holding, held_after}
use Rattle.hold_definitions.specs.CountsAfter.{SameCounts, Gained, Leaves}
use Rattle.hold_definitions.proofs.Sound.{HoldSound}
use Rattle.hold_definitions.proofs.AddingLaws.{length_more, gives_up, after_sound}
use Rattle.hold_definitions.proofs.NamesLaws.{gained_names}
use Rattle.hold_guarantee.specs.Run.{HoldAdd, hold_after, hold_answer_to}
use Rattle.hold_guarantee.specs.History.{KeptAdd, kept_with, indices, newest}
use Rattle.hold_guarantee.specs.Guarantee.{Each}
use Rattle.hold_guarantee.proofs.ListLaws.{trimmed, newest_trimmed, each_append, each_drop, each_map, newest_last, indices_append, indices_drop, indices_length, each_named}

module _ {E : Type 0} where
  -- the dec that a kept add brings
  abbrev give_up : PointHold E → PointStore E → ℕ → ℕ → Call E
  give_up h q i l = dec (get_or (indices_of h ++ i ∷ []) 0 0) (oldest_label q (labels_of h ++ l ∷ []))

  abbrev pub calls_with : PointHold E → Answer → PointStore E → List (Call E) → List (Call E)
  calls_with h (kept i l laid left) q calls = cond (ltb h.header.width (length (indices_of h ++ i ∷ []))) (give_up h q i l ∷ calls) calls
  calls_with h waiting q calls = calls
  calls_with h done q calls = calls
  calls_with h (is n) q calls = calls
  calls_with h (says b) q calls = calls
  calls_with h (refused n) q calls = calls
  calls_with h (refused_after n k) q calls = calls

module _ {E : Type 0} (eq : E → E → Bool) (zero_element : E) (start : PointHold E) where
  -- the calls of the store inside, the last one first
  unfoldable pub store_calls : List (HoldAdd E) → List (Call E)
  store_calls [] = []
  store_calls (a ∷ before) =
      let h = hold_after eq zero_element start before in
      calls_with h (hold_answer_to eq zero_element start a before) (add_call eq zero_element (store_of h) a.point a.code).after (add a.point a.code ∷ store_calls before)

  -- those up to the last add itself
  abbrev pub add_calls : List (HoldAdd E) → List (Call E)
  add_calls [] = []
  add_calls (a ∷ before) = add a.point a.code ∷ store_calls before

  -- a kept hold add as the store's history has it
  abbrev pub given_by : KeptAdd E → Given E
  given_by k = record { calls = add_calls k.adds; row = k.row; place = k.place }

module _ {E : Type 0} (eq : E → E → Bool) (zero_element : E) (s : Shape) (width : ℕ) (start : PointHold E) where
  abbrev past : List (Call E) → History E
  past calls = history eq zero_element s (store_of start) calls

  abbrev ran : List (Call E) → PointStore E
  ran calls = after eq zero_element (store_of start) calls

  -- live since its add, with count 1
  abbrev pub LivesSince : List (Call E) → KeptAdd E → Type 0
  LivesSince calls k = (past calls).life k.index ≡ alive 0 0 (given_by eq zero_element start k)

  -- how a hold stands to the store's calls, to the kept adds and to the points accepted
  pub record Follows (h : PointHold E) (calls : List (Call E)) (kept_before : List (KeptAdd E)) (points : List (List E)) : Type 0 where
    pub sound : HoldSound h
    pub wide : h.header.width ≡ width
    pub run : store_of h ≡ ran calls
    pub list : indices_of h ≡ indices (newest width kept_before)
    pub lives : Each (LivesSince calls) (newest width kept_before)
    pub lived : Each (λ k. LivesSince (store_calls eq zero_element start k.adds) k) (newest width kept_before)
    pub points_same : (past calls).points ≡ points

  module _ (h : PointHold E) (calls : List (Call E)) (kept_before : List (KeptAdd E)) (points : List (List E)) (f : Follows h calls kept_before points) (point : List E) (code : ℕ) (q : PointStore E) (well : well_formed q ≡ true) (added : ran (add point code ∷ calls) ≡ q) where
    abbrev then : List (Call E)
    then = add point code ∷ calls

    abbrev recorded_with : Answer → History E
    recorded_with a = recorded s (add point code) calls a (past calls)

    -- an add that is not kept
    quiet : (a : Answer) → past then ≡ recorded_with a → SameCounts (store_of h) q → HoldSound (with_store q h) → ((i : ℕ) → (recorded_with a).life i ≡ (past calls).life i) → (recorded_with a).points ≡ points_with point a (past calls).points → Follows (with_store q h) then kept_before (points_with point a points)
    quiet a hist c s' life pts =
        record {
          sound = s';
          wide = f.wide;
          run = sym added;
          list = f.list;
          lives = each_map (LivesSince calls) (LivesSince then) (λ k e. ap (λ (x : History E). x.life k.index) hist ∙ life k.index ∙ e) (newest width kept_before) f.lives;
          lived = f.lived;
          points_same = ap (λ (x : History E). x.points) hist ∙ pts ∙ ap (λ (x : List (List E)). points_with point a x) f.points_same;
        }

    module _ (adds : List (HoldAdd E)) (of_adds : add_calls eq zero_element start adds ≡ then) where
      -- a kept one
      module _ (i l : ℕ) (laid : Laid) (left : ℕ) (hist : past then ≡ recorded_with (kept i l laid left)) (g : Gained (store_of h) q i l) (positive : 0 < width) (calls_are : store_calls eq zero_element start adds ≡ calls_with h (kept i l laid left) q then) where
        abbrev xs : List ℕ
        xs = indices_of h ++ i ∷ []

        abbrev ls : List ℕ
        ls = labels_of h ++ l ∷ []

        abbrev new_add : KeptAdd E
        new_add = record { adds = adds; index = i; row = row_of_add s (point ∷ points); place = place_of laid }

        abbrev ks : List (KeptAdd E)
        ks = newest width kept_before ++ new_add ∷ []

        life_after : (k : ℕ) → (past then).life k ≡ cond (eqb k i) (alive 0 0 (record { calls = then; row = row_of_add s (point ∷ (past calls).points); place = place_of laid })) ((past calls).life k)
        unfolding recorded changed_by
        life_after k = ap (λ (x : History E). x.life k) hist

        given_same : record { calls = then; row = row_of_add s (point ∷ (past calls).points); place = place_of laid } ≡ given_by eq zero_element start new_add
        given_same = rw (of_adds, f.points_same)

        -- the new index is on no list yet
        index_new : times i (indices (newest width kept_before)) ≡ 0
        index_new = ap (λ (ys : List ℕ). times i ys) (sym f.list) ∙ sym (f.sound.names.counts i) ∙ g.was_free

        lives_then : Each (LivesSince then) ks
        lives_then =
            each_append (LivesSince then) (newest width kept_before) new_add
            (each_named (LivesSince calls) (LivesSince then) (newest width kept_before)
            (λ k named e.
            let d : k.index ≡ i → ⊥ = λ q. omega (arith, named, ap (λ (n : ℕ). times n (indices (newest width kept_before))) q, index_new) in
            life_after k.index ∙ (rw (ne_eqb k.index i d) e))
            f.lives)
            (life_after i ∙ (rw (eq-eqb i i refl) (ap (λ (x : Given E). alive 0 0 x) given_same)))

        listed : indices ks ≡ xs
        listed = indices_append (newest width kept_before) new_add ∙ ap (λ (ys : List ℕ). ys ++ i ∷ []) (sym f.list)

        some : 0 < length xs
        some = omega (arith, length_more (indices_of h) i)

        -- ---- with the oldest given up, or with all of them

        abbrev held_if : Bool → PointHold E
        held_if b = cond b (with_list (drop 1 xs) (drop 1 ls) (with_store (gave_up xs ls q) h)) (with_list xs ls (with_store q h))

        abbrev calls_if : Bool → List (Call E)
        calls_if b = cond b (give_up h q i l ∷ then) then

        abbrev adds_if : Bool → List (KeptAdd E)
        adds_if b = cond b (drop 1 ks) ks

        gave_up_lem : dec_spec (ran then) (get_or xs 0 0) (oldest_label q ls) ≡ outcome done (gave_up xs ls q)
        gave_up_lem = ap (λ (p : PointStore E). dec_spec p (get_or xs 0 0) (oldest_label q ls)) added ∙ gives_up h f.sound q well i l g

        run_if : (b : Bool) → store_of (held_if b) ≡ ran (calls_if b)
        unfolding after
        run_if true = sym (ap (λ (o : Outcome E). o.after) gave_up_lem)
        run_if false = sym added

        list_if : (b : Bool) → indices_of (held_if b) ≡ indices (adds_if b)
        list_if true = take_at (drop 1 xs) (drop (length (drop 1 xs)) h.memory.held_indices) (length (drop 1 xs)) refl ∙ ap (λ (ys : List ℕ). drop 1 ys) (sym listed) ∙ sym (indices_drop ks)
        list_if false = take_at xs (drop (length xs) h.memory.held_indices) (length xs) refl ∙ sym listed

        -- the history after the dec
        past_after_dec : past (give_up h q i l ∷ then) ≡ recorded s (give_up h q i l) then done (past then)
        unfolding history
        past_after_dec = ap (λ (o : Outcome E). recorded s (give_up h q i l) then o.answer (past then)) gave_up_lem

        life_after_dec : (k : ℕ) → (past (give_up h q i l ∷ then)).life k ≡ cond (eqb k (get_or xs 0 0)) (deced_life ((past then).life k)) ((past then).life k)
        unfolding recorded changed_by
        life_after_dec k = ap (λ (x : History E). x.life k) past_after_dec

        once : (k : ℕ) → times k xs ≤ 1
        once = (gained_names (store_of h) q i l (indices_of h) (labels_of h) f.sound.names g).once

        lives_if : (b : Bool) → Each (LivesSince (calls_if b)) (adds_if b)
        lives_if true =
            each_named (LivesSince then) (LivesSince (give_up h q i l ∷ then)) (drop 1 ks)
            (λ k named e.
            let left : 0 < times k.index (drop 1 xs) = rw (indices_drop ks, listed) at named in
            let d : k.index ≡ get_or xs 0 0 → ⊥ = λ q. omega (arith, left, once k.index, times_first k.index 0 xs some, (let z : one (eqb (get_or xs 0 0) k.index) ≡ 1 = rw (eq-eqb (get_or xs 0 0) k.index (sym q)) in z)) in
            life_after_dec k.index ∙ (rw (ne_eqb k.index (get_or xs 0 0) d) e))
            (each_drop (LivesSince then) ks lives_then)
        lives_if false = lives_then

        points_then : (past then).points ≡ point ∷ points
        unfolding recorded changed_by
        points_then = ap (λ (x : History E). x.points) hist ∙ ap (λ (x : List (List E)). point ∷ x) f.points_same

        points_if : (b : Bool) → (past (calls_if b)).points ≡ point ∷ points
        unfolding recorded changed_by
        points_if true = ap (λ (x : History E). x.points) past_after_dec ∙ points_then
        points_if false = points_then

        abbrev full : Bool
        full = ltb h.header.width (length xs)

        adds_are : newest width (new_add ∷ kept_before) ≡ adds_if full
        unfolding trimmed
        adds_are =
            newest_trimmed width new_add kept_before
            ∙ ap (λ (b : Bool). cond b (drop 1 ks) ks)
            (ap (λ (w : ℕ). ltb w (length ks)) (sym f.wide) ∙ ap (λ (n : ℕ). ltb h.header.width n) (sym (indices_length ks) ∙ ap (λ (ys : List ℕ). length ys) listed))

        lives_now : Each (LivesSince (calls_if full)) (newest width (new_add ∷ kept_before))
        lives_now = subst (λ (zs : List (KeptAdd E)). Each (LivesSince (calls_if full)) zs) (sym adds_are) (lives_if full)

        new_lived : LivesSince (store_calls eq zero_element start adds) new_add
        new_lived =
            subst (λ (cs : List (Call E)). LivesSince cs new_add) (sym calls_are)
            (newest_last (LivesSince (calls_if full)) width new_add kept_before positive lives_now)

        abbrev LivedSince : KeptAdd E → Type 0
        LivedSince k = LivesSince (store_calls eq zero_element start k.adds) k

        lived_all : Each LivedSince ks
        lived_all = each_append LivedSince (newest width kept_before) new_add f.lived new_lived

        lived_if : (b : Bool) → Each LivedSince (adds_if b)
        lived_if true = each_drop LivedSince ks lived_all
        lived_if false = lived_all

        wide_if : (b : Bool) → (held_if b).header.width ≡ width
        wide_if true = f.wide
        wide_if false = f.wide

        kept_follows : HoldSound (holding h xs ls q) → Follows (holding h xs ls q) (calls_if full) (new_add ∷ kept_before) (point ∷ points)
        unfolding holding
        kept_follows s' =
            record {
              sound = s';
              wide = wide_if full;
              run = run_if full;
              list = list_if full ∙ ap indices (sym adds_are);
              lives = lives_now;
              lived = subst (λ (zs : List (KeptAdd E)). Each LivedSince zs) (sym adds_are) (lived_if full);
              points_same = points_if full;
            }

      -- any add
      pub add_follows : (a : Answer) → past then ≡ recorded_with a → Leaves (store_of h) a q → 0 < width → store_calls eq zero_element start adds ≡ calls_with h a q then → Follows (held_after h a q) (calls_with h a q then) (kept_with adds (row_of_add s (points_with point a points)) a kept_before) (points_with point a points)
      unfolding recorded changed_by
      add_follows (kept i l laid left) hist g positive are = kept_follows i l laid left hist g positive are (after_sound h f.sound (kept i l laid left) q well g)
      add_follows waiting hist c positive are = quiet waiting hist c (after_sound h f.sound waiting q well c) (λ i. refl) refl
      add_follows done hist c positive are = quiet done hist c (after_sound h f.sound done q well c) (λ i. refl) refl
      add_follows (is n) hist c positive are = quiet (is n) hist c (after_sound h f.sound (is n) q well c) (λ i. refl) refl
      add_follows (says b) hist c positive are = quiet (says b) hist c (after_sound h f.sound (says b) q well c) (λ i. refl) refl
      add_follows (refused n) hist c positive are = quiet (refused n) hist c (after_sound h f.sound (refused n) q well c) (λ i. refl) refl
      add_follows (refused_after n k) hist c positive are = quiet (refused_after n k) hist c (after_sound h f.sound (refused_after n k) q well c) (λ i. refl) refl
