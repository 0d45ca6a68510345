-- The list guarantee holds after every list of calls on every fresh store.
use Rattle.std.specs.Prelude.{ℕ, ◌+◌, ◌*◌, ◌/◌, ◌≤◌, ◌<◌, Bool, true, false, ◌≡◌, length, get_or, ltb}
use Rattle.std.proofs.Math.Decide.{dec_lt}
use Rattle.std.proofs.Common.{arith, ◌∙◌, get_or-take, eq-eqb, le-ltb}
use Rattle.std.proofs.Math.Bool.{and-false}
use mathlib.Core.List.{List, [], ◌∷◌}
use Rattle.std.proofs.Math.Path.{refl, sym, ap, subst}
use Rattle.terms.specs.Below.{sum_below, fails, sum_same, sum_beyond}
use Rattle.interval_store_manager.specs.Calls.{Decided}
use Rattle.placement.specs.AlignmentLaws.{point_room}
use Rattle.placement.specs.Growth.{grown}
use Rattle.store_definitions.specs.declared.Shape.{Shape}
use Rattle.store_definitions.specs.Memory.{Memory, PointStore}
use Rattle.store_definitions.specs.Answers.{is, done, outcome, output}
use Rattle.store_definitions.specs.Parts.{table_length, rows_of, with_rows}
use Rattle.store_definitions.specs.Decisions.{touch_decided, live, carried_out}
use Rattle.store_definitions.specs.Counting.{count_spec, live_number_spec, free_start_spec}
use Rattle.store_definitions.specs.Rows.{copy_of, compact_spec, compacted_rows}
use Rattle.store_definitions.specs.WellFormed.{well_formed}
use Rattle.store_laws.specs.Sound.{Sound, sound, place_ends}
use Rattle.store_laws.specs.FigureLaws.{figure_and_live}
use Rattle.store_laws.specs.OpeningLaws.{open_accepted, open_done, opening_well_formed}
use Rattle.guarantee.specs.Calls.{open_call, copy_call, count_call, live_number_call, free_start_call}
use Rattle.guarantee.specs.Run.{Call, add, inc, dec, adjust, compact, after}
use Rattle.guarantee.specs.History.{Given, Life, dead, alive, count, is_live, History, history, recorded, changed_by, nothing}
use Rattle.guarantee.specs.Guarantee.{count_answer, number_in, LiveSince, live_indices, EachCall, NotShort, NotShortWithin, RestFree, Guarantee}
use Rattle.guarantee.specs.LifeLaws.{dead_count}
use Rattle.guarantee.specs.Relates.{copy_answer, Relates}
use Rattle.guarantee.specs.RoomLaws.{compact_free_lem}
use Rattle.guarantee.specs.SpaceLaws.{points_number}
use Rattle.guarantee.specs.CopyLaws.{copy_answer_lem, count_answer_lem}
use Rattle.guarantee.specs.RowCalls.{live_point, live_number_is}
use Rattle.guarantee.proofs.EachCallKeeps.{formed, call_well_formed, call_kept}
use Rattle.guarantee.specs.Fresh.{fresh}
use Rattle.guarantee.proofs.FloatSpace.{unturned_never_ten, ten_bound}

module _ {E : Type 0} (eq : E → E → Bool) (zero_element : E) (h : Shape) (start : PointStore E) where
  abbrev store_after : List (Call E) → PointStore E
  store_after calls = after eq zero_element start calls

  abbrev past : List (Call E) → History E
  past calls = history eq zero_element h start calls

  abbrev then : Given E → PointStore E
  then g = store_after g.calls

  -- the invariant along a run
  record Holds (calls : List (Call E)) : Type 0 where
    well_formed_lem : well_formed (store_after calls) ≡ true
    relates : Relates eq h then (past calls) (store_after calls)

  module _ (calls : List (Call E)) (holds : Holds calls) where
    abbrev p : PointStore E
    p = store_after calls

    abbrev s : History E
    s = past calls

    r : Relates eq h then s p
    r = holds.relates

    w : Sound p
    w = sound p holds.well_formed_lem

    -- (a)
    used : (i : ℕ) → is_live (s.life i) ≡ true → 0 < get_or p.memory.reference_count i 0
    used i e = rw (r.counts i (r.live_below_lem i e)) (r.live_counted i e)

    not_live : (i : ℕ) → is_live (s.life i) ≡ false → live p i ≡ false
    unfolding live
    not_live i e =
        elim (dec_lt i (table_length p.header)) [
          | yes l ↦ rw (le-ltb 0 (get_or p.memory.reference_count i 0) (omega (arith, r.counts i l, dead_count (s.life i) e))) (and-false (ltb i (table_length p.header)))
          | no f ↦ rw (le-ltb i (table_length p.header) (omega arith))
        ]

    counts : (i : ℕ) → count_call p i ≡ count_answer (s.life i)
    unfolding count_spec touch_decided
    counts i = go (s.life i) refl
      where
        go : (l : Life E) → s.life i ≡ l → count_call p i ≡ count_answer l
        go dead e = rw (formed p holds.well_formed_lem, not_live i (ap is_live e))
        go (alive x y g) e = count_answer_lem p w i (r.live_below_lem i (ap is_live e)) (used i (ap is_live e)) ∙ ap is (r.counts i (r.live_below_lem i (ap is_live e)) ∙ ap count e)

    -- (b), (c)
    copies : (i : ℕ) (g : Given E) → LiveSince s i g → (out : List E) → copy_call p i out ≡ copy_answer h.dimensions (copy_of p i) out
    copies i g since out =
        copy_answer_lem p w i (r.live_below_lem i (ap is_live since.2)) (used i (ap is_live since.2)) out
        ∙ ap (λ (d : ℕ). copy_answer d (copy_of p i) out) r.fits.dimensions

    whole_copy : (i : ℕ) (g : Given E) → LiveSince s i g → (out : List E) → length out ≡ h.dimensions → copy_call p i out ≡ output done (copy_of p i)
    whole_copy i g since out sized = copies i g since out ∙ (rw (eq-eqb (length out) h.dimensions sized))

    -- (d)
    number : (l : Life E) → number_in (count_answer l) ≡ count l
    number dead = refl
    number (alive x y g) = refl

    counted : (i : ℕ) → number_in (count_call p i) ≡ count (s.life i)
    counted i = ap number_in (counts i) ∙ number (s.life i)

    sum : sum_below h.capacity (λ i. number_in (count_call p i)) + s.decs ≡ s.adds + s.incs
    sum =
        let n = table_length p.header in
        let far = sum_beyond n h.capacity (λ i. number_in (count_call p i)) (λ i l. counted i ∙ dead_count (s.life i) (fails (is_live (s.life i)) (λ e. omega (arith, r.live_below_lem i e)))) (omega (arith, r.fits.capacity, w.table_within)) in
        let same = sum_same n (λ i. number_in (count_call p i)) (λ i. get_or p.memory.reference_count i 0) (λ i l. counted i ∙ sym (r.counts i l)) in
        omega (arith, far, same, r.sum)

    -- (e)
    distinct : (i j : ℕ) → is_live (s.life i) ≡ true → is_live (s.life j) ≡ true → get_or p.memory.location i 65535 ≡ get_or p.memory.location j 65535 → i ≡ j
    distinct i j e f q =
        let n = table_length p.header in
        w.rows.distinct_places i j (live_point eq h then s p w r i e) (live_point eq h then s p w r j f)
        (get_or-take n p.memory.location i 65535 (r.live_below_lem i e) ∙ q ∙ sym (get_or-take n p.memory.location j 65535 (r.live_below_lem j f)))

    ends : (i : ℕ) → is_live (s.life i) ≡ true → get_or p.memory.location i 65535 * (h.dimensions / h.shingle_size) + h.dimensions ≤ p.header.start_free_region
    ends i e = rw (← r.fits.dimensions, ← r.fits.shingle) (place_ends p w i (r.live_below_lem i e) (used i e))

    -- (f)
    compacted : store_after (compact ∷ calls) ≡ with_rows (compacted_rows zero_element p.header (rows_of p)) p
    unfolding after compact_spec
    compacted =
        ap (λ (d : Decided). (carried_out d p (outcome done (with_rows (compacted_rows zero_element p.header (rows_of p)) p))).after)
        (formed p holds.well_formed_lem)

    compact_room : (store_after (compact ∷ calls)).header.start_free_region ≤ live_indices h.capacity (past (compact ∷ calls)) * point_room h.internal_rotation h.dimensions (h.dimensions / h.shingle_size)
    unfolding history recorded changed_by
    compact_room =
        rw (compacted, live_number_is eq h then s p w r, ← r.fits.dimensions, ← r.fits.shingle, ← r.fits.rotation, ← (points_number p w))
        (compact_free_lem zero_element p.header w.table_within (rows_of p) w.rows)

    -- (g)
    not_short : (c : Call E) → h.internal_rotation ≡ false → NotShort eq zero_element h start c calls
    not_short (add point code) off = unturned_never_ten eq zero_element p point code holds.well_formed_lem (r.fits.rotation ∙ off)
    not_short (inc i l) off = tt
    not_short (dec i l) off = tt
    not_short (adjust qs) off = tt
    not_short compact off = tt

    -- (h)
    not_short_within : (c : Call E) → NotShortWithin eq zero_element h start c calls
    unfolding point_room
    not_short_within (add point code) fits = λ e.
        let u = p.header in
        let b : grown u.store_length h.dimensions (h.capacity * h.dimensions) < live_indices h.capacity s * point_room h.internal_rotation h.dimensions (h.dimensions / h.shingle_size) + h.dimensions =
        rw (live_number_is eq h then s p w r, ← r.fits.dimensions, ← r.fits.shingle, ← r.fits.rotation, ← r.fits.capacity) (ten_bound eq zero_element p point code holds.well_formed_lem e) in
        omega (arith, fits, b)
    not_short_within (inc i l) fits = tt
    not_short_within (dec i l) fits = tt
    not_short_within (adjust qs) fits = tt
    not_short_within compact fits = tt

    -- the readings
    live_number_lem : live_number_call p ≡ is (live_indices h.capacity s)
    unfolding live_number_spec
    live_number_lem = rw (formed p holds.well_formed_lem, live_number_is eq h then s p w r)

    free_start : free_start_call p ≡ is p.header.start_free_region
    unfolding free_start_spec
    free_start = rw (formed p holds.well_formed_lem)

    -- one call more
    step : (c : Call E) → Holds (c ∷ calls)
    unfolding after history
    step c =
        record {
          well_formed_lem = call_well_formed eq zero_element c p holds.well_formed_lem;
          relates = call_kept eq zero_element h then calls s p w r c holds.well_formed_lem (λ row place. refl);
        }

    -- (i)
    rest_free : (c : Call E) → RestFree eq zero_element h start c calls
    unfolding after
    rest_free (add point code) = λ i l laid left e.
        let q = store_after (add point code ∷ calls) in
        let now = step (add point code) in
        omega (arith, figure_and_live eq zero_element p point code holds.well_formed_lem i l laid left e, live_number_is eq h then (past (add point code ∷ calls)) q (sound q now.well_formed_lem) now.relates)
    rest_free (inc i l) = tt
    rest_free (dec i l) = tt
    rest_free (adjust qs) = tt
    rest_free compact = tt

  module _ (text : List ℕ) (m : Memory E) (accepted : open_call zero_element h text m ≡ outcome done start) where
    begin : Holds []
    unfolding after history
    begin =
        let d = open_done h text m zero_element start accepted in
        record {
          well_formed_lem = opening_well_formed h text m zero_element start accepted;
          relates = subst (Relates eq h then nothing) (sym d.1) (fresh eq zero_element h text m then (open_accepted h text m d.0).enough.points_lent.window_lent);
        }

    run : (calls : List (Call E)) → Holds calls
    run [] = begin
    run (c ∷ calls) = step calls (run calls) c

    unturned : h.internal_rotation ≡ false → (calls : List (Call E)) → EachCall (NotShort eq zero_element h start) calls
    unturned off [] = tt
    unturned off (c ∷ calls) = (not_short calls (run calls) c off, unturned off calls)

    within : (calls : List (Call E)) → EachCall (NotShortWithin eq zero_element h start) calls
    within [] = tt
    within (c ∷ calls) = (not_short_within calls (run calls) c, within calls)

    figures : (calls : List (Call E)) → EachCall (RestFree eq zero_element h start) calls
    figures [] = tt
    figures (c ∷ calls) = (rest_free calls (run calls) c, figures calls)

    -- the list guarantee
    pub guaranteed : (calls : List (Call E)) → Guarantee eq zero_element h start calls
    unfolding point_room
    guaranteed calls =
        let holds = run calls in
        let r = holds.relates in
        record {
          counts = counts calls holds;
          live_below_lem = λ i e. omega (arith, r.live_below_lem i e, r.fits.capacity, (w calls holds).table_within);
          copies_kept = λ i g since out. copies calls holds i g since out ∙ sym ((r.copies i g since).as_then out);
          copies_row = λ exact i g since out sized. whole_copy calls holds i g since out sized ∙ ap (output done) ((r.copies i g since).row exact);
          sum = sum calls holds;
          places_distinct_lem = distinct calls holds;
          places_end_lem = ends calls holds;
          compact_room = λ before e. subst (λ (cs : List (Call E)). (store_after cs).header.start_free_region ≤ live_indices h.capacity (past cs) * point_room h.internal_rotation h.dimensions (h.dimensions / h.shingle_size)) (sym e) (compact_room before (run before));
          float_space = λ off. unturned off calls;
          float_space_within = within calls;
          figures = figures calls;
          live_number_lem = live_number_lem calls holds;
          free_start = free_start calls holds;
        }
