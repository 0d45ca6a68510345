-- The live places in order, and the steps over them: what the scan of places from 0 upward meets.
use Rattle.std.proofs.Math.Bool.{Bool, true, false}
use Rattle.std.specs.Prelude.{cond, ◌≡◌, ltb, eqb, length, get_or}
use Rattle.std.proofs.Common.{true≢false, sym, ap, subst, ◌∙◌, le_trans, div-le_self, arith, eq-eqb, eqb-true, lt-ltb, le-ltb, ltb-true, ltb-false, length-append}
use Rattle.std.proofs.lemmas.Bool.{false≢true, eqb-false}
use mathlib.Core.List.{List, [], ◌∷◌, ◌++◌}
use Rattle.std.proofs.Math.Logic.{inl}
use Rattle.std.proofs.Math.Path.{refl}
use Prim.Native.Nat.{ℕ, zero, suc, ◌+◌, ◌*◌, ◌/◌, ◌^◌, ◌≤◌, ◌<◌}
use Rattle.std.proofs.Math.Nat.{dvd-zero, le_of_dvd}
use Rattle.std.proofs.Math.Decide.{ℕ_discrete}
use Rattle.placement.specs.Compaction.{nothing_written, holds, live_below, live_count}
use Rattle.placement.specs.Order.{Each, Rising, each_map, each_last, rising_last}
use Rattle.placement.specs.Places.{Shaped, WellPlaced}
use Rattle.placement.proofs.ProgressLaws.{Sound, step_sound}
use Rattle.placement.specs.Steps.{Progress, step, steps_from, steps}

-- a table holds what stands in it
pub holds_at : (location : List ℕ) (i d : ℕ) → i < length location → holds location (get_or location i d) ≡ true
unfolding holds
holds_at [] i d h = absurd (omega arith)
holds_at (p ∷ ps) zero d h = rw (eq-eqb p p refl)
holds_at (p ∷ ps) (suc i) d h = go (eqb p (get_or ps i d)) (holds_at ps i d (omega arith))
  where
    go : (t : Bool) → holds ps (get_or ps i d) ≡ true → cond t true (holds ps (get_or ps i d)) ≡ true
    go true e = refl
    go false e = e

-- and nothing else
pub holds_index : (location : List ℕ) (p d : ℕ) → holds location p ≡ true → (i : ℕ) × (i < length location) × (get_or location i d ≡ p)
unfolding holds
holds_index [] p d h = absurd (false≢true h)
holds_index (q ∷ ps) p d h = go (eqb q p) refl h (holds_index ps p d)
  where
    Found : List ℕ → Type 0
    Found l = (i : ℕ) × (i < length l) × (get_or l i d ≡ p)

    go : (t : Bool) → eqb q p ≡ t → cond t true (holds ps p) ≡ true → (holds ps p ≡ true → Found ps) → Found (q ∷ ps)
    go true e h f = (0, omega arith, eqb-true q p e)
    go false e h f = let r = f h in (suc r.0, omega (arith, r.1), r.2)

pub holds_none : (location : List ℕ) (p d : ℕ) → ((i : ℕ) → i < length location → ¬ (get_or location i d ≡ p)) → holds location p ≡ false
holds_none location p d h = go (holds location p) refl
  where
    go : (t : Bool) → holds location p ≡ t → t ≡ false
    go true e = let r = holds_index location p d e in absurd (h r.0 r.1 r.2)
    go false e = refl

holds_last : (ps : List ℕ) (p q : ℕ) → holds (ps ++ p ∷ []) q ≡ cond (holds ps q) true (eqb p q)
unfolding holds
holds_last [] p q = go (eqb p q)
  where
    go : (t : Bool) → cond t true false ≡ t
    go true = refl
    go false = refl
holds_last (o ∷ ps) p q = go (eqb o q) (holds_last ps p q)
  where
    go : (t : Bool) → holds (ps ++ p ∷ []) q ≡ cond (holds ps q) true (eqb p q) → cond t true (holds (ps ++ p ∷ []) q) ≡ cond (cond t true (holds ps q)) true (eqb p q)
    go true e = refl
    go false e = e

module _ (location : List ℕ) where
  -- a scanned place is live or not
  pub live_next : (p : ℕ) → holds location p ≡ true → live_below location (suc p) ≡ live_below location p ++ p ∷ []
  unfolding live_below
  live_next p e = rw e

  pub live_none : (p : ℕ) → holds location p ≡ false → live_below location (suc p) ≡ live_below location p
  unfolding live_below
  live_none p e = rw e

  live_below_lem : (q : ℕ) → Each (λ p. p < q) (live_below location q)
  unfolding live_below
  live_below_lem zero = tt
  live_below_lem (suc q) = go (holds location q) (each_map (λ p h. omega arith) (live_below location q) (live_below_lem q))
    where
      go : (t : Bool) → Each (λ p. p < suc q) (live_below location q) → Each (λ p. p < suc q) (cond t (live_below location q ++ q ∷ []) (live_below location q))
      go true e = each_last (λ p. p < suc q) (live_below location q) q e (omega arith)
      go false e = e

  pub live_rising : (q : ℕ) → Rising 0 (live_below location q)
  unfolding live_below
  live_rising zero = tt
  live_rising (suc q) = go (holds location q) (live_rising q)
    where
      go : (t : Bool) → Rising 0 (live_below location q) → Rising 0 (cond t (live_below location q ++ q ∷ []) (live_below location q))
      go true r = rising_last 0 (live_below location q) q r (live_below_lem q) (omega arith)
      go false r = r

  -- every live place below q is met
  pub live_met : (q p : ℕ) → p < q → holds location p ≡ true → holds (live_below location q) p ≡ true
  unfolding live_below
  live_met zero p h e = absurd (omega arith)
  live_met (suc q) p h e = go (ℕ_discrete p q) (holds location q) refl (live_met q p)
    where
      met : Bool → Bool
      met t = holds (cond t (live_below location q ++ q ∷ []) (live_below location q)) p

      go : Dec (p ≡ q) → (t : Bool) → holds location q ≡ t → (p < q → holds location p ≡ true → holds (live_below location q) p ≡ true) → met t ≡ true
      go (yes same) true f ih = holds_last (live_below location q) q p ∙ rw (eq-eqb q p (sym same)) (either (holds (live_below location q) p))
        where
          either : (t : Bool) → cond t true true ≡ true
          either true = refl
          either false = refl
      go (yes same) false f ih = absurd (true≢false (sym e ∙ ap (holds location) same ∙ f))
      go (no other) true f ih = holds_last (live_below location q) q p ∙ rw (ih (omega arith) e)
      go (no other) false f ih = ih (omega arith) e

-- how many points have a place below q
below : List ℕ → ℕ → ℕ
below [] q = 0
below (p ∷ ps) q = cond (ltb p q) (suc (below ps q)) (below ps q)

below_next : (location : List ℕ) (q : ℕ) → below location q + cond (holds location q) 1 0 ≤ below location (suc q)
unfolding below holds
below_next [] q = omega arith
below_next (p ∷ ps) q = go (ltb p q) refl (eqb p q) refl (below_next ps q)
  where
    go : (t : Bool) → ltb p q ≡ t → (u : Bool) → eqb p q ≡ u → below ps q + cond (holds ps q) 1 0 ≤ below ps (suc q)
        → cond t (suc (below ps q)) (below ps q) + cond (cond u true (holds ps q)) 1 0 ≤ cond (ltb p (suc q)) (suc (below ps (suc q))) (below ps (suc q))
    go true e true f h = absurd (omega (arith, ltb-true p q e, eqb-true p q f))
    go true e false f h = rw (lt-ltb p (suc q) (omega (arith, ltb-true p q e))) (omega arith)
    go false e true f h = rw (lt-ltb p (suc q) (omega (arith, eqb-true p q f))) (omega arith)
    go false e false f h = rw (le-ltb p (suc q) (after (ltb-false p q e) (eqb-false p q f))) h
      where
        after : q ≤ p → ¬ (p ≡ q) → suc q ≤ p
        after a b = omega arith

below_count : (location : List ℕ) (q : ℕ) → q ≤ 65535 → below location q ≤ live_count location
unfolding below live_count
below_count [] q h = omega arith
below_count (p ∷ ps) q h = go (ltb p q) refl (eqb p 65535) refl (below_count ps q h)
  where
    go : (t : Bool) → ltb p q ≡ t → (u : Bool) → eqb p 65535 ≡ u → below ps q ≤ live_count ps → cond t (suc (below ps q)) (below ps q) ≤ cond u (live_count ps) (suc (live_count ps))
    go true e true f l = absurd (omega (arith, ltb-true p q e, eqb-true p 65535 f))
    go true e false f l = omega arith
    go false e true f l = l
    go false e false f l = omega arith

-- the scan meets no more places than there are points
pub live_count_lem : (location : List ℕ) (q : ℕ) → q ≤ 65535 → length (live_below location q) ≤ live_count location
unfolding live_below
live_count_lem location q h = le_trans (counted q) (below_count location q h)
  where
    counted : (q : ℕ) → length (live_below location q) ≤ below location q
    counted zero = omega arith
    counted (suc q) = go (holds location q) refl (counted q)
      where
        go : (t : Bool) → holds location q ≡ t → length (live_below location q) ≤ below location q → length (live_below location (suc q)) ≤ below location (suc q)
        go true e l = rw (live_next location q e, length-append) (omega (arith, rw e at (below_next location q)))
        go false e l = rw (live_none location q e) (omega (arith, below_next location q))

module _ {E : Type 0} (zero_element : E) (dims base : ℕ) (rotation : Bool) (elements : List E) where
  steps_last : (s : Progress E) (ps : List ℕ) (p : ℕ) → steps_from zero_element dims base rotation elements s (ps ++ p ∷ []) ≡ step zero_element dims base rotation elements (steps_from zero_element dims base rotation elements s ps) p
  unfolding steps_from
  steps_last s [] p = refl
  steps_last s (q ∷ ps) p = steps_last (step zero_element dims base rotation elements s q) ps p

  -- at a live place one step more is made
  pub steps_next : (ps : List ℕ) (p : ℕ) → steps zero_element dims base rotation elements (ps ++ p ∷ []) ≡ step zero_element dims base rotation elements (steps zero_element dims base rotation elements ps) p
  unfolding steps
  steps_next ps p = steps_last (record { written = nothing_written; read = 0 }) ps p

  module _ (limit : ℕ) (shaped : Shaped dims base) (small : limit + dims < 2 ^ 64) (inside : limit ≤ length elements) where
    -- before the first
    none_sound : Sound dims base rotation elements limit [] 0 (steps zero_element dims base rotation elements [])
    unfolding steps steps_from
    none_sound =
        record {
          behind = omega arith;
          inside = omega arith;
          next = omega (arith, le_of_dvd shaped.some shaped.whole);
          whole_free = dvd-zero base;
          whole_read = dvd-zero base;
          counted = refl;
          aligned = λ e. dvd-zero dims;
          room = omega arith;
          started = inl refl;
          last = 0;
          last_next = omega arith;
          last_free = omega arith;
          last_same = refl;
          olds_met = refl;
          kept = tt;
          ranked = tt;
        }

    -- no step is made at a place that is not live
    passed : (ps : List ℕ) (least : ℕ) (s : Progress E) → Sound dims base rotation elements limit ps least s → Sound dims base rotation elements limit ps (suc least) s
    passed ps least s sound =
        record {
          behind = sound.behind;
          inside = sound.inside;
          next = omega (arith, sound.next);
          whole_free = sound.whole_free;
          whole_read = sound.whole_read;
          counted = sound.counted;
          aligned = sound.aligned;
          room = sound.room;
          started = sound.started;
          last = sound.last;
          last_next = omega (arith, sound.last_next);
          last_free = sound.last_free;
          last_same = sound.last_same;
          olds_met = sound.olds_met;
          kept =
              each_map
              (λ m k. record { ends = k.ends; same = k.same; same_turn = k.same_turn; older = omega (arith, k.older) })
              s.written.moves
              sound.kept;
          ranked = sound.ranked;
        }

    -- the scan up to place q, where every live place that it meets ends by `limit`
    scan_sound : (location : List ℕ) (q : ℕ) → ((p : ℕ) → p < q → holds location p ≡ true → p * base + dims ≤ limit)
        → Sound dims base rotation elements limit (live_below location q) q (steps zero_element dims base rotation elements (live_below location q))
    unfolding live_below
    scan_sound location zero ends = none_sound
    scan_sound location (suc q) ends = go (holds location q) refl (scan_sound location q (λ p h. ends p (omega arith)))
      where
        Scanned : List ℕ → ℕ → Type 0
        Scanned ps least = Sound dims base rotation elements limit ps least (steps zero_element dims base rotation elements ps)

        go : (t : Bool) → holds location q ≡ t → Scanned (live_below location q) q → Scanned (cond t (live_below location q ++ q ∷ []) (live_below location q)) (suc q)
        go true e sound =
            rw (steps_next (live_below location q) q)
            (step_sound zero_element dims base rotation elements limit shaped small inside (live_below location q) q (steps zero_element dims base rotation elements (live_below location q)) sound q (omega arith) (ends q (omega arith) e))
        go false e sound = passed (live_below location q) q (steps zero_element dims base rotation elements (live_below location q)) sound

  -- on a store that is well placed, up to the last place that a point can have
  module _ (location : List ℕ) (free : ℕ) (well : WellPlaced dims base location free (length elements)) where
    -- every place that the scan meets is that of a point
    met_ends : (p : ℕ) → p < free / base → holds location p ≡ true → p * base + dims ≤ free
    met_ends p h e =
        let found = holds_index location p 65535 e in
        let below : p < 65535 = omega (arith, div-le_self free base, well.small) in
        subst (λ (n : ℕ). n * base + dims ≤ free) found.2
        (well.ends found.0 (record { listed = found.1; placed = λ q. omega (arith, sym found.2 ∙ q) }))

    pub well_sound : (q : ℕ) → q ≤ free / base → Sound dims base rotation elements free (live_below location q) q (steps zero_element dims base rotation elements (live_below location q))
    well_sound q h =
        scan_sound free well.shaped (omega (arith, well.small)) well.inside location q
        (λ p k. met_ends p (omega arith))
