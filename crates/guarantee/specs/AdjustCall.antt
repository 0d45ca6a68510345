-- Adjust keeps the invariant: pair by pair, up to the refused one.
use Rattle.std.specs.Prelude.{ℕ, suc, ◌+◌, Bool, cond, ◌≡◌, length, take}
use Rattle.std.proofs.Common.{arith, sym, ap, take_all}
use Rattle.std.proofs.Math.Bool.{true, false}
use mathlib.Core.List.{List, [], ◌∷◌, ◌++◌}
use Rattle.std.proofs.Math.Path.{refl, subst}
use Rattle.std.proofs.Math.Dec.{eqb}
use Rattle.interval_store_manager.specs.Calls.{Decided, go, refuse}
use Rattle.labels.specs.Decisions.{none}
use Rattle.store_definitions.specs.declared.Shape.{Shape}
use Rattle.store_definitions.specs.Memory.{PointStore}
use Rattle.store_definitions.specs.Answers.{Answer, done, refused_after, Outcome}
use Rattle.store_definitions.specs.Decisions.{touch_decided}
use Rattle.store_definitions.specs.Counting.{Pairing, inc_test, dec_test, incremented, decremented, pair_decided, pair_done, unless_refused, adjust_from}
use Rattle.store_laws.specs.Sound.{Sound}
use Rattle.store_laws.specs.DecisionLaws.{both_go, touch_go}
use Rattle.store_laws.specs.CountingLaws.{inc_accepted, pair_accepted}
use Rattle.guarantee.specs.History.{Given, History, Change, inced, deced, changed, changed_by, standing, pair_changes, pairs_changes}
use Rattle.guarantee.specs.Relates.{Relates}
use Rattle.guarantee.specs.CountCalls.{inc_kept, dec_kept}

changed_append : {E : Type 0} (g : Given E) (a b : List Change) (s : History E) → changed_by g (a ++ b) s ≡ changed_by g b (changed_by g a s)
unfolding changed_by
changed_append g [] b s = refl
changed_append g (c ∷ cs) b s = changed_append g cs b (changed g c s)

-- how an adjust from pair `before` on ends: with all its pairs standing, or refused after j of them
pub data Ended (before : ℕ) (qs : List Pairing) : ℕ → Answer → Type 0 where
  all : Ended before qs (length qs) done
  some : (j n : ℕ) → Ended before qs j (refused_after n (before + j))

later : (before : ℕ) (q : Pairing) (qs : List Pairing) (j : ℕ) (a : Answer) → Ended (suc before) qs j a → Ended before (q ∷ qs) (suc j) a
later before q qs j a all = all
later before q qs j a (some k n) =
    subst (λ (x : ℕ). Ended before (q ∷ qs) (suc k) (refused_after n x)) (omega arith) (some (suc k) n)

-- the pairs that stand by the answer
pub standing_is : (qs : List Pairing) (j : ℕ) (a : Answer) → Ended 0 qs j a → standing a qs ≡ take j qs
standing_is qs j a all = sym (take_all (length qs) qs (omega arith))
standing_is qs j a (some k n) = let e : 0 + k ≡ k = omega arith in ap (λ (x : ℕ). take x qs) e

module _ {E : Type 0} (eq : E → E → Bool) (h : Shape) (then : Given E → PointStore E) (g : Given E) where
  abbrev pub Kept : ℕ → List Pairing → History E → Outcome E → Type 0
  Kept before qs s o =
      (j : ℕ) × Ended before qs j o.answer × Relates eq h then (changed_by g (pairs_changes (take j qs)) s) o.after

  -- an accepted inc and an accepted dec
  pub inc_accepted_kept : (s : History E) (p : PointStore E) (i l : ℕ) → Sound p → Relates eq h then s p → inc_test p i l ≡ go → Relates eq h then (changed g (inced i) s) (incremented p i l)
  unfolding inc_test
  inc_accepted_kept s p i l w r e =
      let t = touch_go p i (both_go (touch_decided p i) _ e).0 in
      inc_kept eq h then s p w r g i t.0 t.1 l

  pub dec_accepted_kept : (s : History E) (p : PointStore E) (i l : ℕ) → Sound p → Relates eq h then s p → dec_test p i l ≡ go → Relates eq h then (changed g (deced i) s) (decremented p i l)
  unfolding dec_test
  dec_accepted_kept s p i l w r e =
      let t = touch_go p i (both_go (touch_decided p i) _ e).0 in
      dec_kept eq h then s p w r g i t.0 t.1 l

  -- an accepted pair
  pair_kept : (s : History E) (p : PointStore E) (q : Pairing) → Sound p → Relates eq h then s p → eqb q.insert_index none ≡ false → pair_decided p q ≡ go → Relates eq h then (changed_by g (pair_changes q) s) (pair_done p q)
  unfolding pair_decided pair_done pair_changes changed_by
  pair_kept s p q w r f e =
      let a = both_go (inc_test p q.insert_index q.insert_label) _ e in
      rw f
      (split (eqb q.delete_index none) (inc_accepted p q.insert_index q.insert_label w a.0) (inc_accepted_kept s p q.insert_index q.insert_label w r a.0) a.1)
    where
      u : PointStore E
      u = incremented p q.insert_index q.insert_label

      split : (b : Bool) → Sound u → Relates eq h then (changed g (inced q.insert_index) s) u → cond b go (dec_test u q.delete_index q.delete_label) ≡ go
          → Relates eq h then (changed_by g (cond b [] (deced q.delete_index ∷ [])) (changed g (inced q.insert_index) s)) (cond b u (decremented u q.delete_index q.delete_label))
      split true w r d = r
      split false w r d = dec_accepted_kept (changed g (inced q.insert_index) s) u q.delete_index q.delete_label w r d

  one_more : (before : ℕ) (q : Pairing) (qs : List Pairing) (s : History E) (o : Outcome E) → Kept (suc before) qs (changed_by g (pair_changes q) s) o → Kept before (q ∷ qs) s o
  unfolding pairs_changes
  one_more before q qs s o k =
      (suc k.0, later before q qs k.0 o.answer k.1, rw (changed_append g (pair_changes q) (pairs_changes (take k.0 qs)) s) k.2)

  refused_pair : (d : Decided) (before : ℕ) (q : Pairing) (qs : List Pairing) (s : History E) (p : PointStore E) → Relates eq h then s p
      → (d ≡ go → Kept (suc before) qs (changed_by g (pair_changes q) s) (adjust_from (suc before) qs (pair_done p q)))
      → Kept before (q ∷ qs) s (unless_refused d before p (adjust_from (suc before) qs (pair_done p q)))
  unfolding pairs_changes changed_by
  refused_pair go before q qs s p r f = one_more before q qs s _ (f refl)
  refused_pair (refuse n) before q qs s p r f = (0, subst (λ (k : ℕ). Ended before (q ∷ qs) 0 (refused_after n k)) (omega arith) (some 0 n), r)

  -- 'Insert index none: the pair is skipped.'
  skipped : (q : Pairing) → eqb q.insert_index none ≡ true → pair_changes q ≡ []
  unfolding pair_changes
  skipped q e = rw e

  pub pairs_kept : (before : ℕ) (qs : List Pairing) (s : History E) (p : PointStore E) → Sound p → Relates eq h then s p → Kept before qs s (adjust_from before qs p)
  unfolding adjust_from changed_by pairs_changes
  pairs_kept before [] s p w r = (0, all, r)
  pairs_kept before (q ∷ qs) s p w r =
      split (eqb q.insert_index none) refl (pairs_kept (suc before) qs s p w r)
      (λ f e. pairs_kept (suc before) qs (changed_by g (pair_changes q) s) (pair_done p q) (pair_accepted p q w e) (pair_kept s p q w r f e))
    where
      split : (b : Bool) → eqb q.insert_index none ≡ b → Kept (suc before) qs s (adjust_from (suc before) qs p)
          → (eqb q.insert_index none ≡ false → pair_decided p q ≡ go → Kept (suc before) qs (changed_by g (pair_changes q) s) (adjust_from (suc before) qs (pair_done p q)))
          → Kept before (q ∷ qs) s (cond b (adjust_from (suc before) qs p) (unless_refused (pair_decided p q) before p (adjust_from (suc before) qs (pair_done p q))))
      split true e k f = one_more before q qs s (adjust_from (suc before) qs p) (subst (λ (cs : List Change). Kept (suc before) qs (changed_by g cs s) (adjust_from (suc before) qs p)) (sym (skipped q e)) k)
      split false e k f = refused_pair (pair_decided p q) before q qs s p r (f e)
