-- What an inc and a dec make of an index's life; `b` says whether the index is the one meant.
use Rattle.std.specs.Prelude.{ℕ, ◌+◌, ◌-◌, ◌<◌, Bool, true, false, cond, ◌≡◌, refl, ltb}
use Rattle.std.proofs.Math.Decide.{dec_lt}
use Rattle.std.proofs.Common.{arith, sym, lt-ltb, le-ltb}
use Rattle.std.proofs.lemmas.Bool.{false≢true}
use Rattle.guarantee.specs.History.{Given, Life, dead, alive, count, is_live, inced_life, deced_life}

module _ {E : Type 0} where
  -- an index that is not live has no count
  pub dead_count : (l : Life E) → is_live l ≡ false → count l ≡ 0
  dead_count dead e = refl
  dead_count (alive a b g) e = absurd (false≢true (sym e))

  pub inced_count : (l : Life E) → 0 < count l → count (inced_life l) ≡ count l + 1
  inced_count dead h = absurd (omega arith)
  inced_count (alive a b g) h = omega arith

  pub inced_live : (b : Bool) (l : Life E) → is_live (cond b (inced_life l) l) ≡ is_live l
  inced_live true dead = refl
  inced_live true (alive x y g) = refl
  inced_live false l = refl

  pub inced_counted : (b : Bool) (l : Life E) → 0 < count l → 0 < count (cond b (inced_life l) l)
  inced_counted true l h = omega (arith, inced_count l h)
  inced_counted false l h = h

  -- live since the same add
  pub inced_since : (b : Bool) (l : Life E) (x y : ℕ) (g : Given E) → cond b (inced_life l) l ≡ alive x y g → (u : ℕ) × (v : ℕ) × (l ≡ alive u v g)
  inced_since true dead x y g e = (x, y, e)
  inced_since true (alive u v f) x y g e = (u, v, cc)
  inced_since false l x y g e = (x, y, e)

  pub deced_count : (l : Life E) → 0 < count l → count (deced_life l) ≡ count l - 1
  deced_count dead h = absurd (omega arith)
  deced_count (alive a b g) h =
      elim (dec_lt a (b + 1)) [ yes p ↦ rw (lt-ltb a (b + 1) p) (omega arith) | no q ↦ rw (le-ltb a (b + 1) (omega arith)) (omega arith) ]

  -- an index lives on where its count was above 1
  pub deced_live : (l : Life E) → is_live (deced_life l) ≡ true → 1 < count l
  deced_live dead h = absurd (false≢true h)
  deced_live (alive a b g) h =
      elim (dec_lt a (b + 1)) [
        | yes p ↦ absurd (false≢true (rw (lt-ltb a (b + 1) p) at h))
        | no q ↦ omega arith
      ]

  pub deced_was_live : (b : Bool) (l : Life E) → is_live (cond b (deced_life l) l) ≡ true → is_live l ≡ true
  deced_was_live true dead h = h
  deced_was_live true (alive x y g) h = refl
  deced_was_live false l h = h

  pub deced_counted : (b : Bool) (l : Life E) → 0 < count l → is_live (cond b (deced_life l) l) ≡ true → 0 < count (cond b (deced_life l) l)
  deced_counted true l h e = omega (arith, deced_count l h, deced_live l e)
  deced_counted false l h e = h

  pub deced_since : (b : Bool) (l : Life E) (x y : ℕ) (g : Given E) → cond b (deced_life l) l ≡ alive x y g → (u : ℕ) × (v : ℕ) × (l ≡ alive u v g)
  deced_since true dead x y g e = (x, y, e)
  deced_since true (alive u v f) x y g e = go (ltb u (v + 1)) e
    where
      go : (t : Bool) → cond t dead (alive u (v + 1) f) ≡ alive x y g → (a : ℕ) × (b : ℕ) × (alive u v f ≡ alive a b g)
      go true q = absurd (let z : ◌≡◌ {A = ℕ} 0 1 = cc in omega arith)
      go false q = (u, v, cc)
  deced_since false l x y g e = (x, y, e)
