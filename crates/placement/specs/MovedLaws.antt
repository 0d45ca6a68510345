-- Where a list of moves takes a place.
use Rattle.std.specs.Prelude.{Bool, true, false, cond, List, [], ◌∷◌, ◌++◌, map, ◌≡◌, refl, ℕ, zero, suc, ◌<◌, eqb, length, get_or, set}
use Rattle.std.proofs.Common.{true≢false, sym, ap, subst, ◌∙◌, arith, eq-eqb, ne_eqb, eqb-true, length-set, ext_get_or, get_or-set_same, get_or-set_other}
use Rattle.std.proofs.lemmas.Bool.{false≢true}
use Rattle.std.proofs.Math.Decide.{ℕ_discrete}
use Rattle.std.proofs.lemmas.List.{length-map}
use Rattle.placement.specs.Compaction.{Move, holds, moved}
use Rattle.placement.specs.Order.{Each, Below, Ranked}
use Rattle.placement.specs.Places.{Live, Distinct}

-- the places that moves start from
abbrev pub olds : List Move → List ℕ
olds ms = map (λ (m : Move). m.old) ms

-- what holds of every move holds of the place that a place is moved to
pub moved_each : (P : Move → Type 0) (ms : List Move) (p : ℕ) → Each P ms → holds (olds ms) p ≡ true → P (record { old = p; new = moved ms p })
unfolding holds moved
moved_each P [] p e h = absurd (false≢true h)
moved_each P (m ∷ ms) p e h = go (eqb m.old p) refl h (moved_each P ms p e.1)
  where
    go : (t : Bool) → eqb m.old p ≡ t → cond t true (holds (olds ms) p) ≡ true → (holds (olds ms) p ≡ true → P (record { old = p; new = moved ms p }))
        → P (record { old = p; new = cond t m.new (moved ms p) })
    go true f h ih = subst (λ (q : ℕ). P (record { old = q; new = m.new })) (eqb-true m.old p f) e.0
    go false f h ih = ih h

-- a place that no move has stays
pub unmoved : (ms : List Move) (p : ℕ) → holds (olds ms) p ≡ false → moved ms p ≡ p
unfolding holds moved
unmoved [] p h = refl
unmoved (m ∷ ms) p h = go (eqb m.old p) h (unmoved ms p)
  where
    go : (t : Bool) → cond t true (holds (olds ms) p) ≡ false → (holds (olds ms) p ≡ false → moved ms p ≡ p) → cond t m.new (moved ms p) ≡ p
    go true h ih = absurd (true≢false h)
    go false h ih = ih h

-- places keep their order
pub moved_rank : (ms : List Move) (p q : ℕ) → Ranked ms → holds (olds ms) p ≡ true → holds (olds ms) q ≡ true → p < q → moved ms p < moved ms q
unfolding holds moved
moved_rank [] p q r hp hq h = absurd (false≢true hp)
moved_rank (m ∷ ms) p q r hp hq h = go (eqb m.old p) refl (eqb m.old q) refl hp hq (moved_rank ms p q r.1)
  where
    go : (t : Bool) → eqb m.old p ≡ t → (u : Bool) → eqb m.old q ≡ u → cond t true (holds (olds ms) p) ≡ true → cond u true (holds (olds ms) q) ≡ true
        → (holds (olds ms) p ≡ true → holds (olds ms) q ≡ true → p < q → moved ms p < moved ms q)
        → cond t m.new (moved ms p) < cond u m.new (moved ms q)
    go true e true f hp hq ih = absurd (omega (arith, eqb-true m.old p e, eqb-true m.old q f))
    go true e false f hp hq ih = (moved_each (Below m) ms q r.0 hq).1
    go false e true f hp hq ih = let b : Below m (record { old = p; new = moved ms p }) = moved_each (Below m) ms p r.0 hp in absurd (omega (arith, b.0, eqb-true m.old q f))
    go false e false f hp hq ih = ih hp hq h

-- ---- one move more

moved_other : (ms : List Move) (m : Move) (p : ℕ) → ¬ (m.old ≡ p) → moved (ms ++ m ∷ []) p ≡ moved ms p
unfolding moved
moved_other [] m p other = rw (ne_eqb m.old p other)
moved_other (l ∷ ms) m p other = ap (cond (eqb l.old p) l.new) (moved_other ms m p other)

moved_this : (ms : List Move) (m : Move) → holds (olds ms) m.old ≡ false → moved (ms ++ m ∷ []) m.old ≡ m.new
unfolding moved holds
moved_this [] m h = rw (eq-eqb m.old m.old refl)
moved_this (l ∷ ms) m h = go (eqb l.old m.old) h (moved_this ms m)
  where
    go : (t : Bool) → cond t true (holds (olds ms) m.old) ≡ false → (holds (olds ms) m.old ≡ false → moved (ms ++ m ∷ []) m.old ≡ m.new) → cond t l.new (moved (ms ++ m ∷ []) m.old) ≡ m.new
    go true h ih = absurd (true≢false h)
    go false h ih = ih h

-- `List·getD-map` for an index in range, whatever the default
pub get_d_map : (f : ℕ → ℕ) (l : List ℕ) (i d e : ℕ) → i < length l → get_or (map f l) i d ≡ f (get_or l i e)
get_d_map f [] i d e h = absurd (omega arith)
get_d_map f (x ∷ l) zero d e h = refl
get_d_map f (x ∷ l) (suc i) d e h = get_d_map f l i d e (omega arith)

-- the places of a table after one move more: one place is set
pub places_next : (location : List ℕ) (i : ℕ) (ms : List Move) (m : Move) → Distinct location → Live location i → get_or location i 65535 ≡ m.old → holds (olds ms) m.old ≡ false
    → map (moved (ms ++ m ∷ [])) location ≡ set (map (moved ms) location) i m.new
places_next location i ms m distinct live at new =
    ext_get_or 65535 (map next location) (set (map (moved ms) location) i m.new)
    (length-map location next ∙ sym (length-set (map (moved ms) location) i m.new ∙ length-map location (moved ms)))
    (λ j h. go j (rw (length-map location next) at h) (ℕ_discrete j i))
  where
    next : ℕ → ℕ
    next = moved (ms ++ m ∷ [])

    inside : i < length (map (moved ms) location)
    inside = rw (length-map location (moved ms)) live.listed

    go : (j : ℕ) → j < length location → Dec (j ≡ i) → get_or (map next location) j 65535 ≡ get_or (set (map (moved ms) location) i m.new) j 65535
    go j h (yes same) =
        get_d_map next location j 65535 65535 h
        ∙ ap (λ (n : ℕ). next (get_or location n 65535)) same
        ∙ ap next at
        ∙ moved_this ms m new
        ∙ sym (ap (λ (n : ℕ). get_or (set (map (moved ms) location) i m.new) n 65535) same ∙ get_or-set_same (map (moved ms) location) i m.new 65535 inside)
    go j h (no other) =
        get_d_map next location j 65535 65535 h
        ∙ moved_other ms m (get_or location j 65535)
        (λ e. other (distinct j i (record { listed = h; placed = λ f. live.placed (at ∙ e ∙ f) }) live (sym e ∙ sym at)))
        ∙ sym (get_or-set_other (map (moved ms) location) i j m.new 65535 other ∙ get_d_map (moved ms) location j 65535 65535 h)
