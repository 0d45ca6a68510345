-- What the pass over a hold's list finds: every entry is below a limit, has count 1 and stands there once.
use Rattle.std.specs.Prelude.{◌≡◌, ℕ, ◌+◌, ◌<◌, ◌≤◌, Bool, true, false, cond, not, ◌&&◌, ltb, List, [], ◌∷◌, ◌++◌, length, get_or, ◌==◌, ◌≢◌, nat_lt, slice_index, slice_index_or, slice_set}
use Rattle.std.proofs.Math.Decide.{dec_lt, ℕ_discrete}
use native.Mathlib.Omega.{arith}
use Rattle.std.proofs.Math.Path.{refl, ap}
use Rattle.std.proofs.Common.{sym, ◌∙◌}
use Rattle.std.proofs.Math.Seq.{get_or-set_same, get_or-set_other}
use borrow.Author.Tests.{eq-eqb, eqb-true, lt-ltb, ltb-true}
use Rattle.terms.specs.Below.{both, and_make, fails}
use Rattle.hold_definitions.specs.Listed.{times, every_named, times_self, times_more, times_other, named_at, named_make}

unfoldable pub listed_once : ℕ → List ℕ → List ℕ → Bool
listed_once limit counts xs =
    every_named (λ i. nat_lt i limit && (slice_index counts i == 1 && times i xs == 1)) xs

-- two tests that imply each other are one
pub same_test : (a b : Bool) → (a ≡ true → b ≡ true) → (b ≡ true → a ≡ true) → a ≡ b
same_test true b f g = sym (f refl)
same_test false b f g = sym (fails b (λ e. let z : ◌≡◌ {A = ℕ} 0 1 = let t : false ≡ true = g e in cc in omega arith))

-- the same as a fact
pub record Once (limit : ℕ) (counts xs : List ℕ) (i : ℕ) : Type 0 where
  pub below : i < limit
  pub counted : get_or counts i 0 ≡ 1
  pub once : times i xs ≡ 1

module _ (limit : ℕ) (counts : List ℕ) where
  abbrev test : List ℕ → ℕ → Bool
  test xs i = nat_lt i limit && (slice_index counts i == 1 && times i xs == 1)

  pub listed_sound : (xs : List ℕ) → listed_once limit counts xs ≡ true → (i : ℕ) → 0 < times i xs → Once limit counts xs i
  unfolding listed_once
  listed_sound xs e i h =
      let a = both (nat_lt i limit) (slice_index counts i == 1 && times i xs == 1) (named_at (test xs) xs e i h) in
      let b = both (slice_index counts i == 1) (times i xs == 1) a.1 in
      record { below = ltb-true i limit a.0; counted = eqb-true (slice_index counts i) 1 b.0; once = eqb-true (times i xs) 1 b.1 }

  pub listed_make : (xs : List ℕ) → ((i : ℕ) → 0 < times i xs → Once limit counts xs i) → listed_once limit counts xs ≡ true
  unfolding listed_once
  listed_make xs f =
      named_make (test xs) xs
      (λ i h.
      let o = f i h in
      and_make (nat_lt i limit) (slice_index counts i == 1 && times i xs == 1) (lt-ltb i limit o.below)
      (and_make (slice_index counts i == 1) (times i xs == 1) (eq-eqb (slice_index counts i) 1 o.counted) (eq-eqb (times i xs) 1 o.once)))

-- ---- one entry more

-- what is asked of an entry, with the marks of the entries before it, and the marks with it
unfoldable pub entry_listed : ℕ → List ℕ → List Bool → ℕ → Bool
entry_listed limit counts marks x = nat_lt x limit && (slice_index counts x == 1 && not (slice_index_or marks x false))

unfoldable pub entry_marked : ℕ → List Bool → ℕ → List Bool
entry_marked limit marks x = cond (nat_lt x limit) (slice_set marks x true) marks

-- the entries of a list that are below the limit are marked, and no others
abbrev pub Marks : ℕ → List ℕ → List Bool → Type 0
Marks limit xs marks = (i : ℕ) → i < limit → slice_index_or marks i false ≡ nat_lt 0 (times i xs)

abbrev pub NoMarks : List Bool → Type 0
NoMarks marks = (i : ℕ) → slice_index_or marks i false ≡ false

pub marks_none : (limit : ℕ) (marks : List Bool) → NoMarks marks → Marks limit [] marks
unfolding times
marks_none limit marks f i h = f i

module _ (limit : ℕ) (counts : List ℕ) (xs : List ℕ) (marks : List Bool) (m : Marks limit xs marks) (lent : limit ≤ length marks) (x : ℕ) where
  pub marks_more : Marks limit (xs ++ x ∷ []) (entry_marked limit marks x)
  unfolding entry_marked
  marks_more i h =
      elim (ℕ_discrete i x) [
        | yes e ↦
            let below : x < limit = rw (← e) h in
            rw (e, lt-ltb x limit below, get_or-set_same marks x true false (omega arith), times_more x x xs, times_self x)
            (sym (lt-ltb 0 (times x xs + 1) (omega arith)))
        | no d ↦
            rw (times_more i x xs, times_other x i d)
            (kept (nat_lt x limit) d ∙ m i h ∙ ap (λ (n : ℕ). ltb 0 n) (let z : times i xs ≡ times i xs + 0 = omega arith in z))
      ]
    where
      kept : (b : Bool) → (i ≢ x) → slice_index_or (cond b (slice_set marks x true) marks) i false ≡ slice_index_or marks i false
      kept true d = get_or-set_other marks x i true false d
      kept false d = refl

  -- unmarked, the entry is not listed yet
  new_if : x < limit → slice_index_or marks x false ≡ false → times x xs ≡ 0
  new_if h e =
      elim (dec_lt 0 (times x xs)) [
        | yes l ↦ absurd (let z : ◌≡◌ {A = ℕ} 0 1 = let t : true ≡ false = sym (lt-ltb 0 (times x xs) l) ∙ sym (m x h) ∙ e in cc in omega arith)
        | no g ↦ omega arith
      ]

  not-true : (b : Bool) → not b ≡ true → b ≡ false
  not-true true e = sym e
  not-true false e = refl

  pub listed_more : listed_once limit counts (xs ++ x ∷ []) ≡ (listed_once limit counts xs && entry_listed limit counts marks x)
  unfolding entry_listed
  listed_more =
      same_test (listed_once limit counts (xs ++ x ∷ [])) (listed_once limit counts xs && (nat_lt x limit && (slice_index counts x == 1 && not (slice_index_or marks x false))))
      (λ e.
      let all = listed_sound limit counts (xs ++ x ∷ []) e in
      let self = all x (omega (arith, times_more x x xs, times_self x)) in
      let new : times x xs ≡ 0 = omega (arith, self.once, times_more x x xs, times_self x) in
      and_make (listed_once limit counts xs) (nat_lt x limit && (slice_index counts x == 1 && not (slice_index_or marks x false)))
      (listed_make limit counts xs
      (λ i h.
      let o = all i (omega (arith, times_more i x xs, h)) in
      record { below = o.below; counted = o.counted; once = omega (arith, o.once, times_more i x xs, h) }))
      (and_make (nat_lt x limit) (slice_index counts x == 1 && not (slice_index_or marks x false)) (lt-ltb x limit self.below)
      (and_make (slice_index counts x == 1) (not (slice_index_or marks x false)) (eq-eqb (slice_index counts x) 1 self.counted)
      (rw (m x self.below, new)))))
      (λ e.
      let a = both (listed_once limit counts xs) (nat_lt x limit && (slice_index counts x == 1 && not (slice_index_or marks x false))) e in
      let b = both (nat_lt x limit) (slice_index counts x == 1 && not (slice_index_or marks x false)) a.1 in
      let d = both (slice_index counts x == 1) (not (slice_index_or marks x false)) b.1 in
      let below = ltb-true x limit b.0 in
      let new = new_if below (not-true (slice_index_or marks x false) d.1) in
      listed_make limit counts (xs ++ x ∷ [])
      (λ i h.
      elim (ℕ_discrete i x) [
        | yes q ↦
            record {
              below = rw q below;
              counted = rw q (eqb-true (slice_index counts x) 1 d.0);
              once = rw (q, times_more x x xs, times_self x) (omega (arith, new));
            }
        | no q ↦
            let z = times_other x i q in
            let o = listed_sound limit counts xs a.0 i (omega (arith, times_more i x xs, z, h)) in
            record { below = o.below; counted = o.counted; once = omega (arith, o.once, times_more i x xs, z) }
      ]))
