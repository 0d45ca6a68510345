-- Laws of the decisions: what an accepted call may rely on, and what carrying a decision out comes to.
use Rattle.std.specs.Prelude.{ℕ, ◌≤◌, ◌<◌, List, Bool, true, false, cond, ◌&&◌, ◌||◌, ◌≡◌, refl, leb, ltb}
use Rattle.std.proofs.Common.{arith}
use borrow.Author.Tests.{ltb-false, leb-false, eq-eqb, ne_eqb}
use Rattle.terms.specs.Below.{both}
use Rattle.interval_store_manager.specs.declared.IntervalStoreManager.{IntervalStoreManager}
use Rattle.interval_store_manager.specs.Intervals.{is_free}
use Rattle.interval_store_manager.specs.WellFormed.{lent_enough, well_formed}
use Rattle.interval_store_manager.specs.Answers.{Answer, refused, Outcome, outcome}
use Rattle.interval_store_manager.specs.Calls.{Decided, go, refuse, carried_out, taken, change_decided, get_decided, get_spec, release_decided, reading}

pub no_go : {A : Type 0} {n : ℕ} → refuse n ≡ go → A
no_go {A} {n} e = absurd (let z : ◌≡◌ {A = ℕ} 0 1 = cc in omega arith)

checked_go : (k : ℕ) (a b : Bool) → cond a (cond b (refuse k) go) (refuse 1) ≡ go → (a ≡ true) × (b ≡ false)
checked_go k true true e = no_go e
checked_go k true false e = (refl, refl)
checked_go k false b e = no_go e

grown_go : (a b : Bool) → cond a (refuse 13) (cond b go (refuse 1)) ≡ go → (a ≡ false) × (b ≡ true)
grown_go true b e = no_go e
grown_go false true e = (refl, refl)
grown_go false false e = no_go e

neither : (a b : Bool) → (a || b) ≡ false → (a ≡ false) × (b ≡ false)
neither true b e = absurd (let z : ◌≡◌ {A = ℕ} 0 1 = cc in omega arith)
neither false b e = (refl, e)

-- get of a well-formed manager with something free, with nothing free, and of any other
module _ (m : IntervalStoreManager) (ss es : List ℕ) where
  pub get_given : well_formed m ss es ≡ true → (m.last_in_use ≡ 0 → ⊥) → get_spec m ss es ≡ taken m ss es
  unfolding get_spec get_decided
  get_given w d = rw (w, ne_eqb m.last_in_use 0 d)

  pub get_none : well_formed m ss es ≡ true → m.last_in_use ≡ 0 → get_spec m ss es ≡ outcome (refused 9) m ss es
  unfolding get_spec get_decided
  get_none w e = rw (w, eq-eqb m.last_in_use 0 e)

  pub get_ill : well_formed m ss es ≡ false → get_spec m ss es ≡ outcome (refused 1) m ss es
  unfolding get_spec get_decided
  get_ill w = rw w

pub release_go : (m : IntervalStoreManager) (ss es : List ℕ) (i : ℕ) → release_decided m ss es i ≡ go → (well_formed m ss es ≡ true) × ((i < m.capacity) × (is_free m.last_in_use ss es i ≡ false))
unfolding release_decided
release_go m ss es i e =
    let p = checked_go 14 (well_formed m ss es) (leb m.capacity i || is_free m.last_in_use ss es i) e in
    let q = neither (leb m.capacity i) (is_free m.last_in_use ss es i) p.1 in
    (p.0, (leb-false m.capacity i q.0, q.1))

pub change_go : (m : IntervalStoreManager) (ss es : List ℕ) (d : ℕ) → change_decided m ss es d ≡ go → (well_formed m ss es ≡ true) × ((d ≤ 1024) × (lent_enough d ss es ≡ true))
unfolding change_decided
change_go m ss es d e =
    let p = grown_go (ltb 1024 d) (well_formed m ss es && lent_enough d ss es) e in
    let q = both (well_formed m ss es) (lent_enough d ss es) p.1 in
    (q.0, (ltb-false 1024 d p.0, q.1))

-- a decision carried out
pub goes : (d : Decided) (m : IntervalStoreManager) (ss es : List ℕ) (o : Outcome) → d ≡ go → carried_out d m ss es o ≡ o
goes d m ss es o e = rw e

pub refuses : (d : Decided) (n : ℕ) (m : IntervalStoreManager) (ss es : List ℕ) (o : Outcome) → d ≡ refuse n → carried_out d m ss es o ≡ outcome (refused n) m ss es
refuses d n m ss es o e = rw e

-- a reading of a well-formed manager, and of any other
pub read : (m : IntervalStoreManager) (ss es : List ℕ) (a : Answer) → well_formed m ss es ≡ true → a ≡ reading m ss es a
unfolding reading
read m ss es a w = rw w

pub unread : (m : IntervalStoreManager) (ss es : List ℕ) (a : Answer) → well_formed m ss es ≡ false → refused 1 ≡ reading m ss es a
unfolding reading
unread m ss es a w = rw w
