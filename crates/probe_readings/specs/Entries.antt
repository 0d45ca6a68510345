-- An array written entry by entry, and the entries of a filled set and of its tallies.
use Prim.Native.Nat.{ℕ, zero, suc, ◌+◌, ◌-◌, ◌≤◌, ◌<◌}
use Rattle.std.proofs.Common.{add-one, arith, sym, ap, ◌∙◌, take-suc, take-suc-set, take_all, take-add, drop_at, length-take-le}
use mathlib.Core.List.{List, [], ◌∷◌}
use Rattle.std.specs.Prelude.{◌≡◌, length, get_or, take, drop, set}
use Rattle.std.proofs.Math.Path.{refl}
use Rattle.probes_definitions.specs.declared.Reading.{Reading}
use Rattle.probes_definitions.specs.Readings.{stored, filled, of_kind, of_kinds}
use Rattle.probe_readings.specs.Kinds.{kind_of, word_in, kinds_of, words_of, estimate_of, tallied_kinds}

-- ---- one turn: `whole` is what the array becomes

pub written_more : (whole out : List ℕ) (k v : ℕ) → k < length whole → k < length out → v ≡ get_or whole k 0 → take k out ≡ take k whole → take (k + 1) (set out k v) ≡ take (k + 1) whole
written_more whole out k v h g e f = rw (add-one k, take-suc-set out k v g, take-suc whole k 0 h, e, f)

pub written_all : (whole out : List ℕ) (k : ℕ) → length whole ≤ k → length out ≤ k → take k out ≡ take k whole → out ≡ whole
written_all whole out k h g e = sym (take_all k out g) ∙ e ∙ take_all k whole h

-- ---- entries

pub filled_at : (ks ws last : List ℕ) (i : ℕ) → i < length ks → i < length ws → i < length last → get_or (filled (of_kinds ks ws) last) i 0 ≡ stored (of_kind (get_or ks i 0) (get_or ws i 0)) (get_or last i 0)
unfolding filled of_kinds
filled_at [] ws last i h g f = absurd (omega arith)
filled_at (k ∷ ks) [] last i h g f = absurd (omega arith)
filled_at (k ∷ ks) (w ∷ ws) [] i h g f = absurd (omega arith)
filled_at (k ∷ ks) (w ∷ ws) (x ∷ last) zero h g f = refl
filled_at (k ∷ ks) (w ∷ ws) (x ∷ last) (suc i) h g f = filled_at ks ws last i (omega arith) (omega arith) (omega arith)

pub tallied_entry : (ks ts : List ℕ) (i : ℕ) → i < length ks → i < length ts → get_or (tallied_kinds ks ts) i 0 ≡ get_or ts i 0 + estimate_of (get_or ks i 0)
unfolding tallied_kinds
tallied_entry [] ts i h g = absurd (omega arith)
tallied_entry (k ∷ ks) [] i h g = absurd (omega arith)
tallied_entry (k ∷ ks) (t ∷ ts) zero h g = refl
tallied_entry (k ∷ ks) (t ∷ ts) (suc i) h g = tallied_entry ks ts i (omega arith) (omega arith)

pub tallied_long : (ks ts : List ℕ) → length (tallied_kinds ks ts) ≡ length ts
unfolding tallied_kinds
tallied_long [] ts = refl
tallied_long (k ∷ ks) [] = refl
tallied_long (k ∷ ks) (t ∷ ts) = ap suc (tallied_long ks ts)

-- d is what the logic reads past the end of an array of readings
module _ (d : Reading) where
  pub kinds_at : (rs : List Reading) (i : ℕ) → i < length rs → get_or (kinds_of rs) i 0 ≡ kind_of (get_or rs i d)
  unfolding kinds_of
  kinds_at [] i h = absurd (omega arith)
  kinds_at (r ∷ rs) zero h = refl
  kinds_at (r ∷ rs) (suc i) h = kinds_at rs i (omega arith)

  pub words_at : (rs : List Reading) (i : ℕ) → i < length rs → get_or (words_of rs) i 0 ≡ word_in (get_or rs i d)
  unfolding words_of
  words_at [] i h = absurd (omega arith)
  words_at (r ∷ rs) zero h = refl
  words_at (r ∷ rs) (suc i) h = words_at rs i (omega arith)

-- ---- the last eight of a window, as a part of it

pub last_part : (dims : ℕ) (window : List ℕ) → 8 ≤ dims → dims ≤ length window → take (dims - (dims - 8)) (drop (dims - 8) window) ≡ drop (dims - 8) (take dims window)
last_part dims window h g =
    let from = dims - 8 in
    let eight : dims - from ≡ 8 = omega arith in
    let whole : from + 8 ≡ dims = omega arith in
    ap (λ (n : ℕ). take n (drop from window)) eight
    ∙ sym (drop_at (take from window) (take 8 (drop from window)) from (length-take-le from window (omega arith)))
    ∙ ap (λ (xs : List ℕ). drop from xs) (sym (take-add from 8 window))
    ∙ ap (λ (n : ℕ). drop from (take n window)) whole
