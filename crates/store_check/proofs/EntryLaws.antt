-- One more entry of the points' table, and the first place whose row would end past the free start.
use Prim.Native.Nat.{ℕ, ◌+◌, ◌-◌, ◌*◌, ◌/◌, ◌≤◌, ◌<◌}
use native.Mathlib.Nat.{div-le_self, le-div_iff_mul-le}
use native.Mathlib.Numerals.{add-one}
use native.Mathlib.Decide.{dec_lt}
use native.Mathlib.Omega.{arith}
use mathlib.Core.List.{List}
use mathlib.Core.Bool.{Bool, ◌&&◌}
use mathlib.Core.Path.{◌≡◌, sym, ◌∙◌}
use lib.ListN.{get_or}
use lib.Dec.{leb, ltb}
use borrow.Author.Tests.{lt-ltb, le-ltb, le-leb, lt-leb}
use Rattle.terms.specs.Below.{every_below}
use Rattle.store_check.specs.Entries.{place_limit, entry_well, entries_well}

pub entries_more : (i limit : ℕ) (marks counts location : List ℕ) (ok well : Bool) → ok ≡ entries_well i limit marks counts location → well ≡ entry_well limit (get_or marks i 0) (get_or counts i 0) (get_or location i 0) → (ok && well) ≡ entries_well (i + 1) limit marks counts location
unfolding entries_well every_below
entries_more i limit marks counts location ok well e f = rw (add-one i, e, f)

module _ (base dims free : ℕ) where
  -- a row ends by the free start exactly where its place is below the limit
  pub ends_below : 0 < base → (place : ℕ) → leb (place * base + dims) free ≡ ltb place (place_limit base dims free)
  unfolding place_limit
  ends_below some place =
      elim (dec_lt free dims) [
        | yes l ↦ rw (lt-ltb free dims l) (lt-leb (place * base + dims) free (omega arith) ∙ sym (le-ltb place 0 (omega arith)))
        | no g ↦
            rw (le-ltb free dims (omega arith))
            (elim (dec_lt place ((free - dims) / base + 1)) [
              | yes l ↦
                  let ends : place * base ≤ free - dims = (le-div_iff_mul-le some).0 (omega arith) in
                  le-leb (place * base + dims) free (omega arith) ∙ sym (lt-ltb place ((free - dims) / base + 1) l)
              | no h ↦
                  let past : free - dims < place * base = elim (dec_lt (free - dims) (place * base)) [
                    | yes u ↦ u
                    | no v ↦ let low : place ≤ (free - dims) / base = (le-div_iff_mul-le some).1 (omega arith) in absurd (omega arith)
                  ] in
                  lt-leb (place * base + dims) free (omega arith) ∙ sym (le-ltb place ((free - dims) / base + 1) (omega arith))
            ])
      ]

  pub limit_most : 0 < dims → free ≤ 16384 → place_limit base dims free ≤ 16384
  unfolding place_limit
  limit_most some h =
      elim (dec_lt free dims) [
        | yes l ↦ rw (lt-ltb free dims l) (omega arith)
        | no g ↦ rw (le-ltb free dims (omega arith)) (omega (arith, div-le_self (free - dims) base))
      ]
