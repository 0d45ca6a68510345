-- 'Each probe's reading is Measured with a float, Estimated with a float, or Absent.' A set is a list of them, one a probe; the
-- element in place of the float is a parameter.
use Rattle.std.specs.Prelude.{ℕ, zero, suc, ◌+◌, Bool, true, false, ◌||◌, List, [], ◌∷◌, ltb}
use Rattle.float_bits.specs.Words.{word_of}
use Rattle.probes_definitions.specs.declared.Reading.{Reading}
use Rattle.probes_definitions.specs.declared.Reading.TheVariants as at

pub data ProbeReading (E : Type 0) : Type 0 where
  measured : E → ProbeReading E
  estimated : E → ProbeReading E
  absent : ProbeReading E

module _ {E : Type 0} where
  -- 'Absent repeats the probe's last stored float; Estimated is stored like Measured'
  abbrev pub stored : ProbeReading E → E → E
  stored (measured x) last = x
  stored (estimated x) last = x
  stored absent last = last

  -- 'but tallied for its probe'
  abbrev pub estimates : ProbeReading E → ℕ
  estimates (measured x) = 0
  estimates (estimated x) = 1
  estimates absent = 0

  abbrev pub is_absent : ProbeReading E → Bool
  is_absent (measured x) = false
  is_absent (estimated x) = false
  is_absent absent = true

  unfoldable pub any_absent : List (ProbeReading E) → Bool
  any_absent [] = false
  any_absent (r ∷ rs) = is_absent r || any_absent rs

  -- the set as it is stored, after the last floats
  unfoldable pub filled : List (ProbeReading E) → List E → List E
  filled [] last = []
  filled (r ∷ rs) [] = []
  filled (r ∷ rs) (x ∷ last) = stored r x ∷ filled rs last

  -- the tallies with the estimates of a set
  unfoldable pub tallied : List (ProbeReading E) → List ℕ → List ℕ
  tallied [] ts = ts
  tallied (r ∷ rs) [] = []
  tallied (r ∷ rs) (t ∷ ts) = (t + estimates r) ∷ tallied rs ts

  -- a reading as a kind and an element, where enums cannot go: 0 Measured, 1 Estimated, 2 Absent, whose element is not looked at
  abbrev pub of_kind : ℕ → E → ProbeReading E
  of_kind zero x = measured x
  of_kind (suc zero) x = estimated x
  of_kind (suc (suc k)) x = absent

  unfoldable pub of_kinds : List ℕ → List E → List (ProbeReading E)
  of_kinds [] xs = []
  of_kinds (k ∷ ks) [] = []
  of_kinds (k ∷ ks) (x ∷ xs) = of_kind k x ∷ of_kinds ks xs

-- a number above n: no reading has a kind above 2
unfoldable pub any_above : ℕ → List ℕ → Bool
any_above n [] = false
any_above n (k ∷ ks) = ltb n k || any_above n ks

-- the reading of a float: its word is stored, and that of any NaN is 0x7fc00000
abbrev pub of_float : Reading → ProbeReading ℕ
of_float (at.Measured x) = measured (word_of x)
of_float (at.Estimated x) = estimated (word_of x)
of_float at.Absent = absent

unfoldable pub of_floats : List Reading → List (ProbeReading ℕ)
of_floats [] = []
of_floats (r ∷ rs) = of_float r ∷ of_floats rs
