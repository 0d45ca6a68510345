-- Index lists, of a store that is known to be well-formed.
use Prim.Native.Nat.{ℕ, zero, suc, ◌+◌, ◌*◌, ◌%◌, ◌≤◌, ◌<◌}
use Rattle.std.proofs.Math.Nat.{le_refl}
use Rattle.std.proofs.Common.{arith, ap, ap₂}
use Rattle.std.specs.Prelude.{Bool, ◌≡◌, length, ltb}
use Rattle.std.proofs.Math.Bool.{true, false, cond}
use mathlib.Core.List.{List, [], ◌∷◌, map}
use Rattle.std.proofs.Math.Path.{refl}
use borrow.Author.Tests.{lt-ltb, le-ltb, eq-eqb, ne_eqb, ltb-true}
use Rattle.terms.specs.Below.{both, and_make}
use Rattle.store_definitions.specs.declared.Store.{Store}
use Rattle.store_definitions.specs.Memory.{PointStore}
use Rattle.store_definitions.specs.Answers.{done, refused, output}
use Rattle.store_definitions.specs.Parts.{base_of, extra_of}
use Rattle.store_definitions.specs.Decisions.{form_decided}
use Rattle.store_definitions.specs.IndexLists.{value_limit, values_below, index_of, up_to, next_values, index_list_decided, indices_written, missing_indices_spec, next_indices_spec}
use Rattle.store_definitions.specs.WellFormed.{well_formed}
use Rattle.row_readings.specs.Shingled.{Shingled, base_within, turn_room, turn_entry}

-- where value 0 stands, and every other as far after it
pub record FirstIndex (s : Store) (look_ahead first : ℕ) : Type 0 where
  pub room : first + value_limit s ≤ s.dimensions
  pub entry : (v : ℕ) → v < value_limit s → first + v ≡ index_of s look_ahead v

-- a well-formed store lists so
module _ {E : Type 0} (p : PointStore E) (look_ahead : ℕ) where
  pub missing_checked : (values out : List ℕ) → well_formed p ≡ true → indices_written p.header look_ahead values out ≡ missing_indices_spec p look_ahead values out
  unfolding missing_indices_spec form_decided
  missing_checked values out e = rw e

  pub next_checked : (out : List ℕ) → well_formed p ≡ true → indices_written p.header look_ahead (next_values p.header) out ≡ next_indices_spec p look_ahead out
  unfolding next_indices_spec
  next_checked out e = missing_checked (next_values p.header) out e

-- 0 to n − 1: each below n, and n of them
module _ (limit : ℕ) where
  up_to_below : (n : ℕ) (rest : List ℕ) → n ≤ limit → values_below limit rest ≡ true → values_below limit (up_to n rest) ≡ true
  unfolding up_to values_below
  up_to_below zero rest h e = e
  up_to_below (suc n) rest h e = up_to_below n (n ∷ rest) (omega arith) (and_make _ _ (lt-ltb n limit (omega arith)) e)

up_to_length : (n : ℕ) (rest : List ℕ) → length (up_to n rest) ≡ n + length rest
unfolding up_to
up_to_length zero rest = omega arith
up_to_length (suc n) rest = omega (arith, up_to_length n (n ∷ rest))

pub up_to_count : (n : ℕ) → length (up_to n []) ≡ n
up_to_count n = omega (arith, up_to_length n [])

module _ (s : Store) (shingled : Shingled s) where
  pub next_below : values_below (value_limit s) (up_to (base_of s) []) ≡ true
  unfolding value_limit values_below
  next_below = up_to_below (value_limit s) (base_of s) [] (within s.internal_shingling) refl
    where
      within : (b : Bool) → base_of s ≤ cond b (base_of s) s.dimensions
      within true = le_refl (base_of s)
      within false = base_within s.dimensions (base_of s) shingled.shape

  -- the three ways to stand
  module _ (look_ahead : ℕ) where
    pub first_turned : s.internal_shingling ≡ true → s.internal_rotation ≡ true → FirstIndex s look_ahead ((s.next_sequence_index + look_ahead) * base_of s % s.dimensions)
    unfolding value_limit index_of
    first_turned on turning =
        rw (on, turning)
        (record {
          room = turn_room s.dimensions (base_of s) shingled.shape (s.next_sequence_index + look_ahead);
          entry = turn_entry s.dimensions (base_of s) shingled.shape (s.next_sequence_index + look_ahead);
        })

    pub first_last : s.internal_shingling ≡ true → s.internal_rotation ≡ false → FirstIndex s look_ahead (extra_of s)
    unfolding value_limit index_of
    first_last on still =
        record {
          room = rw on (let h = base_within s.dimensions (base_of s) shingled.shape in omega arith);
          entry = λ v h. rw (on, still);
        }

    pub first_own : s.internal_shingling ≡ false → FirstIndex s look_ahead 0
    unfolding value_limit index_of
    first_own off = record { room = rw off (omega arith); entry = λ v h. rw off (omega arith) }

-- values below the limit, each as far after the first
each_stands : (s : Store) (look_ahead first : ℕ) → FirstIndex s look_ahead first → (vs : List ℕ) → values_below (value_limit s) vs ≡ true → map (λ v. first + v) vs ≡ map (index_of s look_ahead) vs
unfolding values_below
each_stands s look_ahead first f [] e = refl
each_stands s look_ahead first f (v ∷ vs) e =
    let b = both (ltb v (value_limit s)) (values_below (value_limit s) vs) e in
    ap₂ (λ (x : ℕ) (l : List ℕ). x ∷ l) (f.entry v (ltb-true v (value_limit s) b.0)) (each_stands s look_ahead first f vs b.1)

-- the ways out
module _ (s : Store) (look_ahead : ℕ) (values out : List ℕ) where
  pub other_count : (length out ≡ length values → ⊥) → output (refused 3) out ≡ indices_written s look_ahead values out
  unfolding indices_written index_list_decided
  other_count d = rw (ne_eqb (length out) (length values) d)

  module _ (counted : length out ≡ length values) where
    pub far_ahead : 65535 < look_ahead → output (refused 11) out ≡ indices_written s look_ahead values out
    unfolding indices_written index_list_decided
    far_ahead h = rw (eq-eqb (length out) (length values) counted, lt-ltb 65535 look_ahead h)

    module _ (near : look_ahead ≤ 65535) where
      pub value_above : values_below (value_limit s) values ≡ false → output (refused 11) out ≡ indices_written s look_ahead values out
      unfolding indices_written index_list_decided
      value_above e = rw (eq-eqb (length out) (length values) counted, le-ltb 65535 look_ahead near, e)

      pub list_written : (first : ℕ) (now : List ℕ) → FirstIndex s look_ahead first → values_below (value_limit s) values ≡ true → now ≡ map (λ v. first + v) values → output done now ≡ indices_written s look_ahead values out
      unfolding indices_written index_list_decided
      list_written first now f e w =
          rw (eq-eqb (length out) (length values) counted, le-ltb 65535 look_ahead near, e, w) (ap (output done) (each_stands s look_ahead first f values e))
