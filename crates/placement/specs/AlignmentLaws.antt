-- The wrapping sum of `alignment` is the true one, and what the zeros before a block do.
use Rattle.std.specs.Prelude.{Bool, true, false, cond, ◌≡◌, ℕ, ◌+◌, ◌*◌, ◌-◌, ◌%◌, ◌/◌, ◌^◌, ◌≤◌, ◌<◌}
use Rattle.std.proofs.lemmas.Bool.{false≢true}
use Rattle.std.proofs.Common.{ap, ◌∙◌, mod-lt, arith}
use Rattle.std.specs.Int.{◌∣◌}
use Rattle.std.proofs.Math.Nat.{add-mod_left, mod-le, mod-add-div, dvd-zero, dvd-sub, dvd-mul_right, dvd-mod_iff, le_of_dvd}
use Rattle.placement.specs.Alignment.{wrapping_sub, wrapping_add, alignment, zeros_before}

-- the number of 64 bits that b added to wraps back to a is the wrapping difference
pub wrapping_sub_lem : (a b r : ℕ) → a < 2 ^ 64 → b < 2 ^ 64 → r < 2 ^ 64 → (r + b) % 2 ^ 64 ≡ a → r ≡ wrapping_sub a b
unfolding wrapping_sub
wrapping_sub_lem a b r ha hb hr e = omega arith

-- The subtraction wraps wherever `free` is above `dims`, and the sum comes back to dims + (start − free).
pub alignment_difference : (dims free start : ℕ) → free ≤ start → start + dims < 2 ^ 64 → alignment dims free start ≡ (start - free) % dims
unfolding alignment wrapping_add wrapping_sub
alignment_difference dims free start h k =
    let e : ((dims + (2 ^ 64 - free)) % 2 ^ 64 + start) % 2 ^ 64 ≡ dims + (start - free) = omega arith in
    ap (λ (n : ℕ). n % dims) e ∙ add-mod_left dims (start - free)

-- how many elements a point takes at most, its zeros among them
unfoldable pub point_room : Bool → (dims base : ℕ) → ℕ
point_room rotation dims base = cond rotation (2 * dims - base) dims

pub point_room_lem : (rotation : Bool) (dims base : ℕ) → base ≤ dims → dims ≤ point_room rotation dims base
unfolding point_room
point_room_lem true dims base h = omega arith
point_room_lem false dims base h = omega arith

-- `zeros` put at `free`, before a block that starts at `start`
pub record Aligned (rotation : Bool) (dims base free start zeros : ℕ) : Type 0 where
  pub behind : free + zeros ≤ start
  pub few : zeros + dims ≤ point_room rotation dims base
  pub whole : base ∣ zeros
  pub same_turn : rotation ≡ true → dims ∣ start - (free + zeros)

pub zeros_aligned : (rotation : Bool) (dims base free start : ℕ) → free ≤ start → start + dims < 2 ^ 64 → 0 < dims → base ∣ dims → base ∣ free → base ∣ start
    → Aligned rotation dims base free start (zeros_before rotation dims free start)
unfolding zeros_before point_room
zeros_aligned false dims base free start h k d bd bf bs =
    record {
      behind = omega arith;
      few = omega arith;
      whole = dvd-zero base;
      same_turn = λ e. absurd (false≢true e);
    }
zeros_aligned true dims base free start h k d bd bf bs =
    rw (alignment_difference dims free start h k)
    (let z = (start - free) % dims in
    let whole : base ∣ z = (dvd-mod_iff base bd).1 (dvd-sub base bs bf) in
    let below : z < dims = mod-lt (start - free) d in
    let gap : base ≤ dims - z = le_of_dvd (omega arith) (dvd-sub base bd whole) in
    let true_difference : z + dims * ((start - free) / dims) ≡ start - free = mod-add-div (start - free) dims in
    record {
      behind = omega (arith, mod-le (start - free) dims);
      few = omega arith;
      whole = whole;
      same_turn =
          λ e.
          rw (let q : start - (free + z) ≡ dims * ((start - free) / dims) = omega arith in q)
          (dvd-mul_right dims ((start - free) / dims));
    })
