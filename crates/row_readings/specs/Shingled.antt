-- The shape that the previewing readings rely on, and how base entries stand in a window that turns.
use Rattle.std.specs.Prelude.{ℕ, ◌+◌, ◌*◌, ◌-◌, ◌^◌, ◌%◌, ◌≤◌, ◌<◌, true, ◌≡◌, length}
use Rattle.std.proofs.Common.{mod-lt, mod-eq_of_lt, mul-le-mul, arith, sym, ◌∙◌}
use Rattle.std.proofs.Math.Nat.{mod-add-mod, dvd-mod_iff, dvd-mul_left, dvd-sub, le_of_dvd}
use Rattle.placement.specs.Places.{Shaped}
use Rattle.store_definitions.specs.declared.Store.{Store}
use Rattle.store_definitions.specs.Memory.{PointStore}
use Rattle.store_definitions.specs.Parts.{base_of}
use Rattle.store_definitions.specs.WellFormed.{well_formed}
use Rattle.store_laws.specs.BoundsLaws.{shaped}
use Rattle.store_laws.specs.Sound.{sound}

pub record Shingled (s : Store) : Type 0 where
  pub dims_most : s.dimensions ≤ 64
  pub shingle_some : 0 < s.shingle_size
  pub shape : Shaped s.dimensions (base_of s)

-- what the check shows
pub shingled : {E : Type 0} (p : PointStore E) → well_formed p ≡ true → (Shingled p.header) × (p.header.dimensions ≤ length p.memory.last_known_shingle)
shingled p e =
    let w = sound p e in
    let s = p.header in (
      record {
        dims_most = w.bounds.dims_most;
        shingle_some = w.bounds.shingle_least;
        shape = shaped s.dimensions s.shingle_size s.capacity w.bounds;
      },
      w.lent.window_lent,
    )

module _ (dims base : ℕ) (shape : Shaped dims base) where
  pub base_within : base ≤ dims
  base_within = le_of_dvd shape.some shape.whole

  -- a multiple of base, turned, leaves room for base entries
  pub turn_room : (k : ℕ) → k * base % dims + base ≤ dims
  turn_room k =
      let r : ℕ = k * base % dims in
      let inside : r < dims = mod-lt (k * base) shape.some in
      let room : base ≤ dims - r = le_of_dvd (omega arith) (dvd-sub base shape.whole ((dvd-mod_iff base shape.whole).1 (dvd-mul_left base k))) in
      omega arith

  -- so an entry of them stands as far after the first
  pub turn_entry : (k v : ℕ) → v < base → k * base % dims + v ≡ (k * base + v) % dims
  turn_entry k v h =
      sym (sym (mod-add-mod (k * base) dims v) ∙ mod-eq_of_lt (omega (arith, turn_room k)))

-- a sequence number with its look-ahead, times base
pub product_fits : (k base : ℕ) → k < 2 ^ 33 → base ≤ 64 → k * base < 2 ^ 39
product_fits k base h b = let most : k ≤ 2 ^ 33 - 1 = omega arith in omega (arith, mul-le-mul most b)
