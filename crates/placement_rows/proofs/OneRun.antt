-- The zeros before a block by wrapping sums, and one run of compaction: its place, and what is filled and copied.
use Rattle.std.proofs.Common.{◌≡◌, ℕ, ◌+◌, ◌-◌, ◌*◌, ◌/◌, ◌%◌, ◌^◌, ◌<◌, ◌≤◌, List, set, sym, ap, ◌∙◌, lt_of_le_of_lt, mod-lt, add-mul, le-div_iff_mul-le, zero-mul, div-le_self, le-mul_of_pos_right, le_of_mul-le-mul_right, add-sub_cancel, arith}
use native.Mathlib.Nat.{zero-div, add-mul-div_right}
use Rattle.placement.specs.Alignment.{wrapping_add, alignment}
use Rattle.placement.specs.AlignmentLaws.{wrapping_sub_lem}
use Rattle.placement.specs.InPlace.{copied_within, filled}
use Rattle.placement.specs.Scanned.{advanced}
use Rattle.placement_rows.specs.OnePass.{state, scan, Carried, Copyable}
use Rattle.placement_rows.specs.declared.one_pass.Progress.{Progress}
use Rattle.placement_rows.specs.declared.one_pass.Run.{Run}

-- d is the wrapping difference, and s its wrapping sum with the start
pub wrapped : (dims free start d s : ℕ) → dims < 2 ^ 64 → free < 2 ^ 64 → d < 2 ^ 64 → (d + free) % 2 ^ 64 ≡ dims → s ≡ (d + start) % 2 ^ 64 → s % dims ≡ alignment dims free start
unfolding alignment wrapping_add
wrapped dims free start d s hd hf hr difference sum =
    ap (λ (n : ℕ). n % dims) (sum ∙ ap (λ (m : ℕ). (m + start) % 2 ^ 64) (wrapping_sub_lem dims free d hd hf hr difference))

-- fewer zeros than a row has
pub zeros_small : (dims free start z : ℕ) → 0 < dims → z ≡ alignment dims free start → z < dims
unfolding alignment
zeros_small dims free start z some e = rw e (mod-lt _ some)

-- the run is written, and the place is set that it gives
module _ (dims base : ℕ) (run : Run) (end i before : ℕ) where
  abbrev free : ℕ
  free = before + run.zeros + (end - run.from)

  pub run_copied : (store location zeroed after : List ℕ) → run.place ≡ (free - dims) / base → zeroed ≡ filled 0 before (before + run.zeros - before) store
      → after ≡ copied_within (before + run.zeros) run.from (end - run.from) zeroed
      → state after (set location i run.place) free end ≡ advanced 0 dims base run.zeros run.from end i (state store location before 0)
  run_copied store location zeroed after placed e f =
      let n : before + run.zeros - before ≡ run.zeros = omega arith in
      let written = f ∙ ap (copied_within (before + run.zeros) run.from (end - run.from)) (e ∙ ap (λ (m : ℕ). filled 0 before m store) n) in
      λ k. state (written k) (set location i (placed k)) free end

-- a point whose run can be copied: its place is small, and the quotients carried along are those of the new write position and of its end
module _ (dims base shingle place i before words indices : ℕ) (run : Run) (some : 0 < base) (whole : dims ≡ shingle * base) (c : Copyable dims base run (place * base + dims) i before words indices) where
  pub place_small : run.place < 65536
  place_small = rw c.placed (lt_of_le_of_lt (div-le_self _ _) (omega (arith, c.behind, c.forward, c.small)))

  pub shingle_small : shingle < 65536
  shingle_small = lt_of_le_of_lt (le-mul_of_pos_right shingle some) (omega (arith, c.small, whole))

  pub read_small : place < 65536
  read_small = lt_of_le_of_lt (le-mul_of_pos_right place some) (omega (arith, c.small))

  pub carried_on : (free : ℕ) → free ≡ before + run.zeros + (place * base + dims - run.from)
      → Carried base (record { free = free; read = place * base + dims; free_place = run.place + shingle; read_place = place + shingle })
  carried_on free e =
      let split : free ≡ free - dims + shingle * base = omega (arith, c.enough) in
      let placed : run.place ≡ (free - dims) / base = c.placed ∙ ap (λ (n : ℕ). (n - dims) / base) (sym e) in
      record {
        free_place_lem = ap (λ (n : ℕ). n + shingle) placed ∙ sym (ap (λ (n : ℕ). n / base) split ∙ add-mul-div_right (free - dims) shingle some);
        read_place_lem = ap (λ (n : ℕ). place * base + n) whole ∙ sym (add-mul place shingle base);
      }

-- at first nothing is read and nothing written
pub none_carried : (base : ℕ) → Carried base (record { free = 0; read = 0; free_place = 0; read_place = 0 })
none_carried base = record { free_place_lem = sym (zero-div base); read_place_lem = sym (zero-mul base) }

-- a point that joins what was read stands as many places below the write position's as it stood below the end
module _ (dims base place free read f r : ℕ) (some : 0 < base) (e : f ≡ free / base) (g : read ≡ r * base) (joins : place * base ≤ read) (reaches : read ≤ free + place * base) where
  pub joined_below : place ≤ r
  joined_below = le_of_mul-le-mul_right (rw g at joins) some

  abbrev gap : ℕ
  gap = r - place

  split : read ≡ place * base + gap * base
  split =
      let h : r ≡ place + gap = omega (arith, joined_below) in
      g ∙ ap (λ (n : ℕ). n * base) h ∙ add-mul place gap base

  pub joined_within : gap ≤ f
  joined_within = rw e ((le-div_iff_mul-le some).1 (omega (arith, split)))

  pub joined_place : read ≤ place * base + dims → f - gap ≡ (free + 0 + (place * base + dims - read) - dims) / base
  joined_place within =
      let rest : free + 0 + (place * base + dims - read) - dims ≡ free - gap * base = omega (arith, split) in
      let whole : free ≡ free - gap * base + gap * base = omega (arith, split) in
      let quotient : f ≡ (free - gap * base) / base + gap = e ∙ ap (λ (n : ℕ). n / base) whole ∙ add-mul-div_right (free - gap * base) gap some in
      ap (λ (n : ℕ). n - gap) quotient ∙ add-sub_cancel ((free - gap * base) / base) gap ∙ ap (λ (n : ℕ). n / base) (sym rest)

-- before any other point stand only the zeros
pub started_place : (dims base place free zeros : ℕ) → (free + zeros) / base ≡ (free + zeros + (place * base + dims - place * base) - dims) / base
started_place dims base place free zeros =
    let h : free + zeros ≡ free + zeros + (place * base + dims - place * base) - dims = omega arith in
    ap (λ (n : ℕ). n / base) h

pub scan_same : {e e' l l' : List ℕ} {p p' : Progress} → e ≡ e' → l ≡ l' → p ≡ p' → scan e l p ≡ scan e' l' p'
scan_same e l p = λ k. scan (e k) (l k) (p k)
