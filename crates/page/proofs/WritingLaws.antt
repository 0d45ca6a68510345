-- The writer's loop, index by index, and the ways out of the call.
use Rattle.std.specs.Prelude.{ℕ, zero, suc, ◌+◌, ◌-◌, ◌*◌, ◌≤◌, ◌<◌, Bool, true, false, List, [], ◌∷◌, ◌++◌, ◌≡◌, refl, length, get_or}
use Rattle.std.proofs.Common.{add-one, arith, sym, ap, ◌∙◌, length-append}
use borrow.Author.Tests.{lt-ltb, le-ltb}
use Rattle.terms.specs.Below.{sum_below, count_below, count_le}
use Rattle.terms.specs.Entries.{any_default}
use Rattle.decimal.specs.Lines.{line, lines}
use Rattle.decimal.proofs.LinesLaws.{length_line}
use Rattle.decimal.specs.Segments.{put, put_none, put_put}
use Rattle.store_definitions.specs.Answers.{is, refused, output}
use Rattle.store_definitions.specs.Decisions.{form_decided}
use Rattle.store_definitions.specs.Memory.{PointStore}
use Rattle.store_definitions.specs.Parts.{table_length}
use Rattle.store_definitions.specs.WellFormed.{well_formed}
use Rattle.store_check.specs.Entries.{counts_live}
use Rattle.store_check.specs.Figures.{counts_live_lem}
use Rattle.store_laws.specs.Sound.{sound}
use Rattle.page.specs.Listed.{listed}
use Rattle.page.proofs.ListedLaws.{listed_in, listed_out}
use Rattle.page.specs.Page.{counted, cells, page_text, room_decided, page_written, page_decided, page_spec}
use Rattle.page.proofs.PageLaws.{page_length}
use Rattle.page.specs.Writing.{Readable}

-- ---- lengths

count_grows : (d n : ℕ) (test : ℕ → Bool) → count_below n test ≤ count_below (n + d) test
unfolding count_below sum_below
count_grows zero n test = let z : n + 0 ≡ n = omega arith in rw z (omega arith)
count_grows (suc d) n test = let s : n + suc d ≡ suc (n + d) = omega arith in rw s (omega (arith, count_grows d n test))

module _ (n : ℕ) (counts location : List ℕ) where
  page_most : n ≤ 1024 → length (page_text n counts location) ≤ 19456
  page_most h = omega (arith, page_length n counts location, count_le n (counted counts))

  -- the page of the indices below i is within the whole
  page_within : (i : ℕ) → i ≤ n → length (page_text i counts location) ≤ length (page_text n counts location)
  page_within i h =
      let e : i + (n - i) ≡ n = omega arith in
      omega (arith, page_length i counts location, page_length n counts location, rw e at (count_grows (n - i) i (counted counts)))

  -- ---- one index more

  one_line : (i : ℕ) → counted counts i ≡ true → page_text (i + 1) counts location ≡ page_text i counts location ++ line 6 (i ∷ cells counts location i)
  unfolding page_text
  one_line i e = rw (add-one i) (listed_in i (counted counts) (cells counts location) 6 e)

  no_line : (i : ℕ) → counted counts i ≡ false → page_text (i + 1) counts location ≡ page_text i counts location
  unfolding page_text
  no_line i e = rw (add-one i) (ap (lines 6) (listed_out i (counted counts) (cells counts location) e))

  line_room : (i : ℕ) → i < n → counted counts i ≡ true → length (page_text i counts location) + 19 ≤ length (page_text n counts location)
  line_room i h e =
      let l : length (page_text (i + 1) counts location) ≡ length (page_text i counts location) + 19 = rw (one_line i e, length-append (page_text i counts location) (line 6 (i ∷ cells counts location i)), length_line 6 (i ∷ cells counts location i)) in
      omega (arith, page_within (i + 1) (omega arith))

  -- the lines of the indices below i stand in the text, and end where the next one begins
  pub record Written (text₀ text : List ℕ) (end i : ℕ) : Type 0 where
    pub within : i ≤ n
    pub sized : length text ≡ length text₀
    pub ends : end ≡ length (page_text i counts location)
    pub is : text ≡ put 0 (page_text i counts location) text₀

  pub none_written : (text : List ℕ) → Written text text 0 0
  unfolding page_text listed lines
  none_written text = record { within = omega arith; sized = refl; ends = refl; is = put_none text 0 }

  module _ (text₀ text : List ℕ) (end i : ℕ) (w : Written text₀ text end i) (h : i < n) (room : length (page_text n counts location) ≤ length text₀) where
    pub room_for_one : 0 < get_or counts i 0 → end + 19 ≤ length text
    room_for_one u = omega (arith, w.ends, w.sized, line_room i h (lt-ltb 0 (get_or counts i 0) u))

    line_put : counted counts i ≡ true → put end (line 6 (i ∷ cells counts location i)) text ≡ put 0 (page_text (i + 1) counts location) text₀
    line_put e =
        let z : length (page_text i counts location) ≡ 0 + length (page_text i counts location) = omega arith in
        rw (w.is, w.ends, one_line i e, z)
        (put_put text₀ (page_text i counts location) (line 6 (i ∷ cells counts location i)) 0 (rw (length_line 6 (i ∷ cells counts location i)) (omega (arith, line_room i h e))))

    pub line_written : (after : List ℕ) (count place : ℕ) → 0 < count → count ≡ get_or counts i 0 → place ≡ get_or location i 0 → i < length location
        → after ≡ put end (line 6 (i ∷ count ∷ place ∷ [])) text → length after ≡ length text → Written text₀ after (end + 19) (i + 1)
    line_written after count place u c p l a s =
        let e : counted counts i ≡ true = lt-ltb 0 (get_or counts i 0) (omega arith) in
        let q : place ≡ get_or location i 65535 = p ∙ any_default location i 0 65535 l in
        record {
          within = omega arith;
          sized = s ∙ w.sized;
          ends = rw (one_line i e, length-append (page_text i counts location) (line 6 (i ∷ cells counts location i)), length_line 6 (i ∷ cells counts location i)) (omega (arith, w.ends));
          is = a ∙ (rw (c, q) (line_put e));
        }

    pub line_skipped : (count : ℕ) → count ≤ 0 → count ≡ get_or counts i 0 → Written text₀ text end (i + 1)
    line_skipped count u c =
        let e : page_text (i + 1) counts location ≡ page_text i counts location = no_line i (le-ltb 0 (get_or counts i 0) (omega arith)) in
        record { within = omega arith; sized = w.sized; ends = rw e w.ends; is = rw e w.is }

  pub all_written : (text₀ text : List ℕ) (end i : ℕ) → Written text₀ text end i → n ≤ i → text ≡ put 0 (page_text n counts location) text₀
  all_written text₀ text end i w h = let q : i ≡ n = omega (arith, w.within) in rw q at w.is

-- ---- the ways out

module _ (n live : ℕ) (counts location : List ℕ) (r : Readable n live counts location) where
  pub live_lines : live * 19 ≡ length (page_text n counts location)
  live_lines = rw (r.live_is, counts_live_lem n counts) (sym (page_length n counts location))

  pub live_most : live * 19 ≤ 19456
  live_most = rw live_lines (page_most n counts location r.table_most)

  pub too_short : (text : List ℕ) → length text < live * 19 → output (refused 18) text ≡ page_written n counts location text
  unfolding page_written room_decided
  too_short text h = rw (lt-ltb (length text) (length (page_text n counts location)) (rw live_lines at h))

  pub page_laid : (text after : List ℕ) → live * 19 ≤ length text → after ≡ put 0 (page_text n counts location) text → output (is (live * 19)) after ≡ page_written n counts location text
  unfolding page_written room_decided
  page_laid text after h e = rw (e, live_lines, le-ltb (length text) (length (page_text n counts location)) (rw live_lines at h))

module _ {E : Type 0} (p : PointStore E) (text : List ℕ) where
  pub page_ill : well_formed p ≡ false → output (refused 1) text ≡ page_spec p text
  unfolding page_spec page_decided form_decided
  page_ill e = rw e

  pub page_well : well_formed p ≡ true → page_written (table_length p.header) p.memory.reference_count p.memory.location text ≡ page_spec p text
  unfolding page_spec page_decided page_written form_decided
  page_well e = rw e

  pub readable : well_formed p ≡ true → (live : ℕ) → live ≡ counts_live (table_length p.header) p.memory.reference_count → Readable (table_length p.header) live p.memory.reference_count p.memory.location
  readable e live l =
      let w = sound p e in
      record {
        table_most = omega (arith, w.table_within, w.bounds.capacity_most);
        counts_lent = omega (arith, w.table_within, w.lent.counts_lent);
        places_lent = omega (arith, w.table_within, w.rows.places_lent);
        live_is = l;
      }
