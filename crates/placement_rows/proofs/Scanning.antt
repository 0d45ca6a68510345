-- A turn of the scan of places, through the table from place to index: what it leaves is what the definition's scan does.
use Rattle.std.proofs.Common.{◌≡◌, ℕ, suc, ◌+◌, ◌-◌, ◌*◌, ◌/◌, ◌<◌, ◌≤◌, Bool, true, false, cond, leb, List, length, get_or, sym, refl, ap, ◌∙◌, subst, le_of_lt, add-one, arith, leb-false, leb-true}
use Rattle.placement.specs.Alignment.{zeros_before}
use Rattle.placement.specs.Compaction.{compacted, live_below}
use Rattle.placement.specs.Places.{Live, WellPlaced}
use Rattle.placement.proofs.ProgressLaws.{Sound}
use Rattle.placement.proofs.Scan.{well_sound}
use Rattle.placement.specs.Scanned.{ScanState, shown, advanced}
use Rattle.placement.proofs.ScannedLaws.{scanned, Bounded, scanned_first, scanned_dead, scanned_bounded, scanned_last, scanned_joins, scanned_starts, met_inside, joins_within, starts_behind}
use Rattle.placement.specs.Steps.{steps}
use Rattle.placement_rows.specs.Compactable.{layout}
use Rattle.placement_rows.specs.IndexTable.{found_none, found_live, found_at}
use Rattle.placement_rows.specs.OnePass.{scan, run_from, run_of, met, Ready, Copyable, Scannable}
use Rattle.placement_rows.specs.declared.one_pass.Progress.{Progress}
use Rattle.placement_rows.specs.declared.one_pass.Run.{Run}

module _ (dims base : ℕ) (rotation : Bool) (elements location table : List ℕ) (free : ℕ) (pre : Scannable dims base location table free (length elements)) where
  abbrev at : ℕ → ScanState ℕ
  at q = scanned 0 dims base rotation elements location q

  abbrev well : WellPlaced dims base location free (length elements)
  well = pre.compactable.well

  -- before the first turn, and after the last
  pub scan_first : scan elements location (record { free = 0; read = 0; free_place = 0; read_place = 0 }) ≡ at 0
  scan_first = sym (scanned_first 0 dims base rotation elements location)

  pub scan_last : (e l : List ℕ) (p : Progress) → scan e l p ≡ at (free / base) → layout e l p.free ≡ compacted 0 dims base rotation elements location free
  scan_last e l p h =
      ap (λ (t : ScanState ℕ). layout t.elements t.location t.free) h ∙ sym (scanned_last 0 dims base rotation elements location free well)

  module _ (q : ℕ) (e l : List ℕ) (p : Progress) (h : scan e l p ≡ at q) where
    -- no slice changes its length
    pub elements_kept : q ≤ free / base → length e ≡ length elements
    elements_kept k = ap (λ (t : ScanState ℕ). length t.elements) h ∙ (scanned_bounded 0 dims base rotation elements location free well q k).elements_kept

    pub indices_kept : q ≤ free / base → length l ≡ length location
    indices_kept k = ap (λ (t : ScanState ℕ). length t.location) h ∙ (scanned_bounded 0 dims base rotation elements location free well q k).indices_kept

    module _ (inside : q < free / base) where
      listed : q < length table
      listed = omega (arith, pre.reaches)

      abbrev i : ℕ
      i = get_or table q 0

      -- no point stands at q
      pub passes : i ≡ 65535 → scan e l p ≡ at (q + 1)
      passes d = h ∙ rw (add-one q) (sym (scanned_dead 0 dims base rotation elements location q (found_none location table pre.indexed q listed d)))

      -- the point of index i stands at q
      module _ (d : ¬ (i ≡ 65535)) where
        live : Live location i
        live = found_live location table pre.indexed q listed pre.small d

        there : get_or location i 65535 ≡ q
        there = found_at location table pre.indexed q listed d

        abbrev joined : Run
        joined = run_from dims base q (at q).free 0 (at q).read

        abbrev started : Run
        started = run_from dims base q (at q).free (zeros_before rotation dims (at q).free (q * base)) (q * base)

        bounded : Bounded 0 dims base rotation elements location free well q
        bounded = scanned_bounded 0 dims base rotation elements location free well q (le_of_lt inside)

        ends : q * base + dims ≤ free
        ends = met_inside 0 dims base rotation elements location free well q i live there

        -- the words that are read on from reach back to the point's start
        enough : q * base ≤ (at q).read → dims ≤ (at q).free + (q * base + dims - (at q).read)
        unfolding scanned shown
        enough k =
            let s : Sound dims base rotation elements free (live_below location q) q (steps 0 dims base rotation elements (live_below location q)) = well_sound 0 dims base rotation elements location free well q (le_of_lt inside) in
            omega (arith, s.last_next, s.last_free)

        ready : Ready dims base q (at q).free (at q).read
        ready =
            record {
              some = well.shaped.some;
              some_base = well.shaped.some_base;
              small = omega (arith, ends, well.small);
              written = omega (arith, bounded.behind, bounded.inside, well.small);
              enough = λ k. omega (arith, enough k, within);
              within = λ k. within;
            }
          where
            within : (at q).read ≤ q * base + dims
            within = omega (arith, joins_within 0 dims base rotation elements location free well q i live there)

        copyable : Copyable dims base (run_of dims base rotation q (at q).free (at q).read) (q * base + dims) i (at q).free (length (at q).elements) (length (at q).location)
        unfolding run_of
        copyable = go (leb (q * base) (at q).read) refl
          where
            of : (n from : ℕ) → (at q).free + n ≤ from → from ≤ q * base + dims → dims ≤ (at q).free + n + (q * base + dims - from)
                → Copyable dims base (run_from dims base q (at q).free n from) (q * base + dims) i (at q).free (length (at q).elements) (length (at q).location)
            of n from a b c =
                record {
                  behind = a;
                  forward = b;
                  ends = omega (arith, ends, well.inside, bounded.elements_kept);
                  small = ready.small;
                  enough = c;
                  placed = refl;
                  listed = omega (arith, live.listed, bounded.indices_kept);
                }

            go : (t : Bool) → leb (q * base) (at q).read ≡ t → Copyable dims base (cond t joined started) (q * base + dims) i (at q).free (length (at q).elements) (length (at q).location)
            go true k =
                let joins = leb-true (q * base) (at q).read k in
                of 0 (at q).read (omega (arith, bounded.behind)) (ready.within joins) (omega (arith, enough joins))
            go false k =
                of (zeros_before rotation dims (at q).free (q * base)) (q * base)
                (starts_behind 0 dims base rotation elements location free well q i live there (leb-false (q * base) (at q).read k)) (omega arith) (omega arith)

        pub can_take : Ready dims base q p.free p.read × Copyable dims base (run_of dims base rotation q p.free p.read) (q * base + dims) i p.free (length e) (length l)
        can_take =
            subst (λ (t : ScanState ℕ). Ready dims base q t.free t.read × Copyable dims base (run_of dims base rotation q t.free t.read) (q * base + dims) i t.free (length t.elements) (length t.location)) (sym h) (ready, copyable)

        met_next : met dims base rotation q i (at q) ≡ at (suc q)
        unfolding met run_of
        met_next = go (leb (q * base) (at q).read) refl
          where
            go : (t : Bool) → leb (q * base) (at q).read ≡ t → advanced 0 dims base (cond t joined started).zeros (cond t joined started).from (q * base + dims) i (at q) ≡ at (suc q)
            go true k = sym (scanned_joins 0 dims base rotation elements location free well q i live there pre.compactable.distinct (leb-true (q * base) (at q).read k))
            go false k = sym (scanned_starts 0 dims base rotation elements location free well q i live there pre.compactable.distinct (leb-false (q * base) (at q).read k))

        pub takes : (e' l' : List ℕ) (p' : Progress) → scan e' l' p' ≡ met dims base rotation q i (scan e l p) → scan e' l' p' ≡ at (q + 1)
        takes e' l' p' k = k ∙ ap (met dims base rotation q i) h ∙ met_next ∙ rw (add-one q)
