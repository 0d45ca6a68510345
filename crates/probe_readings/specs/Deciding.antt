-- What is decided of a set of kinds and words, from its kinds, how many words there are, and the sequence.
use Rattle.std.specs.Prelude.{ℕ, Bool, not, ◌&&◌, ◌||◌, List, [], ◌∷◌, ◌≡◌, length, ltb}
use Rattle.std.specs.List.{list_any}
use Rattle.std.proofs.Math.Bool.{true, false, and-false}
use Rattle.std.proofs.Math.Path.{refl, sym, ap}
use Rattle.std.proofs.Common.{◌∙◌}
use Rattle.std.proofs.Math.Dec.{eqb}
use borrow.Author.Tests.{eq-eqb, ne_eqb, eqb-true}
use Rattle.interval_store_manager.specs.Calls.{Decided, go, refuse}
use Rattle.store_definitions.specs.Decisions.{and_then, refuse_if}
use Rattle.probes_definitions.specs.Memory.{PointProbes}
use Rattle.probes_definitions.specs.Readings.{any_absent, of_kinds, any_above}
use Rattle.probes_definitions.specs.ReadingLaws.{kinds_length}
use Rattle.probes_definitions.specs.Setting.{no_earlier, set_decided, kinds_decided}
use Rattle.probe_readings.specs.Kinds.{absent_kinds}

unfoldable pub set_asked : ℕ → List ℕ → ℕ → Decided
set_asked sequence kinds words =
    and_then (refuse_if (not (eqb (length kinds) 8)) 3)
    (and_then (refuse_if (not (eqb words 8)) 3)
    (and_then (refuse_if (any_above 2 kinds) 11) (refuse_if (any_above 1 kinds && eqb sequence 0) 16)))

pub above_any : (n : ℕ) (ks : List ℕ) → any_above n ks ≡ list_any (λ k. ltb n k) ks
unfolding any_above
above_any n [] = refl
above_any n (k ∷ ks) = ap (λ (b : Bool). ltb n k || b) (above_any n ks)

-- ---- the ways out

module _ (sequence : ℕ) (kinds : List ℕ) (words : ℕ) where
  pub kinds_short : (length kinds ≡ 8 → ⊥) → refuse 3 ≡ set_asked sequence kinds words
  unfolding set_asked
  kinds_short d = rw (ne_eqb (length kinds) 8 d)

  module _ (e : length kinds ≡ 8) where
    pub words_short : (words ≡ 8 → ⊥) → refuse 3 ≡ set_asked sequence kinds words
    unfolding set_asked
    words_short d = rw (eq-eqb (length kinds) 8 e, ne_eqb words 8 d)

    module _ (f : words ≡ 8) where
      pub kind_unknown : any_above 2 kinds ≡ true → refuse 11 ≡ set_asked sequence kinds words
      unfolding set_asked
      kind_unknown g = rw (eq-eqb (length kinds) 8 e, eq-eqb words 8 f, g)

      module _ (g : any_above 2 kinds ≡ false) where
        pub none_earlier : sequence ≡ 0 → any_above 1 kinds ≡ true → refuse 16 ≡ set_asked sequence kinds words
        unfolding set_asked
        none_earlier s h = rw (eq-eqb (length kinds) 8 e, eq-eqb words 8 f, g, h, eq-eqb sequence 0 s)

        pub none_absent : any_above 1 kinds ≡ false → go ≡ set_asked sequence kinds words
        unfolding set_asked
        none_absent h = rw (eq-eqb (length kinds) 8 e, eq-eqb words 8 f, g, h)

        pub some_earlier : (sequence ≡ 0 → ⊥) → go ≡ set_asked sequence kinds words
        unfolding set_asked
        some_earlier s = rw (eq-eqb (length kinds) 8 e, eq-eqb words 8 f, g, ne_eqb sequence 0 s, and-false (any_above 1 kinds))

-- ---- it is what the definitions decide

module _ {E : Type 0} (p : PointProbes E) (kinds : List ℕ) (xs : List E) where
  abbrev asked : Decided
  asked = set_asked p.header.store.next_sequence_index kinds (length xs)

  pub asked_is : asked ≡ and_then (kinds_decided kinds xs) (set_decided p (of_kinds kinds xs))
  unfolding set_asked kinds_decided set_decided no_earlier
  asked_is = split (eqb (length kinds) 8) (eqb (length xs) 8) (any_above 2 kinds) refl refl
    where
      split : (a b c : Bool) → eqb (length kinds) 8 ≡ a → eqb (length xs) 8 ≡ b
          → and_then (refuse_if (not a) 3) (and_then (refuse_if (not b) 3) (and_then (refuse_if c 11) (refuse_if (any_above 1 kinds && eqb p.header.store.next_sequence_index 0) 16)))
          ≡ and_then (and_then (refuse_if (not a) 3) (and_then (refuse_if (not b) 3) (refuse_if c 11))) (and_then (refuse_if (not (eqb (length (of_kinds kinds xs)) 8)) 3) (refuse_if (any_absent (of_kinds kinds xs) && eqb p.header.store.next_sequence_index 0) 16))
      split true true true e f = refl
      split true true false e f =
          let k = eqb-true (length kinds) 8 e in
          let x = eqb-true (length xs) 8 f in
          let same = k ∙ sym x in
          rw (eq-eqb (length (of_kinds kinds xs)) 8 (kinds_length kinds xs same ∙ k), absent_kinds kinds xs same)
      split true false c e f = refl
      split false b c e f = refl
