-- A hold stays well-formed whatever is added to it, and giving up its oldest point is never refused.
use Rattle.std.specs.Prelude.{ℕ, ◌+◌, ◌-◌, ◌≤◌, ◌<◌, Bool, true, false, cond, List, [], ◌∷◌, ◌++◌, ◌≡◌, refl, length, get_or, take, drop, ltb}
use Rattle.std.proofs.Common.{arith, sym, ap, subst, ◌∙◌, length-append, length-drop, length-take-le, take_at, ltb-false}
use Rattle.store_definitions.specs.Memory.{PointStore}
use Rattle.store_definitions.specs.Answers.{Answer, kept, waiting, done, is, says, refused, refused_after, outcome}
use Rattle.store_definitions.specs.Parts.{table_length}
use Rattle.store_definitions.specs.Decisions.{form_decided}
use Rattle.store_definitions.specs.Adding.{add_spec}
use Rattle.store_definitions.specs.Counting.{dec_spec}
use Rattle.store_definitions.specs.WellFormed.{well_formed}
use Rattle.store_laws.specs.Cases.{by_cases}
use Rattle.store_laws.specs.Sound.{sound, sound_make}
use Rattle.store_laws.specs.AddingLaws.{add_keeps}
use Rattle.hold_definitions.specs.Memory.{PointHold, store_of, indices_of, labels_of}
use Rattle.hold_definitions.specs.Answers.{HoldOutcome, hold_outcome}
use Rattle.hold_definitions.specs.WellFormed.{hold_well_formed}
use Rattle.hold_definitions.specs.Adding.{written_to, with_store, with_list, oldest_label, gave_up, holding, held_after, hold_added, hold_add_spec}
use Rattle.hold_definitions.specs.CountsAfter.{SameShape, SameCounts, Gained, Leaves, add_leaves}
use Rattle.hold_definitions.proofs.Sound.{Names, HoldSound, hold_sound, hold_sound_make}
use Rattle.hold_definitions.proofs.NamesLaws.{names_same, gained_names, oldest_decided, given_up_sound, given_up_shape, given_up_length, given_up_names}

-- a list written to a table that is long enough
written_length : (table xs : List ℕ) → length xs ≤ length table → length (written_to table xs) ≡ length table
written_length table xs h = length-append xs (drop (length xs) table) ∙ ap (λ (n : ℕ). length xs + n) (length-drop (length xs) table) ∙ (let e : length xs + (length table - length xs) ≡ length table = omega arith in e)

-- one entry more, and one fewer
pub length_more : (xs : List ℕ) (i : ℕ) → length (xs ++ i ∷ []) ≡ length xs + 1
length_more xs i = length-append xs (i ∷ [])

length_less : (xs : List ℕ) → length (drop 1 xs) ≡ length xs - 1
length_less xs = length-drop 1 xs

module _ {E : Type 0} where
  module _ (h : PointHold E) (s : HoldSound h) where
    pub held_length : length (indices_of h) ≡ h.header.held
    held_length = length-take-le h.header.held h.memory.held_indices (omega (arith, s.held_most, s.width_most, s.indices_lent))

    pub labels_length : h.header.store.store_labels ≡ true → length (labels_of h) ≡ h.header.held
    labels_length on = length-take-le h.header.held h.memory.held_labels (omega (arith, s.held_most, s.width_most, s.labels_lent_lem on))

    -- another list over a store of the same shape
    module _ (q : PointStore E) (f : well_formed q ≡ true) (same : SameShape (store_of h) q) (xs ls : List ℕ) (n : Names q xs ls) (most : length xs ≤ h.header.width) (long : h.header.store.store_labels ≡ true → length ls ≡ length xs) where
      labels_written : (b : Bool) → h.header.store.store_labels ≡ b → b ≡ true → length (cond b (written_to h.memory.held_labels ls) h.memory.held_labels) ≡ length h.memory.held_labels
      labels_written true on e = written_length h.memory.held_labels ls (omega (arith, long on, most, s.width_most, s.labels_lent_lem on))
      labels_written false off e = refl

      labels_read : q.header.store_labels ≡ true → take (length xs) (cond q.header.store_labels (written_to h.memory.held_labels ls) h.memory.held_labels) ≡ ls
      labels_read on = rw on (take_at ls (drop (length ls) h.memory.held_labels) (length xs) (long (sym same.flag_same ∙ on)))

      indices_read : take (length xs) (written_to h.memory.held_indices xs) ≡ xs
      indices_read = take_at xs (drop (length xs) h.memory.held_indices) (length xs) refl

      pub listed_sound : HoldSound (with_list xs ls (with_store q h))
      listed_sound =
          record {
            well = f;
            width_least = s.width_least;
            width_most = rw same.capacity_same s.width_most;
            indices_lent = rw (same.capacity_same, written_length h.memory.held_indices xs (omega (arith, most, s.width_most, s.indices_lent))) s.indices_lent;
            labels_lent_lem = λ on.
                let was : h.header.store.store_labels ≡ true = sym same.flag_same ∙ on in
                rw (same.capacity_same, same.flag_same, labels_written h.header.store.store_labels refl was) (s.labels_lent_lem was);
            held_most = most;
            names = record {
              counts = rw indices_read n.counts;
              once = rw indices_read n.once;
              own = λ on. rw (labels_read on) (n.own on);
            };
          }

    -- a store that leaves the counts
    pub stored_sound : (q : PointStore E) → well_formed q ≡ true → SameCounts (store_of h) q → HoldSound (with_store q h)
    stored_sound q f c =
        record {
          well = f;
          width_least = s.width_least;
          width_most = rw c.shape.capacity_same s.width_most;
          indices_lent = rw c.shape.capacity_same s.indices_lent;
          labels_lent_lem = λ on. rw c.shape.capacity_same (s.labels_lent_lem (sym c.shape.flag_same ∙ on));
          held_most = s.held_most;
          names = names_same (store_of h) q (indices_of h) (labels_of h) s.names c;
        }

    -- a kept add
    module _ (q : PointStore E) (f : well_formed q ≡ true) (i l : ℕ) (g : Gained (store_of h) q i l) where
      abbrev xs : List ℕ
      xs = indices_of h ++ i ∷ []

      abbrev ls : List ℕ
      ls = labels_of h ++ l ∷ []

      n : Names q xs ls
      n = gained_names (store_of h) q i l (indices_of h) (labels_of h) s.names g

      longer : length xs ≡ h.header.held + 1
      longer = length_more (indices_of h) i ∙ ap (λ (k : ℕ). k + 1) held_length

      longer_labels : h.header.store.store_labels ≡ true → length ls ≡ length xs
      longer_labels on = length_more (labels_of h) l ∙ ap (λ (k : ℕ). k + 1) (labels_length on) ∙ sym longer

      some : 0 < length xs
      some = omega (arith, longer)

      some_label : q.header.store_labels ≡ true → 0 < length ls
      some_label on = omega (arith, longer_labels (sym g.shape.flag_same ∙ on), longer)

      -- giving up the oldest is a dec that the store accepts
      pub gives_up : dec_spec q (get_or xs 0 0) (oldest_label q ls) ≡ outcome done (gave_up xs ls q)
      unfolding dec_spec form_decided gave_up
      gives_up = rw (f, oldest_decided q (sound q f) xs ls n some some_label)

      fewer_labels : h.header.store.store_labels ≡ true → length (drop 1 ls) ≡ length (drop 1 xs)
      fewer_labels on = length_less ls ∙ ap (λ (k : ℕ). k - 1) (longer_labels on) ∙ sym (length_less xs)

      given_up_shape_too : SameShape (store_of h) (gave_up xs ls q)
      given_up_shape_too =
          let d = given_up_shape q (sound q f) xs ls n some some_label in
          record { capacity_same = d.capacity_same ∙ g.shape.capacity_same; flag_same = d.flag_same ∙ g.shape.flag_same }

      pub holding_sound : HoldSound (holding h xs ls q)
      unfolding holding
      holding_sound =
          by_cases HoldSound (ltb h.header.width (length xs)) (with_list (drop 1 xs) (drop 1 ls) (with_store (gave_up xs ls q) h)) (with_list xs ls (with_store q h))
          (λ full.
          listed_sound (gave_up xs ls q) (sound_make (gave_up xs ls q) (given_up_sound q (sound q f) xs ls n some some_label)) given_up_shape_too (drop 1 xs) (drop 1 ls)
          (given_up_names q (sound q f) xs ls n some some_label)
          (omega (arith, length_less xs, longer, s.held_most))
          fewer_labels)
          (λ room. listed_sound q f g.shape xs ls n (ltb-false h.header.width (length xs) room) longer_labels)

      -- giving up a point leaves the table as long as it was
      pub holding_length : table_length (store_of (holding h xs ls q)).header ≡ table_length q.header
      unfolding holding
      holding_length =
          by_cases (λ g. table_length (store_of g).header ≡ table_length q.header) (ltb h.header.width (length xs)) (with_list (drop 1 xs) (drop 1 ls) (with_store (gave_up xs ls q) h)) (with_list xs ls (with_store q h))
          (λ full. given_up_length q (sound q f) xs ls n some some_label)
          (λ room. refl)

    -- whatever the answer
    pub after_sound : (a : Answer) (q : PointStore E) → well_formed q ≡ true → Leaves (store_of h) a q → HoldSound (held_after h a q)
    after_sound (kept i l laid left) q f g = holding_sound q f i l g
    after_sound waiting q f c = stored_sound q f c
    after_sound done q f c = stored_sound q f c
    after_sound (is n) q f c = stored_sound q f c
    after_sound (says b) q f c = stored_sound q f c
    after_sound (refused n) q f c = stored_sound q f c
    after_sound (refused_after n k) q f c = stored_sound q f c

module _ {E : Type 0} (eq : E → E → Bool) (zero_element : E) (h : PointHold E) (point : List E) (code : ℕ) where
  -- a well-formed hold answers as its store does
  pub hold_answers : hold_well_formed h ≡ true → hold_add_spec eq zero_element h point code ≡ hold_added h (add_spec eq zero_element (store_of h) point code)
  unfolding hold_add_spec
  hold_answers e = rw e

  -- an ill-formed one gives 1, and nothing is changed
  pub hold_ill : hold_well_formed h ≡ false → hold_add_spec eq zero_element h point code ≡ hold_outcome (refused 1) h
  unfolding hold_add_spec
  hold_ill e = rw e

  pub hold_add_sound : HoldSound h → HoldSound (hold_add_spec eq zero_element h point code).after
  hold_add_sound s =
      let o = add_spec eq zero_element (store_of h) point code in
      subst (λ (r : HoldOutcome E). HoldSound r.after) (sym (hold_answers (hold_sound_make h s)))
      (after_sound h s o.answer o.after (add_keeps eq zero_element (store_of h) point code s.well) (add_leaves eq zero_element (store_of h) (sound (store_of h) s.well) point code))

  -- an add, kept, waiting or refused, keeps a hold well-formed
  pub hold_add_keeps : hold_well_formed h ≡ true → hold_well_formed (hold_add_spec eq zero_element h point code).after ≡ true
  hold_add_keeps e = hold_sound_make (hold_add_spec eq zero_element h point code).after (hold_add_sound (hold_sound h e))
