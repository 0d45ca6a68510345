-- What holds after every list of hold adds on a fresh hold, refused ones included: one record, with a field for each clause. It is
-- said from the adds and their answers alone.
use Rattle.std.specs.Prelude.{ℕ, ◌+◌, ◌/◌, ◌≤◌, ◌<◌, Bool, List, [], ◌∷◌, ◌≡◌, length}
use Rattle.terms.specs.Rows.{Exact}
use Rattle.placement.specs.declared.Laid.{Laid}
use Rattle.placement.specs.Copying.{turn, turned}
use Rattle.store_definitions.specs.declared.Shape.{Shape}
use Rattle.store_definitions.specs.Memory.{PointStore}
use Rattle.store_definitions.specs.Answers.{kept, done, is, refused, output}
use Rattle.store_definitions.specs.Parts.{table_length}
use Rattle.guarantee.specs.Calls.{add_call, copy_call, count_call}
use Rattle.hold_definitions.specs.Memory.{PointHold, store_of}
use Rattle.hold_definitions.specs.Listed.{times}
use Rattle.hold_guarantee.specs.Calls.{held_call, held_number_call}
use Rattle.hold_guarantee.specs.Run.{HoldAdd, hold_after, hold_answer_to}
use Rattle.hold_guarantee.specs.History.{KeptAdd, indices, newest, kept_adds}

-- of every entry of a list
abbrev pub Each : {A : Type 0} → (A → Type 0) → List A → Type 0
Each P [] = Unit {0}
Each P (x ∷ xs) = P x × Each P xs

-- of every add of a list, with the adds before it
abbrev pub EachAdd : {E : Type 0} → (HoldAdd E → List (HoldAdd E) → Type 0) → List (HoldAdd E) → Type 0
EachAdd P [] = Unit {0}
EachAdd P (a ∷ before) = P a before × EachAdd P before

module _ {E : Type 0} (eq : E → E → Bool) (zero_element : E) (s : Shape) (width : ℕ) (start : PointHold E) where
  -- the store inside, after these adds
  abbrev pub inside_after : List (HoldAdd E) → PointStore E
  inside_after adds = store_of (hold_after eq zero_element start adds)

  -- the last W kept adds, in order, or all if there were fewer
  abbrev pub held_adds : List (HoldAdd E) → List (KeptAdd E)
  held_adds adds = newest width (kept_adds eq zero_element start s adds)

  abbrev pub held_list : List (HoldAdd E) → List ℕ
  held_list adds = indices (held_adds adds)

  pub record HoldGuarantee (adds : List (HoldAdd E)) : Type 0 where
    -- each add answers as its store's add does
    pub answers : EachAdd (λ a before. hold_answer_to eq zero_element start a before ≡ (add_call eq zero_element (inside_after before) a.point a.code).answer) adds
    -- the figure of each kept add is the table length less the points held before it and less the new one, so that the oldest is still
    -- counted
    pub figures : EachAdd
        (λ a before.
        (i l : ℕ) (laid : Laid) (left : ℕ) → hold_answer_to eq zero_element start a before ≡ kept i l laid left
        → left + (length (held_list before) + 1) ≡ table_length (inside_after (a ∷ before)).header)
        adds
    -- the indices held are those of the last W kept adds, in order, and none of them twice
    pub held : (out : List ℕ) → length out ≡ length (held_list adds) → held_call (hold_after eq zero_element start adds) out ≡ output done (held_list adds)
    pub held_number : held_number_call (hold_after eq zero_element start adds) ≡ is (length (held_list adds))
    pub held_once : (i : ℕ) → times i (held_list adds) ≤ 1
    -- the live indices are those, each with count 1
    pub live : (i : ℕ) → 0 < times i (held_list adds) → count_call (inside_after adds) i ≡ is 1
    pub no_other : (i : ℕ) → times i (held_list adds) ≡ 0 → count_call (inside_after adds) i ≡ refused 5
    -- copying each of them gives what copy gave right after its add
    pub copies_kept : Each (λ k. (out : List E) → copy_call (inside_after adds) k.index out ≡ copy_call (inside_after k.adds) k.index out) (held_adds adds)
    -- and that is the add's row exactly, turned by the place in its answer, where the equality is exact
    pub copies_row : Exact eq → Each
        (λ k.
        (out : List E) → length out ≡ s.dimensions
        → copy_call (inside_after adds) k.index out ≡ output done (turned s.dimensions (turn s.internal_rotation s.dimensions (s.dimensions / s.shingle_size) k.place) k.row))
        (held_adds adds)
