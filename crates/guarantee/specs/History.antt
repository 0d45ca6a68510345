-- Document 01, 'Lists': what a list of calls says of each index, from the calls and their answers alone.
use Rattle.std.specs.Prelude.{ℕ, zero, suc, ◌+◌, ◌-◌, Bool, true, false, cond, List, [], ◌∷◌, ◌++◌, take, ltb, eqb}
use Rattle.placement.specs.Laying.{place_of}
use Rattle.labels.specs.Decisions.{none}
use Rattle.store_definitions.specs.declared.Shape.{Shape}
use Rattle.store_definitions.specs.Memory.{PointStore}
use Rattle.store_definitions.specs.Answers.{Answer, kept, waiting, done, is, says, refused, refused_after}
use Rattle.store_definitions.specs.Counting.{Pairing}
use Rattle.guarantee.specs.Run.{Call, add, inc, dec, adjust, compact, answer_to}

-- ---- what an accepted call changes, in order

pub data Change : Type 0 where
  gave : ℕ → Change
  inced : ℕ → Change
  deced : ℕ → Change

-- a kept add gives its index
abbrev pub add_changes : Answer → List Change
add_changes (kept i l laid left) = gave i ∷ []
add_changes waiting = []
add_changes done = []
add_changes (is n) = []
add_changes (says b) = []
add_changes (refused n) = []
add_changes (refused_after n k) = []

-- an inc or a dec counts where it is accepted
abbrev pub if_done : Answer → Change → List Change
if_done (kept i l laid left) c = []
if_done waiting c = []
if_done done c = c ∷ []
if_done (is n) c = []
if_done (says b) c = []
if_done (refused n) c = []
if_done (refused_after n k) c = []

-- the pairs of an adjust that stand: all of them, or those before the refused one
abbrev pub standing : Answer → List Pairing → List Pairing
standing (kept i l laid left) qs = []
standing waiting qs = []
standing done qs = qs
standing (is n) qs = []
standing (says b) qs = []
standing (refused n) qs = []
standing (refused_after n k) qs = take k qs

-- an inc and, unless its index is none, a dec; none of either where the insert index is none
unfoldable pub pair_changes : Pairing → List Change
pair_changes q =
    cond (eqb q.insert_index none) []
    (inced q.insert_index ∷ cond (eqb q.delete_index none) [] (deced q.delete_index ∷ []))

unfoldable pub pairs_changes : List Pairing → List Change
pairs_changes [] = []
pairs_changes (q ∷ qs) = pair_changes q ++ pairs_changes qs

module _ {E : Type 0} where
  -- what a call with this answer changes
  abbrev pub changes : Call E → Answer → List Change
  changes (add point code) a = add_changes a
  changes (inc i l) a = if_done a (inced i)
  changes (dec i l) a = if_done a (deced i)
  changes (adjust qs) a = pairs_changes (standing a qs)
  changes compact a = []

  -- ---- the points of the accepted adds, the last one first

  -- kept and waiting adds are accepted
  abbrev pub points_with : List E → Answer → List (List E) → List (List E)
  points_with point (kept i l laid left) points = point ∷ points
  points_with point waiting points = point ∷ points
  points_with point done points = points
  points_with point (is n) points = points
  points_with point (says b) points = points
  points_with point (refused n) points = points
  points_with point (refused_after n k) points = points

  abbrev pub accepted : Call E → Answer → List (List E) → List (List E)
  accepted (add point code) a points = points_with point a points
  accepted (inc i l) a points = points
  accepted (dec i l) a points = points
  accepted (adjust qs) a points = points
  accepted compact a points = points

  -- the first n points of a list that has the last one first, put in a row, oldest first
  unfoldable pub joined_points : ℕ → List (List E) → List E
  joined_points zero points = []
  joined_points (suc n) [] = []
  joined_points (suc n) (point ∷ points) = joined_points n points ++ point

  -- 'That add's row is its own point or, with internal shingling, those of the shingle-size accepted adds that end with it,
  -- oldest first.' The add's point is the first of the list
  unfoldable pub row_of_add : Shape → List (List E) → List E
  row_of_add h points = cond h.internal_shingling (joined_points h.shingle_size points) (joined_points 1 points)

-- 'the place in the add's result'
abbrev pub place_in : Answer → ℕ
place_in (kept i l laid left) = place_of laid
place_in waiting = 0
place_in done = 0
place_in (is n) = 0
place_in (says b) = 0
place_in (refused n) = 0
place_in (refused_after n k) = 0

-- ---- each index

-- the add that gave an index: the calls up to it, its row, and the place in its result
pub record Given (E : Type 0) : Type 0 where
  pub calls : List (Call E)
  pub row : List E
  pub place : ℕ

-- 'An index is live from the kept add that gives it until, counted from there, its accepted decs outnumber its accepted incs.'
pub data Life (E : Type 0) : Type 0 where
  dead : Life E
  alive : (incs decs : ℕ) → Given E → Life E

-- all of a history: each index, the kept adds, the accepted incs and decs, and the accepted adds' points, the last one first
pub record History (E : Type 0) : Type 0 where
  pub life : ℕ → Life E
  pub adds : ℕ
  pub incs : ℕ
  pub decs : ℕ
  pub points : List (List E)

module _ {E : Type 0} where
  -- 'one plus incs less decs accepted since the add that gave the index'
  abbrev pub count : Life E → ℕ
  count dead = 0
  count (alive incs decs g) = 1 + incs - decs

  abbrev pub is_live : Life E → Bool
  is_live dead = false
  is_live (alive incs decs g) = true

  abbrev pub inced_life : Life E → Life E
  inced_life dead = dead
  inced_life (alive incs decs g) = alive (incs + 1) decs g

  -- 'until .. its accepted decs outnumber its accepted incs'
  abbrev pub deced_life : Life E → Life E
  deced_life dead = dead
  deced_life (alive incs decs g) = cond (ltb incs (decs + 1)) dead (alive incs (decs + 1) g)

  abbrev pub nothing : History E
  nothing = record { life = λ i. dead; adds = 0; incs = 0; decs = 0; points = [] }

  -- one change more, by a call with this add's data
  abbrev pub changed : Given E → Change → History E → History E
  changed g (gave i) s =
      record {
        life = λ k. cond (eqb k i) (alive 0 0 g) (s.life k);
        adds = s.adds + 1;
        incs = s.incs;
        decs = s.decs;
        points = s.points;
      }
  changed g (inced i) s =
      record {
        life = λ k. cond (eqb k i) (inced_life (s.life k)) (s.life k);
        adds = s.adds;
        incs = s.incs + 1;
        decs = s.decs;
        points = s.points;
      }
  changed g (deced i) s =
      record {
        life = λ k. cond (eqb k i) (deced_life (s.life k)) (s.life k);
        adds = s.adds;
        incs = s.incs;
        decs = s.decs + 1;
        points = s.points;
      }

  unfoldable pub changed_by : Given E → List Change → History E → History E
  changed_by g [] s = s
  changed_by g (c ∷ cs) s = changed_by g cs (changed g c s)

  abbrev pub with_points : List (List E) → History E → History E
  with_points points s = record { life = s.life; adds = s.adds; incs = s.incs; decs = s.decs; points = points }

  -- one call more, with its answer: the list of calls begins with it
  unfoldable pub recorded : Shape → Call E → List (Call E) → Answer → History E → History E
  recorded h c before a s =
      let points = accepted c a s.points in
      changed_by (record { calls = c ∷ before; row = row_of_add h points; place = place_in a }) (changes c a) (with_points points s)

module _ {E : Type 0} (eq : E → E → Bool) (zero_element : E) where
  -- the history of a list of calls
  unfoldable pub history : Shape → PointStore E → List (Call E) → History E
  history h start [] = nothing
  history h start (c ∷ before) = recorded h c before (answer_to eq zero_element start c before) (history h start before)
