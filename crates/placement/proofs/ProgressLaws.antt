-- What holds after each step of compaction: the write position stays behind what was read, and every point that was moved has kept
-- its elements, its turn and its rank.
use Rattle.std.specs.Prelude.{Bool, cond, ◌⊎◌, ◌≡◌, ℕ, suc, ◌+◌, ◌*◌, ◌-◌, ◌/◌, ◌%◌, ◌^◌, ◌≤◌, ◌<◌, length, take, drop, replicate}
use Rattle.std.proofs.Math.Bool.{true, false}
use mathlib.Core.List.{List, [], ◌∷◌, ◌++◌, append-nil, map-append}
use Rattle.std.proofs.Math.Logic.{inr}
use Rattle.std.proofs.Math.Path.{refl, ap}
use Rattle.std.proofs.Common.{sym, ◌∙◌, le_refl, le_of_eq, add-zero, mul-le-mul_right, lt_of_mul-lt-mul_right, leb-true, leb-false, drop_of_length-le, drop-drop, take-take}
use Rattle.std.specs.Int.{◌∣◌}
use Rattle.std.proofs.Math.Nat.{sub_self, sub-zero, le_of_dvd, dvd-add, dvd-sub, dvd-mul_left, dvd-zero, div-mul_cancel, add-mul-mod_self_right}
use native.Mathlib.Omega.{arith}
use Rattle.std.proofs.Math.Dec.{leb}
use Rattle.std.proofs.Math.ListN.{length-append}
use Rattle.std.proofs.lemmas.List.{length-replicate, drop-append-le}
use Rattle.placement.specs.Row.{piece}
use Rattle.placement.specs.Pieces.{piece_join, drop_piece, length_piece, piece_front}
use Rattle.placement.specs.Alignment.{zeros_before}
use Rattle.placement.specs.AlignmentLaws.{point_room, point_room_lem, Aligned, zeros_aligned}
use Rattle.placement.specs.Compaction.{Move, copied_down}
use Rattle.placement.specs.MovedLaws.{olds}
use Rattle.placement.specs.Order.{Each, Ranked, Below, each_map, each_last, ranked_last}
use Rattle.placement.specs.Places.{Shaped}
use Rattle.placement.specs.Steps.{Progress, taken, step}

-- a point that was moved: it ends by the write position, and its elements and its turn are what they were
pub record PointKept {E : Type 0} (dims base : ℕ) (rotation : Bool) (elements : List E) (least : ℕ) (front : List E) (free : ℕ) (m : Move) : Type 0 where
  pub ends : m.new * base + dims ≤ free
  pub same : piece (m.new * base) dims front ≡ piece (m.old * base) dims elements
  pub same_turn : rotation ≡ true → m.new * base % dims ≡ m.old * base % dims
  pub older : m.old < least

-- the places `ps` have been met, and the next is at least `least`
pub record Sound {E : Type 0} (dims base : ℕ) (rotation : Bool) (elements : List E) (limit : ℕ) (ps : List ℕ) (least : ℕ) (s : Progress E) : Type 0 where
  -- writing stays behind reading, and reading inside the limit
  pub behind : s.written.free ≤ s.read
  pub inside : s.read ≤ limit
  -- the next point ends further up
  pub next : s.read + base ≤ least * base + dims
  pub whole_free : base ∣ s.written.free
  pub whole_read : base ∣ s.read
  pub counted : length s.written.front ≡ s.written.free
  pub aligned : rotation ≡ true → dims ∣ s.read - s.written.free
  pub room : s.written.free ≤ length ps * point_room rotation dims base
  pub started : (s.written.free ≡ 0) ⊎ (dims ≤ s.written.free)
  -- the last elements written are the last that were read
  pub last : ℕ
  pub last_next : s.read ≤ least * base + last
  pub last_free : last ≤ s.written.free
  pub last_same : drop (s.written.free - last) s.written.front ≡ piece (s.read - last) last elements
  pub olds_met : olds s.written.moves ≡ ps
  pub kept : Each (PointKept dims base rotation elements least s.written.front s.written.free) s.written.moves
  pub ranked : Ranked s.written.moves

module _ {E : Type 0} (zero_element : E) (dims base : ℕ) (rotation : Bool) (elements : List E) (limit : ℕ) (shaped : Shaped dims base) (small : limit + dims < 2 ^ 64) (inside : limit ≤ length elements) where
  module _ (ps : List ℕ) (least : ℕ) (s : Progress E) (sound : Sound dims base rotation elements limit ps least s) (p : ℕ) (in_order : least ≤ p) (ends : p * base + dims ≤ limit) where
    -- zeros, and then elements from `from` up to the end of the point at p, of which those before `from` are written already
    pub record Ready (zeros from : ℕ) : Type 0 where
      pub low : p * base ≤ from
      pub high : from + base ≤ p * base + dims
      pub behind : s.written.free + zeros ≤ from
      pub few : zeros + dims ≤ point_room rotation dims base
      pub whole_zeros : base ∣ zeros
      pub whole_from : base ∣ from
      pub aligned : rotation ≡ true → dims ∣ from - (s.written.free + zeros)
      pub enough : from - p * base ≤ s.written.free + zeros
      pub same : drop (s.written.free + zeros - (from - p * base)) (s.written.front ++ replicate zeros zero_element) ≡ piece (p * base) (from - p * base) elements

    module _ (zeros from : ℕ) (r : Ready zeros from) where
      -- before and after: the write position, and what has been written with the zeros and with all
      abbrev f : ℕ
      f = s.written.free

      abbrev end : ℕ
      end = p * base + dims

      abbrev f' : ℕ
      f' = f + zeros + (end - from)

      abbrev before : List E
      before = s.written.front ++ replicate zeros zero_element

      abbrev front : List E
      front = before ++ piece from (end - from) elements

      abbrev m : Move
      m = record { old = p; new = (f' - dims) / base }

      whole_f' : base ∣ f'
      whole_f' =
          dvd-add base (dvd-add base sound.whole_free r.whole_zeros)
          (dvd-sub base (dvd-add base (dvd-mul_left base p) shaped.whole) r.whole_from)

      -- the point ends where writing does
      at : m.new * base ≡ f' - dims
      at = div-mul_cancel base (dvd-sub base whole_f' shaped.whole)

      ends_there : m.new * base + dims ≡ f'
      ends_there = omega (arith, at, r.low, r.high, r.enough)

      counted_before : length before ≡ f + zeros
      counted_before = length-append s.written.front (replicate zeros zero_element) ∙ rw (sound.counted, length-replicate)

      -- the last elements written are the point's
      its_elements : drop (f' - dims) front ≡ piece (p * base) dims elements
      its_elements =
          let low : p * base ≤ from = r.low in
          let high : from + base ≤ end = r.high in
          let enough : from - p * base ≤ f + zeros = r.enough in
          ap (λ (n : ℕ). drop n front) (let e : f' - dims ≡ f + zeros - (from - p * base) = omega arith in e)
          ∙ drop-append-le (f + zeros - (from - p * base)) before (piece from (end - from) elements) (omega (arith, counted_before))
          ∙ ap (λ (l : List E). l ++ piece from (end - from) elements) r.same
          ∙ piece_join (p * base) from end elements low (omega arith)
          ∙ ap (λ (n : ℕ). piece (p * base) n elements) (let e : end - p * base ≡ dims = omega arith in e)

      its_turn : rotation ≡ true → m.new * base % dims ≡ p * base % dims
      its_turn e =
          let d : ℕ = from - (f + zeros) in
          let turns : d / dims * dims ≡ d = div-mul_cancel dims (r.aligned e) in
          let shifted : p * base ≡ m.new * base + d / dims * dims = omega (arith, ends_there, r.low, r.high, r.behind) in
          sym (ap (λ (n : ℕ). n % dims) shifted ∙ add-mul-mod_self_right (m.new * base) (d / dims) dims)

      this_kept : PointKept dims base rotation elements (suc p) front f' m
      this_kept =
          record {
            ends = le_of_eq ends_there;
            same = ap (λ (n : ℕ). piece n dims front) at ∙ ap (take dims) its_elements ∙ take-take dims dims (drop (p * base) elements) (le_refl dims);
            same_turn = its_turn;
            older = omega arith;
          }

      -- the points that were moved before are left alone
      still_kept : (l : Move) → PointKept dims base rotation elements least s.written.front f l → PointKept dims base rotation elements (suc p) front f' l
      still_kept l k =
          record {
            ends = omega (arith, k.ends);
            same =
                piece_front (l.new * base) dims before (piece from (end - from) elements) (omega (arith, k.ends, counted_before))
                ∙ piece_front (l.new * base) dims s.written.front (replicate zeros zero_element) (omega (arith, k.ends, sound.counted))
                ∙ k.same;
            same_turn = k.same_turn;
            older = omega (arith, k.older);
          }

      -- and stand below
      below : (l : Move) → PointKept dims base rotation elements least s.written.front f l → Below l m
      below l k =
          (omega (arith, k.older), lt_of_mul-lt-mul_right base (omega (arith, k.ends, ends_there, r.high, shaped.some_base)))

      taken_sound : Sound dims base rotation elements limit (ps ++ p ∷ []) (suc p) (taken zero_element dims base elements zeros from p s)
      unfolding taken copied_down
      taken_sound =
          let low : p * base ≤ from = r.low in
          let high : from + base ≤ end = r.high in
          let behind : f + zeros ≤ from = r.behind in
          record {
            behind = omega arith;
            inside = ends;
            next = omega arith;
            whole_free = whole_f';
            whole_read = dvd-add base (dvd-mul_left base p) shaped.whole;
            counted =
                length-append before (piece from (end - from) elements)
                ∙ rw (counted_before, length_piece from (end - from) elements (omega arith));
            aligned = λ e. rw (let d : end - f' ≡ from - (f + zeros) = omega arith in d) (r.aligned e);
            room = simp length-append (omega (arith, sound.room, r.few));
            started = inr (omega (arith, ends_there));
            last = dims;
            last_next = omega arith;
            last_free = omega (arith, ends_there);
            last_same = its_elements ∙ ap (λ (n : ℕ). piece n dims elements) (let e : p * base ≡ end - dims = omega arith in e);
            olds_met = map-append (λ (l : Move). l.old) s.written.moves (m ∷ []) ∙ ap (λ (l : List ℕ). l ++ p ∷ []) sound.olds_met;
            kept =
                each_last (PointKept dims base rotation elements (suc p) front f') s.written.moves m
                (each_map still_kept s.written.moves sound.kept)
                this_kept;
            ranked = ranked_last s.written.moves m sound.ranked (each_map below s.written.moves sound.kept);
          }

    -- a point that starts at or before the end of what was read
    joins_ready : p * base ≤ s.read → Ready 0 s.read
    joins_ready h =
        let f : ℕ = s.written.free in
        let k : ℕ = s.read - p * base in
        let l : ℕ = sound.last in
        let above : least * base ≤ p * base = mul-le-mul_right base in_order in
        let enough : k ≤ l = omega (arith, sound.last_next) in
        let same : drop (f - k) s.written.front ≡ piece (p * base) k elements =
        ap (λ (n : ℕ). drop n s.written.front) (let e : f - k ≡ f - l + (l - k) = omega (arith, sound.last_free) in e)
        ∙ sym (drop-drop (l - k) (f - l) s.written.front)
        ∙ ap (drop (l - k)) sound.last_same
        ∙ ap (λ (n : ℕ). drop (l - k) (piece (s.read - l) n elements)) (let e : l ≡ l - k + k = omega arith in e)
        ∙ drop_piece (s.read - l) (l - k) k elements
        ∙ ap (λ (n : ℕ). piece n k elements) (let e : s.read - l + (l - k) ≡ p * base = omega (arith, sound.behind, sound.last_free) in e) in
        record {
          low = h;
          high = omega (arith, sound.next);
          behind = omega (arith, sound.behind);
          few = omega (arith, point_room_lem rotation dims base (le_of_dvd shaped.some shaped.whole));
          whole_zeros = dvd-zero base;
          whole_from = sound.whole_read;
          aligned = λ e. rw add-zero (sound.aligned e);
          enough = omega (arith, sound.last_free);
          same = rw (add-zero, append-nil) same;
        }

    -- a point that starts after it
    pub starts_ready : s.read < p * base → Ready (zeros_before rotation dims s.written.free (p * base)) (p * base)
    starts_ready h =
        let f : ℕ = s.written.free in
        let z : ℕ = zeros_before rotation dims f (p * base) in
        let aligned : Aligned rotation dims base f (p * base) z =
        zeros_aligned rotation dims base f (p * base) (omega (arith, sound.behind)) (omega arith) shaped.some shaped.whole sound.whole_free (dvd-mul_left base p) in
        record {
          low = le_refl (p * base);
          high = omega (arith, le_of_dvd shaped.some shaped.whole);
          behind = aligned.behind;
          few = aligned.few;
          whole_zeros = aligned.whole;
          whole_from = dvd-mul_left base p;
          aligned = aligned.same_turn;
          enough = omega arith;
          same =
              rw (sub_self, sub-zero)
              (drop_of_length-le (s.written.front ++ replicate z zero_element) {i = f + z} (simp (length-append, length-replicate) (omega (arith, sound.counted))));
        }

    pub step_sound : Sound dims base rotation elements limit (ps ++ p ∷ []) (suc p) (step zero_element dims base rotation elements s p)
    unfolding step
    step_sound = go (leb (p * base) s.read) refl
      where
        go : (t : Bool) → leb (p * base) s.read ≡ t → Sound dims base rotation elements limit (ps ++ p ∷ []) (suc p) (cond t (taken zero_element dims base elements 0 s.read p s) (taken zero_element dims base elements (zeros_before rotation dims s.written.free (p * base)) (p * base) p s))
        go true e = taken_sound 0 s.read (joins_ready (leb-true (p * base) s.read e))
        go false e = taken_sound (zeros_before rotation dims s.written.free (p * base)) (p * base) (starts_ready (leb-false (p * base) s.read e))
