-- One turn of compaction's scan as the code makes it: where a point's words are copied from and after how many zeros, and what is left.
use Rattle.std.specs.Prelude.{◌≡◌, ℕ, ◌+◌, ◌-◌, ◌*◌, ◌/◌, ◌<◌, ◌≤◌, Bool, cond, List, length, replicate, nat_le}
use Rattle.placement.specs.Alignment.{zeros_before}
use Rattle.placement.specs.Scanned.{ScanState, advanced}
use Rattle.placement_rows.specs.Compactable.{Compactable}
use Rattle.placement_rows.specs.IndexTable.{Indexed}
use Rattle.placement_rows.specs.declared.one_pass.Progress.{Progress}
use Rattle.placement_rows.specs.declared.one_pass.Run.{Run}

abbrev pub state : List ℕ → List ℕ → (free read : ℕ) → ScanState ℕ
state elements location free read = record { elements = elements; location = location; free = free; read = read }

abbrev pub scan : List ℕ → List ℕ → Progress → ScanState ℕ
scan elements location p = state elements location p.free p.read

-- the quotients that are carried along: of the write position, and of the end of what was read, which is a place's
pub record Carried (base : ℕ) (p : Progress) : Type 0 where
  pub free_place_lem : p.free_place ≡ p.free / base
  pub read_place_lem : p.read ≡ p.read_place * base

-- words from `from` up to the end of the point at `place`, after zeros
abbrev pub run_from : (dims base place free zeros from : ℕ) → Run
run_from dims base place free zeros from =
    record { zeros = zeros; from = from; place = (free + zeros + (place * base + dims - from) - dims) / base }

-- a point that starts at or before the end of what was read is read on from there; before any other come the zeros
unfoldable pub run_of : (dims base : ℕ) → Bool → (place free read : ℕ) → Run
run_of dims base rotation place free read =
    cond (nat_le (place * base) read)
    (run_from dims base place free 0 read)
    (run_from dims base place free (zeros_before rotation dims free (place * base)) (place * base))

-- what the next run requires of the place that is met: where it joins what was read, the words written so far reach back to its start
pub record Ready (dims base place free read : ℕ) : Type 0 where
  pub some : 0 < dims
  pub some_base : 0 < base
  pub small : place * base + dims < 65536
  pub written : free < 65536
  pub enough : place * base ≤ read → read ≤ free + place * base
  pub within : place * base ≤ read → read ≤ place * base + dims

-- a run that can be copied down, of a point that ends at `end` and has index i
pub record Copyable (dims base : ℕ) (run : Run) (end i free words indices : ℕ) : Type 0 where
  pub behind : free + run.zeros ≤ run.from
  pub forward : run.from ≤ end
  pub ends : end ≤ words
  pub small : end < 65536
  pub enough : dims ≤ free + run.zeros + (end - run.from)
  pub placed : run.place ≡ (free + run.zeros + (end - run.from) - dims) / base
  pub listed : i < indices

-- the point of index i, at its place, is met
unfoldable pub met : (dims base : ℕ) → Bool → (place i : ℕ) → ScanState ℕ → ScanState ℕ
met dims base rotation place i t =
    let run : Run = run_of dims base rotation place t.free t.read in
    advanced 0 dims base run.zeros run.from (place * base + dims) i t

-- what the scan of places requires: a table from place to index that reaches to the last place
pub record Scannable (dims base : ℕ) (location table : List ℕ) (free words : ℕ) : Type 0 where
  pub compactable : Compactable dims base location free words
  pub indexed : Indexed location table (length location)
  pub reaches : free / base ≤ length table
  pub small : length table ≤ 65535

-- a table with no index in it yet
pub record Tabled (dims base : ℕ) (location table : List ℕ) (free words : ℕ) : Type 0 where
  pub compactable : Compactable dims base location free words
  pub clear : table ≡ replicate (length table) 65535
  pub reaches : free / base ≤ length table
  pub small : length table ≤ 65535
