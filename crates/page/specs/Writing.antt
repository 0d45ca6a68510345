-- What the writer's loop relies on. Its turns are in proofs/WritingLaws.
use Rattle.std.specs.Prelude.{ℕ, ◌≤◌, List, ◌≡◌, length}
use Rattle.store_check.specs.Entries.{counts_live}

-- what the writer relies on: entries for every index of the table, and how many are live
pub record Readable (n live : ℕ) (counts location : List ℕ) : Type 0 where
  pub table_most : n ≤ 1024
  pub counts_lent : n ≤ length counts
  pub places_lent : n ≤ length location
  pub live_is : live ≡ counts_live n counts
