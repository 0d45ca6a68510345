-- The answers that let the next pair be taken, and the answers of the check and of a pair as an adjust gives them.
use Rattle.std.specs.Prelude.{ℕ, Bool, true, false}
use Rattle.store_definitions.specs.Answers.{Answer, kept, waiting, done, is, says, refused, refused_after}

abbrev pub accepted : Answer → Bool
accepted (kept i l laid left) = true
accepted waiting = true
accepted done = true
accepted (is n) = true
accepted (says b) = true
accepted (refused k) = false
accepted (refused_after k n) = false

abbrev pub checked_means : Bool → Answer
checked_means true = done
checked_means false = refused_after 1 0

-- a pair's answer, where `before` pairs stand before it
abbrev pub after_pairs : ℕ → Answer → Answer
after_pairs before (kept i l laid left) = kept i l laid left
after_pairs before waiting = waiting
after_pairs before done = done
after_pairs before (is n) = is n
after_pairs before (says b) = says b
after_pairs before (refused k) = refused_after k before
after_pairs before (refused_after k n) = refused_after k n
