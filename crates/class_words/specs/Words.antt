-- Which words can hold a table of classes.
use Rattle.std.specs.Prelude.{ℕ, ◌+◌, Bool, List, get_or, ltb}
use Rattle.terms.specs.Below.{every_below}

-- each of the 24 words from a word on is a byte
unfoldable pub classes_legal : (at : ℕ) → List ℕ → Bool
classes_legal at words = every_below 24 (λ code. ltb (get_or words (at + code) 0) 256)
