-- Rows, before they are laid and where they stand.
use Rattle.std.specs.Prelude.{Bool, cond, List, ◌++◌, ℕ, take, drop}

-- Document 01, 'Add': 'The row to be laid is the window or else the caller's own point.'
unfoldable pub row_to_lay : {E : Type 0} → Bool → List E → List E → List E
row_to_lay internal window point = cond internal window point

-- 'With internal shingling the window drops its first base entries and gains the point.'
unfoldable pub moved_window : {E : Type 0} → ℕ → List E → List E → List E
moved_window base window point = drop base window ++ point

-- `count` elements from position `at` on
abbrev pub piece : {E : Type 0} → ℕ → ℕ → List E → List E
piece at count elements = take count (drop at elements)
