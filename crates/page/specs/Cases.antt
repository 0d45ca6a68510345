-- Document 02's page of worked case D, computed: 'that line, then index 3, count 1, place 1'.
use Rattle.std.specs.Prelude.{[], ◌∷◌, ◌≡◌, refl}
use Rattle.decimal.specs.Field.{column, columns, field}
use Rattle.decimal.specs.Lines.{fields, line, lines}
use Rattle.page.specs.Listed.{listed}
use Rattle.page.specs.Page.{page_text}

pub worked_D : page_text 5 (0 ∷ 0 ∷ 1 ∷ 1 ∷ 0 ∷ []) (65535 ∷ 65535 ∷ 0 ∷ 1 ∷ 65535 ∷ [])
    ≡ 32 ∷ 32 ∷ 32 ∷ 32 ∷ 32 ∷ 50 ∷ 32 ∷ 32 ∷ 32 ∷ 32 ∷ 32 ∷ 49 ∷ 32 ∷ 32 ∷ 32 ∷ 32 ∷ 32 ∷ 48 ∷ 10
    ∷ 32 ∷ 32 ∷ 32 ∷ 32 ∷ 32 ∷ 51 ∷ 32 ∷ 32 ∷ 32 ∷ 32 ∷ 32 ∷ 49 ∷ 32 ∷ 32 ∷ 32 ∷ 32 ∷ 32 ∷ 49 ∷ 10 ∷ []
unfolding page_text listed lines line fields field columns column
worked_D = refl
