-- Document 02, Point 7: a store on a page.
use Rattle.std.specs.Prelude.{ℕ, Bool, List, [], ◌∷◌, length, get_or, ltb}
use Rattle.interval_store_manager.specs.Calls.{Decided}
use Rattle.decimal.specs.Lines.{lines}
use Rattle.decimal.specs.Segments.{put}
use Rattle.store_definitions.specs.Answers.{is, Output, output}
use Rattle.store_definitions.specs.Decisions.{and_then, refuse_if, then_output, form_decided}
use Rattle.store_definitions.specs.Memory.{PointStore}
use Rattle.store_definitions.specs.Parts.{table_length}
use Rattle.page.specs.Listed.{listed}

-- an index of the table is live where its count is above 0
abbrev pub counted : List ℕ → ℕ → Bool
counted counts i = ltb 0 (get_or counts i 0)

-- behind an index its count and its place
abbrev pub cells : List ℕ → List ℕ → ℕ → List ℕ
cells counts location i = get_or counts i 0 ∷ get_or location i 65535 ∷ []

-- 'One line a live index in rising order: index, count, place, six columns each, right-justified decimal, then a line feed'
unfoldable pub page_text : ℕ → List ℕ → List ℕ → List ℕ
page_text n counts location = lines 6 (listed n (counted counts) (cells counts location))

-- 'A page slice that is too short gets 18'
unfoldable pub room_decided : ℕ → List ℕ → Decided
room_decided room page = refuse_if (ltb room (length page)) 18

-- 'A longer slice is taken: the call returns the page's length and bytes past it are not touched.'
abbrev pub laid : List ℕ → List ℕ → Output ℕ
laid page text = output (is (length page)) (put 0 page text)

-- what follows the check; of a store it sees the table length, counts and places, and no element
unfoldable pub page_written : ℕ → List ℕ → List ℕ → List ℕ → Output ℕ
page_written n counts location text =
    let page = page_text n counts location in
    then_output (room_decided (length text) page) text (laid page text)

module _ {E : Type 0} where
  abbrev pub page_of : PointStore E → List ℕ
  page_of p = page_text (table_length p.header) p.memory.reference_count p.memory.location

  -- '18 after the store check'
  unfoldable pub page_decided : PointStore E → ℕ → Decided
  page_decided p room = and_then (form_decided p) (room_decided room (page_of p))

  unfoldable pub page_spec : PointStore E → List ℕ → Output ℕ
  page_spec p text = then_output (page_decided p (length text)) text (laid (page_of p) text)
