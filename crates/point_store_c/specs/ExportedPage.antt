-- What the page becomes for a C caller: a return value, a lent number for its length, and the lent text.
use Rattle.std.specs.Prelude.{ℕ, List, ◌≡◌}
use Rattle.std.proofs.Common.{◌∙◌, ap}
use Rattle.store_definitions.specs.declared.Store.{Store}
use Rattle.store_definitions.specs.Answers.{Answer, Output, output}
use Rattle.store_definitions.specs.Memory.{Memory, PointStore, point_store}
use Rattle.point_store_c.specs.Records.{store_in}
use Rattle.point_store_c.specs.ExportedStore.{returned, answered, Read, read, exported_reading}

pub record Paged : Type 0 where
  pub value : ℕ
  pub numbers : List ℕ
  pub text : List ℕ

abbrev pub paged : ℕ → List ℕ → List ℕ → Paged
paged value numbers text = record { value = value; numbers = numbers; text = text }

-- an output with its length, for a caller whose lent number held this
unfoldable pub exported_page : List ℕ → Output ℕ → Paged
exported_page xs o = paged (returned o.answer) (answered xs o.answer) o.out

-- an answer with its text, read with one lent number
pub page_read : (a : Answer) (text xs ys : List ℕ) (n : ℕ) → read n ys ≡ exported_reading xs a → paged n ys text ≡ exported_page xs (output a text)
unfolding exported_reading exported_page
page_read a text xs ys n e = ap (λ (r : Read). paged r.value r.numbers text) e

-- from what the store's call ensures to what the exported call owes
pub page_exported : (words : List ℕ) (m : Memory ℕ) (s : Store) → s ≡ store_in words → (f : PointStore ℕ → Output ℕ) (a : Answer) (text : List ℕ) → output a text ≡ f (point_store s m)
    → (xs ys : List ℕ) (n : ℕ) → read n ys ≡ exported_reading xs a → paged n ys text ≡ exported_page xs (f (point_store (store_in words) m))
page_exported words m s read_in f a text ensures xs ys n e =
    page_read a text xs ys n e ∙ ap (exported_page xs) (ensures ∙ ap (λ (t : Store). f (point_store t m)) read_in)
