-- What the check of a label half answers: how many label indices and slots are free, where it is well-formed.
use Rattle.std.specs.Prelude.{ℕ, List, Bool, Option, Some, None, cond}
use Rattle.labels.specs.declared.LabelsFree.{LabelsFree}
use Rattle.labels.specs.Counted.{free_indices}
use Rattle.labels.specs.Labels.{Labels, labels_well}

abbrev pub free_in : Labels → LabelsFree
free_in l = record { labels = free_indices l.label_table; slots = free_indices l.attribute_table }

unfoldable pub half_checked : List ℕ → ℕ → Labels → Option LabelsFree
half_checked classes capacity l = cond (labels_well classes capacity l) (Some (free_in l)) None

-- with labels off nothing is looked at
abbrev pub labels_checked : Bool → List ℕ → ℕ → Labels → Option LabelsFree
labels_checked store_labels classes capacity l =
    cond store_labels (half_checked classes capacity l) (Some (record { labels = 0; slots = 0 }))
