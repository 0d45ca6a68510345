-- The class answer of a label that is live before and after another label is taken.
use Rattle.std.specs.Prelude.{ℕ, ◌≤◌, ◌<◌, List, ◌≡◌}
use Rattle.labels.specs.Labels.{Labels, label_count_at, label_taken}
use Rattle.labels.specs.Sound.{Sound}
use Rattle.labels.specs.AnswerLaws.{class_answer, stays}
use Rattle.labels.proofs.TakeLaws.{label_keeps, code_kept}

module _ (classes : List ℕ) (c : ℕ) where
  module _ (l : Labels) (w : Sound classes c l) (i : ℕ) (m : i < c) (u : 0 < label_count_at l i) where
    pub taken_answer : (code : ℕ) → code ≤ 23 → 0 < l.label_table.manager.last_in_use → 0 < label_count_at (label_taken classes c l code).after i → class_answer c (label_taken classes c l code).after i ≡ class_answer c l i
    taken_answer code h f v =
        stays classes c l (label_taken classes c l code).after w (label_keeps classes c l w code h f) i m u v (code_kept classes c l w code h f i m u).0
