-- The readings as kinds and words.
use Prim.Native.Nat.{ℕ}
use Rattle.float_bits.specs.Words.{words_equal}
use Rattle.store_definitions.specs.Memory.{Memory}
use Rattle.store_definitions.specs.Lent.{lent_taking}
use Rattle.probes_definitions.specs.Memory.{point_probes}
use mathlib.Core.List.{List}
use mathlib.Core.Path.{ap₂, ◌∙◌}
use Rattle.probes_definitions.specs.Setting.{set_kinds_spec}
use Rattle.probes.specs.Sets.{floats_set}
use Rattle.probes.proofs.set.Goals as goal

pub returns-clause-set : goal.returns-clause-set
returns-clause-set c =
    let a = c.args in
    let m : Memory ℕ = lent_taking a.store.now a.last_known_shingle.now a.points.now a.labels.now in
    let p = point_probes a.p.now m in
    c.set_words.ensures.set
    ∙ ap₂ (λ (ks ws : List ℕ). set_kinds_spec words_equal 0 p ks ws a.label) c.kinds_of-kinds.ensures.0 c.words_of-words.ensures
    ∙ floats_set words_equal p a.readings a.label c.kinds_of-kinds.ensures.1
