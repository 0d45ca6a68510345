-- A store that is well-formed has shingles.
use Rattle.std.proofs.Common.{sym, ◌∙◌}
use Rattle.probes_check.specs.Checked.{lent_shingle}
use Rattle.probes_check.proofs.check.check_probes.Goals as goal

pub eight_probes-eight-requires : goal.eight_probes-eight-requires
eight_probes-eight-requires c =
    let a = c.args in
    lent_shingle a.p a.store.now a.last_known_shingle.now a.tables _ (sym c.check.ensures ∙ c.in_ok-figures.was)
