-- The invariant: the first k words are those of the filled set.
use native.Mathlib.Omega.{arith}
use mathlib.Core.Path.{◌≡◌, sym, ◌∙◌}
use lib.ListN.{length, length-set}
use borrow.Author.Rules.{rules}
use Rattle.probes_definitions.specs.Readings.{filled, of_kinds}
use Rattle.probes_definitions.specs.ReadingLaws.{filled_length, kinds_length}
use Rattle.probe_readings.specs.Entries.{written_more, filled_at}
use Rattle.probe_readings.proofs.fill.fill.Goals as goal

pub loop-k-preserved : goal.loop-k-preserved
loop-k-preserved c =
    let s = c in
    let a = s.args in
    let l = c.loop-k in
    let below = c.loop-k-test.true in
    let kinds_eight : length a.kinds.now ≡ 8 = search rules in
    let words_eight : length a.words.now ≡ 8 = search rules in
    let same = kinds_eight ∙ sym words_eight in
    let long = filled_length (of_kinds a.kinds.now a.words.now) a.last.now (omega (arith, kinds_length a.kinds.now a.words.now same, s.requires, kinds_eight)) ∙ kinds_length a.kinds.now a.words.now same ∙ kinds_eight in (
      length-set l.set l.k c.word_stored.result ∙ l.invariant.0,
      written_more (filled (of_kinds a.kinds.now a.words.now) a.last.now) l.set l.k c.word_stored.result (omega (arith, below, long)) (omega (arith, below, l.invariant.0))
          (c.word_stored.ensures ∙ sym (filled_at a.kinds.now a.words.now a.last.now l.k (omega (arith, below, kinds_eight)) (omega (arith, below, words_eight)) (omega (arith, below, s.requires))))
          l.invariant.1,
    )
