-- The check, the decision, and then the set.
use Rattle.std.proofs.Common.{arith, rules, sym, ap, ◌∙◌}
use Rattle.std.proofs.lemmas.List.{take_all}
use Rattle.std.proofs.lemmas.Option.{MatchOption-at_some}
use Rattle.std.specs.Array.{IsFirstChunk}
use Rattle.float_bits.specs.Words.{words_equal}
use Rattle.interval_store_manager.specs.Calls.{decision_means}
use Rattle.labels.specs.Lent.{lists_taking}
use Rattle.store_definitions.specs.Lent.{lent_taking, points_lent, read_as}
use Rattle.probes_definitions.specs.Memory.{point_probes}
use Rattle.probes_check.specs.Checked.{probes_passed, probes_failed}
use Rattle.probes.specs.Sets.{words_ill, words_refused, words_go, eight_each}
use Rattle.probes.proofs.set_words.Goals as goal

pub returns-in_err-figures-clause-set : goal.returns-in_err-figures-clause-set
returns-in_err-figures-clause-set c =
    let a = c.args in
    let m = lent_taking a.store.now a.last_known_shingle.now a.points.now a.labels.now in
    let p = point_probes a.p.now m in
    let ill = probes_failed a.p.now m c.read-2.result c.check_probes.result _ (read_as c.read-2.result (points_lent a.points.now) c.read.result (lists_taking a.labels.now) c.read-2.ensures c.read.ensures a.store.now a.last_known_shingle.now) c.check_probes.ensures _ (sym c.ok_or.ensures.value ∙ c.in_err-figures.was) in
    let refused = words_ill words_equal 0 p a.kinds.now a.words.now a.label ill.0 in
    search (rules, refused, ill.1)

pub returns-in_err-set_decision-clause-set : goal.returns-in_err-set_decision-clause-set
returns-in_err-set_decision-clause-set c =
    let a = c.args in
    let m = lent_taking a.store.now a.last_known_shingle.now a.points.now a.labels.now in
    let p = point_probes a.p.now m in
    let well = probes_passed a.p.now m c.read-2.result c.check_probes.result _ (read_as c.read-2.result (points_lent a.points.now) c.read.result (lists_taking a.labels.now) c.read-2.ensures c.read.ensures a.store.now a.last_known_shingle.now) c.check_probes.ensures _ (sym c.ok_or.ensures.value ∙ c.in_ok-figures.was) in
    let refused = words_refused words_equal 0 p a.kinds.now a.words.now a.label well.0 _ (sym c.set_decision.ensures ∙ ap decision_means c.in_err-set_decision.was) in
    search (rules, refused)

pub set_filled-requires : goal.set_filled-requires
set_filled-requires c =
    let a = c.args in
    let m = lent_taking a.store.now a.last_known_shingle.now a.points.now a.labels.now in
    let p = point_probes a.p.now m in
    let well = probes_passed a.p.now m c.read-2.result c.check_probes.result _ (read_as c.read-2.result (points_lent a.points.now) c.read.result (lists_taking a.labels.now) c.read-2.ensures c.read.ensures a.store.now a.last_known_shingle.now) c.check_probes.ensures _ (sym c.ok_or.ensures.value ∙ c.in_ok-figures.was) in
    (well.0, well.1)

pub returns-clause-set : goal.returns-clause-set
returns-clause-set c =
    let a = c.args in
    let m = lent_taking a.store.now a.last_known_shingle.now a.points.now a.labels.now in
    let p = point_probes a.p.now m in
    let well = probes_passed a.p.now m c.read-2.result c.check_probes.result _ (read_as c.read-2.result (points_lent a.points.now) c.read.result (lists_taking a.labels.now) c.read-2.ensures c.read.ensures a.store.now a.last_known_shingle.now) c.check_probes.ensures _ (sym c.ok_or.ensures.value ∙ c.in_ok-figures.was) in
    let eight = eight_each words_equal 0 p a.kinds.now a.words.now a.label (sym c.set_decision.ensures ∙ ap decision_means c.in_ok-set_decision.was) in
    let kinds : IsFirstChunk a.kinds.now c.in_ok-kinds.kinds.now 8 = MatchOption-at_some {o = c.first_chunk.result} _ _ c.in_ok-kinds.kinds (search rules) c.first_chunk.ensures.cases in
    let words : IsFirstChunk a.words.now c.in_ok-words.words.now 8 = MatchOption-at_some {o = c.first_chunk-2.result} _ _ c.in_ok-words.words (search rules) c.first_chunk-2.ensures.cases in
    c.set_filled.ensures.set ∙ rw (kinds.same ∙ take_all 8 a.kinds.now (omega (arith, eight.0)), words.same ∙ take_all 8 a.words.now (omega (arith, eight.1))) (words_go words_equal 0 p a.kinds.now a.words.now a.label well.0 (sym c.set_decision.ensures ∙ ap decision_means c.in_ok-set_decision.was))

pub returns-in_err-kinds-clause-set : goal.returns-in_err-kinds-clause-set
returns-in_err-kinds-clause-set c =
    let a = c.args in
    let m = lent_taking a.store.now a.last_known_shingle.now a.points.now a.labels.now in
    let p = point_probes a.p.now m in
    let eight = eight_each words_equal 0 p a.kinds.now a.words.now a.label (sym c.set_decision.ensures ∙ ap decision_means c.in_ok-set_decision.was) in
    absurd (search (rules, eight.0, c.first_chunk.ensures.variant, c.ok_or-2.ensures.variant, c.in_err-kinds.was))

pub returns-in_err-words-clause-set : goal.returns-in_err-words-clause-set
returns-in_err-words-clause-set c =
    let a = c.args in
    let m = lent_taking a.store.now a.last_known_shingle.now a.points.now a.labels.now in
    let p = point_probes a.p.now m in
    let eight = eight_each words_equal 0 p a.kinds.now a.words.now a.label (sym c.set_decision.ensures ∙ ap decision_means c.in_ok-set_decision.was) in
    absurd (search (rules, eight.1, c.first_chunk-2.ensures.variant, c.ok_or-3.ensures.variant, c.in_err-words.was))
