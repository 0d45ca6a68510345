-- The store's add, and then the tallies.
use Rattle.std.proofs.Common.{rules, sym, ◌∙◌, ◌≡◌, length}
use Rattle.float_bits.specs.Words.{words_equal}
use Rattle.store_definitions.specs.Lent.{lent_taking}
use Rattle.store_definitions.specs.Memory.{point_store}
use Rattle.store_definitions.specs.Answers.{added_means, outcome}
use Rattle.probes_definitions.specs.Memory.{point_probes}
use Rattle.probes_definitions.proofs.Sound.{probes_sound}
use Rattle.probes.specs.Sets.{add_of, window_enough, tally_room, set_done, set_failed}
use Rattle.probes.proofs.set_filled.Goals as goal

pub filled_words-filled-requires : goal.filled_words-filled-requires
filled_words-filled-requires c =
    let a = c.args in
    let m = lent_taking a.store.now a.last_known_shingle.now a.points.now a.labels.now in
    let p = point_probes a.p.now m in
    window_enough words_equal 0 p a.kinds.now a.words.now a.label c.requires.0

pub add_unchecked-requires : goal.add_unchecked-requires
add_unchecked-requires c =
    let a = c.args in
    let m = lent_taking a.store.now a.last_known_shingle.now a.points.now a.labels.now in
    let p = point_probes a.p.now m in
    ((probes_sound p c.requires.0).well, c.requires.1)

pub returns-in_err-kept-clause-set : goal.returns-in_err-kept-clause-set
returns-in_err-kept-clause-set c =
    let a = c.args in
    let m = lent_taking a.store.now a.last_known_shingle.now a.points.now a.labels.now in
    let p = point_probes a.p.now m in
    let u = c.add_unchecked.new in
    let q = point_store u.s (lent_taking u.store u.last_known_shingle u.points u.labels) in
    let o = add_of words_equal 0 p a.kinds.now a.words.now a.label c.filled_words-filled.result c.filled_words-filled.ensures (outcome (added_means c.add_unchecked.result) q) c.add_unchecked.ensures.added in
    let kinds_eight : length a.kinds.now ≡ 8 = search rules in
    let words_eight : length a.words.now ≡ 8 = search rules in
    let same = kinds_eight ∙ sym words_eight in
    let refused = set_failed words_equal 0 p a.kinds.now a.words.now a.label c.requires.0 c.add_unchecked.result q o same _ c.in_err-kept.was in
    search (rules, refused)

pub tallied-p-requires : goal.tallied-p-requires
tallied-p-requires c =
    let a = c.args in
    let m = lent_taking a.store.now a.last_known_shingle.now a.points.now a.labels.now in
    let p = point_probes a.p.now m in
    let u = c.add_unchecked.new in
    let q = point_store u.s (lent_taking u.store u.last_known_shingle u.points u.labels) in
    let o = add_of words_equal 0 p a.kinds.now a.words.now a.label c.filled_words-filled.result c.filled_words-filled.ensures (outcome (added_means c.add_unchecked.result) q) c.add_unchecked.ensures.added in
    tally_room words_equal 0 p a.kinds.now a.words.now a.label c.requires.0 c.add_unchecked.result q o _ c.in_ok-kept.was

pub returns-clause-set : goal.returns-clause-set
returns-clause-set c =
    let a = c.args in
    let m = lent_taking a.store.now a.last_known_shingle.now a.points.now a.labels.now in
    let p = point_probes a.p.now m in
    let u = c.add_unchecked.new in
    let q = point_store u.s (lent_taking u.store u.last_known_shingle u.points u.labels) in
    let o = add_of words_equal 0 p a.kinds.now a.words.now a.label c.filled_words-filled.result c.filled_words-filled.ensures (outcome (added_means c.add_unchecked.result) q) c.add_unchecked.ensures.added in
    let kinds_eight : length a.kinds.now ≡ 8 = search rules in
    let words_eight : length a.words.now ≡ 8 = search rules in
    let same = kinds_eight ∙ sym words_eight in
    set_done words_equal 0 p a.kinds.now a.words.now a.label c.requires.0 c.add_unchecked.result q o same _ c.in_ok-kept.was _ c.tallied-p.ensures
