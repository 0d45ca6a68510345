-- The invariant: what is found of the entries so far, which are marked.
use Rattle.std.proofs.Common.{◌≡◌, ℕ, ◌+◌, ◌≤◌, [], ◌∷◌, ◌++◌, length, get_or, take, ap, ◌∙◌, add-one, arith, take-suc}
use Rattle.hold_check.specs.ListedOnce.{marks_more, listed_more}
use Rattle.hold_check.proofs.list.mark_list.Goals as goal

pub loop-entry-preserved : goal.loop-entry-preserved
loop-entry-preserved c =
    let a = c.args in
    let v = c.loop-entry.invariant in
    let k = c.loop-entry.entry-index in
    let n = length a.counts.now in
    let x = get_or a.list.now k 0 in
    let more : take (k + 1) a.list.now ≡ take k a.list.now ++ x ∷ [] = ap (λ (j : ℕ). take j a.list.now) (add-one k) ∙ take-suc a.list.now k 0 c.loop-entry-test.true in
    let lent : n ≤ length c.loop-entry.marks = omega (arith, c.requires.0, v.0) in
    let e = c.mark_entry-ok.ensures in (
      c.mark_entry-ok.auto.marks ∙ v.0,
      (
        rw (more, listed_more n a.counts.now (take k a.list.now) c.loop-entry.marks v.1.1 lent x, ← v.1.0, e.0),
        rw (more, e.1) (marks_more n a.counts.now (take k a.list.now) c.loop-entry.marks v.1.1 lent x),
      ),
    )
