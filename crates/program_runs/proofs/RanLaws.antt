-- A program's calls are a run: the store that they leave, and their answers, are those of which the list guarantee speaks.
use Rattle.std.specs.Prelude.{ℕ, List, [], ◌∷◌, ◌≡◌, refl, Result}
use Rattle.std.proofs.Common.{ap, sym, ◌∙◌}
use Rattle.terms.specs.declared.Refusal.{Refusal}
use Rattle.float_bits.specs.Words.{words_equal}
use Rattle.store_definitions.specs.declared.Shape.{Shape}
use Rattle.store_definitions.specs.declared.Store.{Store}
use Rattle.store_definitions.specs.Memory.{Memory, PointStore, point_store}
use Rattle.store_definitions.specs.Answers.{Answer, done, opened_means, Outcome, outcome}
use Rattle.store_definitions.specs.Lent.{left}
use Rattle.store_definitions.specs.Opening.{opened_store, open_spec}
use Rattle.store_adjust.specs.Pairs.{pairings, pairings_of}
use Rattle.guarantee.specs.Run.{Call, add, inc, dec, adjust, compact, called, after, answer_to}
use Rattle.guarantee.specs.Guarantee.{Guarantee}
use Rattle.guarantee.proofs.Theorem.{guaranteed}
use Rattle.program_runs.specs.Ran.{Opened, opens, Ran, none_yet, adds, incs, decs, adjusts, adjusts_plain, compacts}

pub opened_is : {h : Shape} {text : List ℕ} {m : Memory ℕ} {start : PointStore ℕ} → Opened h text m start → open_spec 0 h text m ≡ outcome done start
opened_is (opens h a b c d e f g h' i j k l m n o text answer s ensures accepted) =
    sym ensures ∙ ap (λ (x : Result Store Refusal). outcome (opened_means x) (point_store (opened_store x) (left a b c d e f g h' i j k l m n o))) accepted

-- what a run answers
unfoldable pub answers_to : PointStore ℕ → List (Call ℕ) → List Answer
answers_to start [] = []
answers_to start (c ∷ calls) = answer_to words_equal 0 start c calls ∷ answers_to start calls

pub record IsRun (start : PointStore ℕ) (calls : List (Call ℕ)) (answers : List Answer) (p : PointStore ℕ) : Type 0 where
  pub store : p ≡ after words_equal 0 start calls
  pub answers_same : answers ≡ answers_to start calls

-- one call more
call : (c : Call ℕ) {start : PointStore ℕ} {calls : List (Call ℕ)} {answers : List Answer} {a : Answer} {p q : PointStore ℕ} → outcome a q ≡ called words_equal 0 c p → IsRun start calls answers p → IsRun start (c ∷ calls) (a ∷ answers) q
unfolding after answers_to
call c {start} {calls} {answers} {a} {p} {q} ensures before =
    let e : outcome a q ≡ called words_equal 0 c (after words_equal 0 start calls) = ensures ∙ ap (called words_equal 0 c) before.store in
    record {
      store = ap (λ (o : Outcome ℕ). o.after) e;
      answers_same = ap (λ (o : Outcome ℕ). o.answer ∷ answers) e ∙ ap (λ (xs : List Answer). answer_to words_equal 0 start c calls ∷ xs) before.answers_same;
    }

-- a program's calls leave the run's store and give the run's answers
pub ran : {start : PointStore ℕ} {calls : List (Call ℕ)} {answers : List Answer} {q : PointStore ℕ} → Ran start calls answers q → IsRun start calls answers q
unfolding after answers_to
ran none_yet = record { store = refl; answers_same = refl }
ran (adds s after a b c d e f g h i j k l m n o point label answer before ensures) = call (add point.entry label) ensures (ran before)
ran (incs s a b c d e f g h i j k l m n o index label answer before ensures) = call (inc index.0 label.0) ensures (ran before)
ran (decs s after a b c d e f g h i j k l m n o index label answer before ensures) = call (dec index.0 label.0) ensures (ran before)
ran (adjusts s after a b c d e f g h i j k l m n o pairs answer before ensures) = call (adjust (pairings_of pairs.entry)) ensures (ran before)
ran (adjusts_plain s after a b c d e f g h i j k l m n o pairs answer before ensures) = call (adjust (pairings pairs.entry)) ensures (ran before)
ran (compacts s after a b c d e f g h i j k l m n o answer before ensures) = call compact ensures (ran before)

-- and so the list guarantee is one of the program: its store and its answers are those of the run that the guarantee speaks of
pub program_guaranteed : {h : Shape} {text : List ℕ} {m : Memory ℕ} {start : PointStore ℕ} {calls : List (Call ℕ)} {answers : List Answer} {q : PointStore ℕ}
    → Opened h text m start → Ran start calls answers q → IsRun start calls answers q × Guarantee words_equal 0 h start calls
program_guaranteed {h} {text} {m} {start} {calls} o x = (ran x, guaranteed words_equal 0 h start text m (opened_is o) calls)
