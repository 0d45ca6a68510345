-- A program's sets are a run: the product that they leave, and their answers, are those of which the product's guarantee speaks.
use Rattle.std.specs.Prelude.{ℕ, List, [], ◌∷◌, ◌≡◌, refl, Result}
use Rattle.terms.specs.declared.Refusal.{Refusal}
use Rattle.std.proofs.Common.{ap, sym, ◌∙◌}
use Rattle.float_bits.specs.Words.{words_equal}
use Rattle.store_definitions.specs.declared.Shape.{Shape}
use Rattle.store_definitions.specs.Memory.{Memory}
use Rattle.store_definitions.specs.Answers.{Answer, done}
use Rattle.store_definitions.specs.Lent.{entered, left}
use Rattle.probes_definitions.specs.declared.Probes.{Probes}
use Rattle.probes_definitions.specs.Memory.{PointProbes, point_probes}
use Rattle.probes_definitions.specs.Opening.{probes_opened}
use Rattle.probes_definitions.specs.Answers.{ProbesOutcome, probes_outcome}
use Rattle.probes_definitions.specs.Readings.{of_kinds, of_floats}
use Rattle.probes_definitions.proofs.SettingLaws.{kinds_set, kinds_none}
use Rattle.probes_guarantee.specs.Calls.{probes_open_call, set_call}
use Rattle.probes_guarantee.specs.Run.{ProbeSet, probes_after, probes_answer_to}
use Rattle.probes_guarantee.specs.Guarantee.{ProbesGuarantee}
use Rattle.probes_guarantee.proofs.Theorem.{probes_guaranteed}
use Rattle.probes_guarantee.specs.Ran.{ProbesOpened, opens, ProbesRan, none_yet, sets, sets_words, no_set}

pub opened_is : {s : Shape} {text : List ℕ} {m : Memory ℕ} {start : PointProbes ℕ} → ProbesOpened s text m start → probes_open_call 0 s text m ≡ probes_outcome done start
opened_is (opens s a b c d e f g h i j k l m n o t answer r ensures accepted) =
    sym ensures ∙ ap (λ (z : Result Probes Refusal). probes_opened z (left a b c d e f g h i j k l m n o)) accepted

-- what a run answers
unfoldable pub probes_answers_to : PointProbes ℕ → List (ProbeSet ℕ) → List Answer
probes_answers_to start [] = []
probes_answers_to start (x ∷ before) = probes_answer_to words_equal 0 start x before ∷ probes_answers_to start before

pub record IsProbesRun (start : PointProbes ℕ) (before : List (ProbeSet ℕ)) (answers : List Answer) (p : PointProbes ℕ) : Type 0 where
  pub probes : p ≡ probes_after words_equal 0 start before
  pub answers_same : answers ≡ probes_answers_to start before

-- one set more
one_more : (x : ProbeSet ℕ) {start : PointProbes ℕ} {before : List (ProbeSet ℕ)} {answers : List Answer} {a : Answer} {p q : PointProbes ℕ} → probes_outcome a q ≡ set_call words_equal 0 p x.readings x.code → IsProbesRun start before answers p → IsProbesRun start (x ∷ before) (a ∷ answers) q
unfolding probes_after probes_answers_to
one_more x {start} {before} {answers} {a} {p} {q} ensures run =
    let e : probes_outcome a q ≡ set_call words_equal 0 (probes_after words_equal 0 start before) x.readings x.code = ensures ∙ ap (λ (z : PointProbes ℕ). set_call words_equal 0 z x.readings x.code) run.probes in
    record {
      probes = ap (λ (o : ProbesOutcome ℕ). o.after) e;
      answers_same = ap (λ (o : ProbesOutcome ℕ). o.answer ∷ answers) e ∙ ap (λ (xs : List Answer). probes_answer_to words_equal 0 start x before ∷ xs) run.answers_same;
    }

-- a program's sets leave the run's product and give the run's answers
pub ran : {start : PointProbes ℕ} {before : List (ProbeSet ℕ)} {answers : List Answer} {q : PointProbes ℕ} → ProbesRan start before answers q → IsProbesRun start before answers q
unfolding probes_after probes_answers_to
ran none_yet = record { probes = refl; answers_same = refl }
ran (sets p after a b c d e f g h i j k l m n o readings label r before ensures) = one_more (record { readings = of_floats readings; code = label }) ensures (ran before)
ran (sets_words p after a b c d e f g h i j k l m n o kinds words label r before ensures decided) =
    one_more (record { readings = of_kinds kinds.entry words.entry; code = label })
    (ensures ∙ kinds_set words_equal 0 (point_probes p (entered a b c d e f g h i j k l m n o)) kinds.entry words.entry label decided)
    (ran before)
ran (no_set p after a b c d e f g h i j k l m n o kinds words label r before ensures number decided) =
    let run = ran before in
    record {
      probes = ap (λ (x : ProbesOutcome ℕ). x.after) ensures ∙ kinds_none words_equal 0 (point_probes p (entered a b c d e f g h i j k l m n o)) kinds.entry words.entry label number decided ∙ run.probes;
      answers_same = run.answers_same;
    }

-- and so the guarantee is one of the program
pub probes_program_guaranteed : {s : Shape} {text : List ℕ} {m : Memory ℕ} {start : PointProbes ℕ} {before : List (ProbeSet ℕ)} {answers : List Answer} {q : PointProbes ℕ}
    → ProbesOpened s text m start → ProbesRan start before answers q → IsProbesRun start before answers q × ProbesGuarantee words_equal 0 s start before
probes_program_guaranteed {s} {text} {m} {start} {before} o x = (ran x, probes_guaranteed words_equal 0 s start text m (opened_is o) before)
