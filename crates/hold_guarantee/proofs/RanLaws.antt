-- A program's adds are a run: the hold that they leave, and their answers, are those of which the hold's guarantee speaks.
use Rattle.std.specs.Prelude.{ℕ, List, [], ◌∷◌, ◌≡◌, refl, Result}
use Rattle.terms.specs.declared.Refusal.{Refusal}
use Rattle.std.proofs.Common.{ap, sym, ◌∙◌}
use Rattle.float_bits.specs.Words.{words_equal}
use Rattle.store_definitions.specs.declared.Shape.{Shape}
use Rattle.store_definitions.specs.Answers.{Answer, done}
use Rattle.hold_definitions.specs.declared.Hold.{Hold}
use Rattle.hold_definitions.specs.Memory.{HoldMemory, PointHold}
use Rattle.hold_definitions.specs.Opening.{hold_opened}
use Rattle.hold_definitions.specs.Answers.{HoldOutcome, hold_outcome}
use Rattle.hold_definitions.specs.Lent.{hold_left}
use Rattle.hold_guarantee.specs.Calls.{hold_open_call, hold_add_call}
use Rattle.hold_guarantee.specs.Run.{HoldAdd, hold_after, hold_answer_to}
use Rattle.hold_guarantee.specs.Guarantee.{HoldGuarantee}
use Rattle.hold_guarantee.proofs.Theorem.{hold_guaranteed}
use Rattle.hold_guarantee.specs.Ran.{HoldOpened, opens, HoldRan, none_yet, adds}

pub opened_is : {s : Shape} {width : ℕ} {text : List ℕ} {m : HoldMemory ℕ} {start : PointHold ℕ} → HoldOpened s width text m start → hold_open_call 0 s width text m ≡ hold_outcome done start
opened_is (opens s width a b c d e f g h i j k l m n o x y t answer r ensures accepted) =
    sym ensures ∙ ap (λ (z : Result Hold Refusal). hold_opened z (hold_left a b c d e f g h i j k l m n o x y)) accepted

-- what a run answers
unfoldable pub hold_answers_to : PointHold ℕ → List (HoldAdd ℕ) → List Answer
hold_answers_to start [] = []
hold_answers_to start (a ∷ before) = hold_answer_to words_equal 0 start a before ∷ hold_answers_to start before

pub record IsHoldRun (start : PointHold ℕ) (before : List (HoldAdd ℕ)) (answers : List Answer) (h : PointHold ℕ) : Type 0 where
  pub hold : h ≡ hold_after words_equal 0 start before
  pub answers_same : answers ≡ hold_answers_to start before

-- one add more
one_more : (c : HoldAdd ℕ) {start : PointHold ℕ} {before : List (HoldAdd ℕ)} {answers : List Answer} {a : Answer} {p q : PointHold ℕ} → hold_outcome a q ≡ hold_add_call words_equal 0 p c.point c.code → IsHoldRun start before answers p → IsHoldRun start (c ∷ before) (a ∷ answers) q
unfolding hold_after hold_answers_to
one_more c {start} {before} {answers} {a} {p} {q} ensures run =
    let e : hold_outcome a q ≡ hold_add_call words_equal 0 (hold_after words_equal 0 start before) c.point c.code = ensures ∙ ap (λ (h : PointHold ℕ). hold_add_call words_equal 0 h c.point c.code) run.hold in
    record {
      hold = ap (λ (o : HoldOutcome ℕ). o.after) e;
      answers_same = ap (λ (o : HoldOutcome ℕ). o.answer ∷ answers) e ∙ ap (λ (xs : List Answer). hold_answer_to words_equal 0 start c before ∷ xs) run.answers_same;
    }

-- a program's adds leave the run's hold and give the run's answers
pub ran : {start : PointHold ℕ} {before : List (HoldAdd ℕ)} {answers : List Answer} {q : PointHold ℕ} → HoldRan start before answers q → IsHoldRun start before answers q
unfolding hold_after hold_answers_to
ran none_yet = record { hold = refl; answers_same = refl }
ran (adds t after a b c d e f g h i j k l m n o x y point label r before ensures) = one_more (record { point = point.entry; code = label }) ensures (ran before)

-- and so the guarantee is one of the program
pub hold_program_guaranteed : {s : Shape} {width : ℕ} {text : List ℕ} {m : HoldMemory ℕ} {start : PointHold ℕ} {before : List (HoldAdd ℕ)} {answers : List Answer} {q : PointHold ℕ}
    → HoldOpened s width text m start → HoldRan start before answers q → IsHoldRun start before answers q × HoldGuarantee words_equal 0 s width start before
hold_program_guaranteed {s} {width} {text} {m} {start} {before} o x = (ran x, hold_guaranteed words_equal 0 s width start text m (opened_is o) before)
