-- How answers come out.
use Rattle.std.proofs.Common.{◌≡◌, ◌≢◌, ◌⊎◌, inl, inr, [], ℕ, Bool, List, Option, false, is_some, nat_lt, refl, subst}
use Rattle.std.proofs.Common.{sym, true}
use Rattle.std.specs.Prelude.{if◌then◌else◌}
use Rattle.program.specs.Parts.{Parts}
use Rattle.recording.specs.Execution.{Execution}
use Rattle.verdicts.specs.declared.verdict.Verdict.{Verdict}
use Rattle.verdicts.specs.declared.verdict.Verdict.TheVariants.{Ordered, Overlook, Cycle}
use Rattle.verdicts.specs.declared.outcome.Outcome.{Outcome}
use Rattle.verdicts.specs.declared.outcome.Outcome.TheVariants as outcome
use Rattle.verdicts.specs.declared.printed.Answer.{Answer}
use Rattle.verdicts.specs.VerdictAnswer.{outcome_of}
use Rattle.long.specs.declared.answer.LongAnswer.{LongAnswer}
use Rattle.long.specs.declared.answer.LongAnswer.TheVariants as long
use Rattle.long.specs.Texts.{long_outcome}
use Rattle.text_judge.specs.Answer.{IsAnswerOf, IsLongAnswerOf}
use Rattle.answers.specs.declared.rendering.Rendering.{Rendering}
use Rattle.answers.specs.declared.rendering.Rendering.TheVariants.{Told, Reduction}
use Rattle.answers.specs.LongReduced.{IsLongReducedAnswer}
use Rattle.answers.specs.Reduced.{IsReducedAnswer}
use Rattle.answers.specs.Rendered.{IsLongRenderedAnswer, IsRenderedAnswer}
use Rattle.verification.specs.Checked.{IsCheckAnswer}
use Rattle.verification.specs.Proof.{IsProof}
use Rattle.tsotest_library.specs.Checked.{IsCheckOf}
use Rattle.tsotest_library.specs.Given.{IsOutcomeOf}
use Rattle.tsotest_library.specs.Rendered.{IsLongRenderedOf, IsRenderedByText, IsRenderedOf}

-- well, as a violation or as a refusal
abbrev pub ComesOut : Outcome → Outcome → Type 0
ComesOut well o = (o ≡ well) ⊎ ((o ≡ outcome.Violation) ⊎ (o ≡ outcome.Refused))

-- so does what is none of the others
one_of : (well o : Outcome) → (well ≡ outcome.Ordered) ⊎ (well ≡ outcome.Done)
    → (o ≢ well → o ≢ outcome.Violation → ⊥) → ComesOut well o
one_of well outcome.Ordered (inl e) other = inl (sym e)
one_of well outcome.Ordered (inr e) other = absurd (other (λ f. cc) (λ f. cc))
one_of well outcome.Violation is other = inr (inl refl)
one_of well outcome.Refused is other = inr (inr refl)
one_of well outcome.Unfinished (inl e) other = absurd (other (λ f. cc) (λ f. cc))
one_of well outcome.Unfinished (inr e) other = absurd (other (λ f. cc) (λ f. cc))
one_of well outcome.Done (inl e) other = absurd (other (λ f. cc) (λ f. cc))
one_of well outcome.Done (inr e) other = inl (sym e)
one_of well outcome.Error (inl e) other = absurd (other (λ f. cc) (λ f. cc))
one_of well outcome.Error (inr e) other = absurd (other (λ f. cc) (λ f. cc))

-- as a verdict does
verdict_outcome : (v : Verdict) (o : Outcome) → o ≡ outcome_of v → ComesOut outcome.Ordered o
verdict_outcome (Ordered order) o e = inl e
verdict_outcome (Overlook load store) o e = inr (inl e)
verdict_outcome (Cycle certificate) o e = inr (inl e)

-- no verdict comes out as neither
no_verdict : (v : Verdict) (o : Outcome) → o ≡ outcome_of v → o ≢ outcome.Ordered → o ≢ outcome.Violation → ⊥
no_verdict (Ordered order) o e order_not violation_not = order_not e
no_verdict (Overlook load store) o e order_not violation_not = violation_not e
no_verdict (Cycle certificate) o e order_not violation_not = violation_not e

-- what is answered to the bytes of a recording
pub answer_outcome : (bytes : List ℕ) (a : Answer) → IsAnswerOf bytes a → ComesOut outcome.Ordered a.outcome
answer_outcome bytes a (inl (x, read, verdict, found, outcome, printed)) = verdict_outcome verdict a.outcome outcome
answer_outcome bytes a (inr refused) = inr (inr refused.outcome)

-- as what is answered to a recording of any length does
long_one : (a : LongAnswer) (o : Outcome) → o ≡ long_outcome a → ComesOut outcome.Ordered o
long_one (long.Order m) o e = inl e
long_one (long.Overlook load store) o e = inr (inl e)
long_one (long.Cycle c) o e = inr (inl e)

-- none of these comes out as neither
no_long : (a : LongAnswer) (o : Outcome) → o ≡ long_outcome a → o ≢ outcome.Ordered → o ≢ outcome.Violation → ⊥
no_long (long.Order m) o e order_not violation_not = order_not e
no_long (long.Overlook load store) o e order_not violation_not = violation_not e
no_long (long.Cycle c) o e order_not violation_not = violation_not e

-- what is answered to the bytes of one
pub long_answer_outcome : (bytes : List ℕ) (a : Answer) → IsLongAnswerOf bytes a → ComesOut outcome.Ordered a.outcome
long_answer_outcome bytes a (inl (x, read, (found, is, outcome, printed))) = long_one found a.outcome outcome
long_answer_outcome bytes a (inr refused) = inr (inr refused.outcome)

-- what is left of a recording
reduced_outcome : (x : Execution) (p : Option Parts) (labels : List (List ℕ)) (a : Answer) → IsReducedAnswer x p labels a
    → ComesOut outcome.Ordered a.outcome
reduced_outcome x p labels a is = one_of outcome.Ordered a.outcome (inl refl) (λ order_not violation_not.
    violation_not ((is.violation (λ m tso.
    let rendered = is.ordered m tso in no_verdict rendered.verdict a.outcome rendered.outcome order_not
    violation_not)).outcome))

-- what is told of a recording
rendered_outcome : (rendering : Rendering) (x : Execution) (p : Option Parts) (labels : List (List ℕ)) (a : Answer)
    → IsRenderedAnswer rendering x p labels a
    → ComesOut outcome.Ordered a.outcome
rendered_outcome (Told telling) x p labels a is = verdict_outcome is.verdict a.outcome is.outcome
rendered_outcome Reduction x p labels a is = reduced_outcome x p labels a is

-- what is left of a recording of any length
long_reduced_outcome : (x : Execution) (labels : List (List ℕ)) (a : Answer) → IsLongReducedAnswer x labels a
    → ComesOut outcome.Ordered a.outcome
long_reduced_outcome x labels a is = one_of outcome.Ordered a.outcome (inl refl) (λ order_not violation_not.
    violation_not ((is.violation (λ m tso.
    let rendered = is.ordered m tso in no_long rendered.found a.outcome rendered.outcome order_not
    violation_not)).outcome))

-- what is told of one
long_rendered_outcome : (rendering : Rendering) (x : Execution) (labels : List (List ℕ)) (a : Answer)
    → IsLongRenderedAnswer rendering x labels a → ComesOut outcome.Ordered a.outcome
long_rendered_outcome (Told telling) x labels a is = long_one is.found a.outcome is.outcome
long_rendered_outcome Reduction x labels a is = long_reduced_outcome x labels a is

-- and of the one that the bytes are
pub long_rendered_of_outcome : (rendering : Rendering) (bytes : List ℕ) (a : Answer) → IsLongRenderedOf rendering bytes a
    → ComesOut outcome.Ordered a.outcome
long_rendered_of_outcome rendering bytes a (inl is) = long_rendered_outcome rendering is.recording [] a is.rendered
long_rendered_of_outcome rendering bytes a (inr refused) = inr (inr refused.outcome)

-- the same by the text of its program
rendered_by_outcome : (rendering : Rendering) (x : Execution) (text : List ℕ) (a : Answer)
    → IsRenderedByText rendering x text a
    → ComesOut outcome.Ordered a.outcome
rendered_by_outcome rendering x text a
    (inl rendered) = rendered_outcome rendering x rendered.program [] a rendered.rendered
rendered_by_outcome rendering x text a (inr refused) = elim refused.1 [
  | inl line ↦ inr (inr line.outcome)
  | inr other ↦ inr (inr other.outcome)
]

-- and of the recording that the bytes are
pub rendered_of_outcome : (rendering : Rendering) (bytes text : List ℕ) (a : Answer)
    → IsRenderedOf rendering bytes text a
    → ComesOut outcome.Ordered a.outcome
rendered_of_outcome rendering bytes text a
    (inl rendered) = rendered_by_outcome rendering rendered.recording text a rendered.rendered
rendered_of_outcome rendering bytes text a (inr refused) = inr (inr refused.outcome)

-- what is answered to a verdict
check_outcome : (P : Type 0) (a : Answer) → IsCheckAnswer P a → ComesOut outcome.Done a.outcome
check_outcome P a is = one_of outcome.Done a.outcome (inr refl) (λ holds_not fails_not.
    fails_not ((is.fails (λ proof. holds_not (is.holds proof).0)).0))

-- of the recording that the bytes are
pub check_of_outcome : (bytes text : List ℕ) (a : Answer) → IsCheckOf bytes text a → ComesOut outcome.Done a.outcome
check_of_outcome bytes text a (inl checked) = check_outcome (IsProof checked.recording text) a checked.answered
check_of_outcome bytes text a (inr refused) = inr (inr refused.outcome)

-- how a survey comes out
pub survey_outcome : (codes : List ℕ) (o : Outcome) → IsOutcomeOf codes o → ComesOut outcome.Done o
survey_outcome codes o is = subst (λ (x : Outcome). ComesOut outcome.Done x) (sym is.is)
    (go (is_some is.ledger.first) (nat_lt 0 is.ledger.unjudged))
  where
    go : (violated unread : Bool) → ComesOut outcome.Done
        (if violated then outcome.Violation else (if unread then outcome.Refused else outcome.Done))
    go true unread = inr (inl refl)
    go false true = inr (inr refl)
    go false false = inl refl
