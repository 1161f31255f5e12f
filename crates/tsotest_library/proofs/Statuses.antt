-- What the status of a call says.
use Rattle.std.proofs.Common.{◌≡◌, ◌≢◌, ◌≤◌, ◌∙◌, inl, inr, ℕ, List, Result, Ok, Err, IfOk, arith, ap, subst, sym}
use Rattle.std.specs.Prelude.{IfErr}
use Rattle.common.specs.declared.memory.OutOfMemory.{OutOfMemory}
use Rattle.verdicts.specs.declared.outcome.Outcome.{Outcome}
use Rattle.verdicts.specs.declared.outcome.Outcome.TheVariants as outcome
use Rattle.verdicts.specs.declared.printed.Answer.{Answer}
use Rattle.verdicts.specs.Outcomes.{status_of}
use Rattle.surveys.specs.declared.kind.LineKind.TheVariants.{Recording}
use Rattle.surveys.specs.Coded.{AreLineCodes}
use Rattle.tsotest_library.specs.Given.{AreCodesAnswered, IsAnswered, IsNothing, IsOutcomeOf, IsWrittenWhole}
use Rattle.tsotest_library.proofs.Outcomes.{ComesOut}

-- 0 is well
pub status_0 : (well o : Outcome) → ComesOut well o → status_of o ≡ 0 → o ≡ well
status_0 well o (inl e) zero = e
status_0 well o (inr (inl e)) zero = absurd (omega (arith, ap status_of e, zero))
status_0 well o (inr (inr e)) zero = absurd (omega (arith, ap status_of e, zero))

-- 2 is a violation
pub status_2 : (well o : Outcome) → status_of well ≡ 0 → ComesOut well o → status_of o ≡ 2 → o ≡ outcome.Violation
status_2 well o is (inl e) two = absurd (omega (arith, ap status_of e, is, two))
status_2 well o is (inr (inl e)) two = e
status_2 well o is (inr (inr e)) two = absurd (omega (arith, ap status_of e, two))

-- 3 is a refusal
pub status_3 : (well o : Outcome) → status_of well ≡ 0 → ComesOut well o → status_of o ≡ 3 → o ≡ outcome.Refused
status_3 well o is (inl e) three = absurd (omega (arith, ap status_of e, is, three))
status_3 well o is (inr (inl e)) three = absurd (omega (arith, ap status_of e, three))
status_3 well o is (inr (inr e)) three = e

-- there is no other
pub status_most : (well o : Outcome) → status_of well ≡ 0 → ComesOut well o → (status_of o ≤ 3) × (status_of o ≢ 1)
status_most well o is (inl e) = (omega (arith, ap status_of e, is), λ one. omega (arith, ap status_of e, is, one))
status_most well o is (inr (inl e)) = (omega (arith, ap status_of e), λ one. omega (arith, ap status_of e, one))
status_most well o is (inr (inr e)) = (omega (arith, ap status_of e), λ one. omega (arith, ap status_of e, one))

-- an answer is put, or nothing, since there is none
pub data Put (Is : Answer → Type 0) (status : ℕ) (old new : List ℕ) (n : ℕ) : Type 0 where
  answered : (a : Answer) → Is a → status ≡ status_of a.outcome → IsWrittenWhole a.text.items old new n
      → Put Is status old new n
  unanswered : status ≡ 1 → IsNothing old new n → Put Is status old new n

-- so it is by what a call says
pub put_by : (Is : Answer → Type 0) (r : Result Answer OutOfMemory) (status : ℕ) (old new : List ℕ) (n : ℕ) → IfOk r Is
    → IfOk r (λ a. status ≡ status_of a.outcome) → IfOk r (λ a. IsWrittenWhole a.text.items old new n)
    → IfErr r (λ e. status ≡ 1) → IfErr r (λ e. IsNothing old new n) → Put Is status old new n
put_by Is (Ok a) status old new n is given written error nothing = answered a is given written
put_by Is (Err e) status old new n is given written error nothing = unanswered error nothing

-- 0 says that all is well
pub put_0 : {Is : Answer → Type 0} {status : ℕ} {old new : List ℕ} {n : ℕ} (well : Outcome) → status_of well ≡ 0
    → ((a : Answer) → Is a → ComesOut well a.outcome) → Put Is status old new n → status ≡ 0
    → IsAnswered Is well old new n
put_0 well zero out (answered a is given written) same = record {
  answer = a;
  is = is;
  outcome_is = status_0 well a.outcome (out a is) (sym given ∙ same);
  written = written;
}
put_0 well zero out (unanswered error nothing) same = absurd (omega (arith, error, same))

-- 2 a violation
pub put_2 : {Is : Answer → Type 0} {status : ℕ} {old new : List ℕ} {n : ℕ} (well : Outcome) → status_of well ≡ 0
    → ((a : Answer) → Is a → ComesOut well a.outcome) → Put Is status old new n → status ≡ 2
    → IsAnswered Is outcome.Violation old new n
put_2 well zero out (answered a is given written) same = record {
  answer = a;
  is = is;
  outcome_is = status_2 well a.outcome zero (out a is) (sym given ∙ same);
  written = written;
}
put_2 well zero out (unanswered error nothing) same = absurd (omega (arith, error, same))

-- 3 a refusal
pub put_3 : {Is : Answer → Type 0} {status : ℕ} {old new : List ℕ} {n : ℕ} (well : Outcome) → status_of well ≡ 0
    → ((a : Answer) → Is a → ComesOut well a.outcome) → Put Is status old new n → status ≡ 3
    → IsAnswered Is outcome.Refused old new n
put_3 well zero out (answered a is given written) same = record {
  answer = a;
  is = is;
  outcome_is = status_3 well a.outcome zero (out a is) (sym given ∙ same);
  written = written;
}
put_3 well zero out (unanswered error nothing) same = absurd (omega (arith, error, same))

-- codes are put, of a survey that comes out so
pub codes_put : {lines codes old new : List ℕ} {n : ℕ} {o : Outcome} (well : Outcome)
    → AreLineCodes Recording lines codes → IsOutcomeOf codes o → IsWrittenWhole codes old new n → o ≡ well
    → AreCodesAnswered lines well old new n
codes_put {lines} {codes} well are is written same = record {
  codes = codes;
  are = are;
  outcome_is = subst (λ (o : Outcome). IsOutcomeOf codes o) same is;
  written = written;
}
