-- How lists of outcomes come out, and what the status says of it.
use Rattle.std.proofs.Common.{◌≡◌, ◌≢◌, ◌≤◌, ◌∙◌, ◌⊎◌, inl, inr, ℕ, List, arith, ap, sym}
use Rattle.verdicts.specs.declared.outcome.Outcome.{Outcome}
use Rattle.verdicts.specs.declared.outcome.Outcome.TheVariants as outcome
use Rattle.verdicts.specs.declared.printed.Answer.{Answer}
use Rattle.verdicts.specs.Outcomes.{status_of}
use Rattle.tsotest_library.specs.Given.{IsAnswered, IsNothing}
use Rattle.tsotest_library.specs.Listed.{IsListedOf}
use Rattle.tsotest_library.proofs.Statuses.{Put, answered, unanswered}

-- as a list, as a refusal, or as unfinished
abbrev pub IsOneOfThree : Outcome → Type 0
IsOneOfThree o = (o ≡ outcome.Done) ⊎ ((o ≡ outcome.Refused) ⊎ (o ≡ outcome.Unfinished))

-- so does what is answered of a text
pub listed_outcome : (text : List ℕ) (states : ℕ) (a : Answer) → IsListedOf text states a → IsOneOfThree a.outcome
listed_outcome text states a (inl refused) = inr (inl refused.outcome)
listed_outcome text states a (inr (inl listed)) = elim listed.answered [
  | inl all ↦ inl (all.2).outcome_is
  | inr more ↦ inr (inr more.said.outcome_is)
]
listed_outcome text states a (inr (inr refused)) = inr (inl refused.outcome)

-- the status says which
by_status : (o wanted : Outcome) → IsOneOfThree o → IsOneOfThree wanted → status_of o ≡ status_of wanted → o ≡ wanted
by_status o wanted (inl a) (inl b) same = a ∙ sym b
by_status o wanted (inl a) (inr (inl b)) same = absurd (omega (arith, ap status_of a, ap status_of b, same))
by_status o wanted (inl a) (inr (inr b)) same = absurd (omega (arith, ap status_of a, ap status_of b, same))
by_status o wanted (inr (inl a)) (inl b) same = absurd (omega (arith, ap status_of a, ap status_of b, same))
by_status o wanted (inr (inl a)) (inr (inl b)) same = a ∙ sym b
by_status o wanted (inr (inl a)) (inr (inr b)) same = absurd (omega (arith, ap status_of a, ap status_of b, same))
by_status o wanted (inr (inr a)) (inl b) same = absurd (omega (arith, ap status_of a, ap status_of b, same))
by_status o wanted (inr (inr a)) (inr (inl b)) same = absurd (omega (arith, ap status_of a, ap status_of b, same))
by_status o wanted (inr (inr a)) (inr (inr b)) same = a ∙ sym b

-- the text of such an answer is written, or nothing
pub put_as : {Is : Answer → Type 0} {status : ℕ} {old new : List ℕ} {n : ℕ} (wanted : Outcome) → IsOneOfThree wanted
    → status_of wanted ≢ 1 → ((a : Answer) → Is a → IsOneOfThree a.outcome) → Put Is status old new n
    → status ≡ status_of wanted → IsAnswered Is wanted old new n
put_as wanted one_of other out (answered a is given written) same = record {
  answer = a;
  is = is;
  outcome_is = by_status a.outcome wanted (out a is) one_of (sym given ∙ same);
  written = written;
}
put_as wanted one_of other out (unanswered error nothing) same = absurd (other (sym same ∙ error))

-- there is no other status
pub put_most : {Is : Answer → Type 0} {status : ℕ} {old new : List ℕ} {n : ℕ}
    → ((a : Answer) → Is a → IsOneOfThree a.outcome) → Put Is status old new n → (status ≤ 4) × (status ≢ 2)
put_most out (answered a is given written) = elim (out a is) [
  | inl e ↦ (omega (arith, given, ap status_of e), λ two. omega (arith, given, ap status_of e, two))
  | inr more ↦ elim more [
    | inl e ↦ (omega (arith, given, ap status_of e), λ two. omega (arith, given, ap status_of e, two))
    | inr e ↦ (omega (arith, given, ap status_of e), λ two. omega (arith, given, ap status_of e, two))
  ]
]
put_most out (unanswered error nothing) = (omega (arith, error), λ two. omega (arith, error, two))

-- without memory nothing is written
pub put_none : {Is : Answer → Type 0} {status : ℕ} {old new : List ℕ} {n : ℕ}
    → ((a : Answer) → Is a → IsOneOfThree a.outcome) → Put Is status old new n → status ≡ 1 → IsNothing old new n
put_none out (answered a is given written) one = elim (out a is) [
  | inl e ↦ absurd (omega (arith, given, ap status_of e, one))
  | inr more ↦ elim more [
    | inl e ↦ absurd (omega (arith, given, ap status_of e, one))
    | inr e ↦ absurd (omega (arith, given, ap status_of e, one))
  ]
]
put_none out (unanswered error nothing) one = nothing
