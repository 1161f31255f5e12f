-- How values come out, and what the status says of it.
use Rattle.std.proofs.Common.{◌≡◌, ◌≢◌, ◌≤◌, ◌==◌, ◌∙◌, ◌⊎◌, inl, inr, ℕ, List, arith, ap, refl, sym}
use Rattle.std.specs.Prelude.{if◌then◌else◌}
use Rattle.verdicts.specs.declared.outcome.Outcome.{Outcome}
use Rattle.verdicts.specs.declared.outcome.Outcome.TheVariants as outcome
use Rattle.verdicts.specs.declared.printed.Answer.{Answer}
use Rattle.verdicts.specs.Outcomes.{status_of}
use Rattle.tsotest_library.specs.Given.{IsAnswered, IsNothing}
use Rattle.tsotest_library.specs.Completed.{IsCompletedOf}
use Rattle.tsotest_library.proofs.Statuses.{Put, answered, unanswered}

-- with an order, as a violation, as a refusal, or as unfinished
abbrev pub IsOneOfFour : Outcome → Type 0
IsOneOfFour o = (o ≡ outcome.Ordered)
    ⊎ ((o ≡ outcome.Violation) ⊎ ((o ≡ outcome.Refused) ⊎ (o ≡ outcome.Unfinished)))

-- so does what is answered of a text
pub completed_outcome : (text : List ℕ) (states : ℕ) (a : Answer) → IsCompletedOf text states a → IsOneOfFour a.outcome
completed_outcome text states a (inl refused) = inr (inr (inl refused.outcome))
completed_outcome text states a (inr (inl completed)) = elim completed.answered [
  | inl ordered ↦ inl ordered.said.outcome_is
  | inr more ↦ elim more [
    | inl impossible ↦ inr (inl impossible.said.outcome_is)
    | inr unfinished ↦ inr (inr (inr unfinished.said.outcome_is))
  ]
]
completed_outcome text states a (inr (inr refused)) = inr (inr (inl refused.outcome))

-- the outcome that a status says
abbrev outcome_by : ℕ → Outcome
outcome_by n =
    if n == 0 then outcome.Ordered
    else (if n == 2 then outcome.Violation else (if n == 3 then outcome.Refused else outcome.Unfinished))

-- that of its own status
by_its_status : (o : Outcome) → IsOneOfFour o → o ≡ outcome_by (status_of o)
by_its_status o (inl e) = rw e refl
by_its_status o (inr (inl e)) = rw e refl
by_its_status o (inr (inr (inl e))) = rw e refl
by_its_status o (inr (inr (inr e))) = rw e refl

-- its status is no other
status_within : (o : Outcome) → IsOneOfFour o → (status_of o ≤ 4) × (status_of o ≢ 1)
status_within o (inl e) = (omega (arith, ap status_of e), λ one. omega (arith, ap status_of e, one))
status_within o (inr (inl e)) = (omega (arith, ap status_of e), λ one. omega (arith, ap status_of e, one))
status_within o (inr (inr (inl e))) = (omega (arith, ap status_of e), λ one. omega (arith, ap status_of e, one))
status_within o (inr (inr (inr e))) = (omega (arith, ap status_of e), λ one. omega (arith, ap status_of e, one))

-- the text of an answer that comes out so is written
pub put_so : {Is : Answer → Type 0} {status : ℕ} {old new : List ℕ} {n : ℕ} (wanted : Outcome) → IsOneOfFour wanted
    → ((a : Answer) → Is a → IsOneOfFour a.outcome) → Put Is status old new n → status ≡ status_of wanted
    → IsAnswered Is wanted old new n
put_so wanted one_of out (answered a is given written) same = record {
  answer = a;
  is = is;
  outcome_is = by_its_status a.outcome (out a is) ∙ ap outcome_by (sym given ∙ same)
      ∙ sym (by_its_status wanted one_of);
  written = written;
}
put_so wanted one_of out (unanswered error nothing) same =
    absurd ((status_within wanted one_of).1 (sym same ∙ error))

-- no status is above 4
pub put_within : {Is : Answer → Type 0} {status : ℕ} {old new : List ℕ} {n : ℕ}
    → ((a : Answer) → Is a → IsOneOfFour a.outcome) → Put Is status old new n → status ≤ 4
put_within out (answered a is given written) = omega (arith, given, (status_within a.outcome (out a is)).0)
put_within out (unanswered error nothing) = omega (arith, error)

-- without memory nothing is written
pub put_nothing : {Is : Answer → Type 0} {status : ℕ} {old new : List ℕ} {n : ℕ}
    → ((a : Answer) → Is a → IsOneOfFour a.outcome) → Put Is status old new n → status ≡ 1 → IsNothing old new n
put_nothing out (answered a is given written) one =
    absurd ((status_within a.outcome (out a is)).1 (sym given ∙ one))
put_nothing out (unanswered error nothing) one = nothing
