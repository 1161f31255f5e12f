use Rattle.std.proofs.Common.{◌∙◌, arith, refl, subst, sym, ℕ, List}
use Rattle.verdicts.specs.declared.outcome.Outcome.TheVariants as outcome
use Rattle.tsotest_library.specs.Given.{IsOutcomeOf, IsWrittenWhole}
use Rattle.tsotest_library.proofs.Outcomes.{survey_outcome}
use Rattle.tsotest_library.proofs.Statuses.{codes_put, status_0, status_2, status_3, status_most}
use Rattle.tsotest_library.proofs.tsotest_survey.Goals as goal

pub returns-clause-status : goal.returns-clause-status
returns-clause-status c =
    let out = survey_outcome c.deref.result.now c.in-Ok-outcome_of.outcome c.in-Ok-outcome_of.ensures in
    omega (arith, c.status-2.ensures, (status_most outcome.Done c.in-Ok-outcome_of.outcome refl out).0)

pub returns-clause-no_memory : goal.returns-clause-no_memory
returns-clause-no_memory c one =
    let out = survey_outcome c.deref.result.now c.in-Ok-outcome_of.outcome c.in-Ok-outcome_of.ensures in
    absurd ((status_most outcome.Done c.in-Ok-outcome_of.outcome refl out).1 (sym c.status-2.ensures ∙ one))

pub returns-clause-allowed : goal.returns-clause-allowed
returns-clause-allowed c zero =
    let out = survey_outcome c.deref.result.now c.in-Ok-outcome_of.outcome c.in-Ok-outcome_of.ensures in
    codes_put outcome.Done c.in-Ok.ensures
    (subst (λ (l : List ℕ). IsOutcomeOf l c.in-Ok-outcome_of.outcome) c.deref.ensures.value c.in-Ok-outcome_of.ensures)
    (subst (λ (l : List ℕ). IsWrittenWhole l c.args.codes.now c.put_codes.new.codes c.put_codes.new.count)
    c.deref-2.ensures.value c.put_codes.ensures)
    (status_0 outcome.Done c.in-Ok-outcome_of.outcome out (sym c.status-2.ensures ∙ zero))

pub returns-clause-violation : goal.returns-clause-violation
returns-clause-violation c two =
    let out = survey_outcome c.deref.result.now c.in-Ok-outcome_of.outcome c.in-Ok-outcome_of.ensures in
    codes_put outcome.Violation c.in-Ok.ensures
    (subst (λ (l : List ℕ). IsOutcomeOf l c.in-Ok-outcome_of.outcome) c.deref.ensures.value c.in-Ok-outcome_of.ensures)
    (subst (λ (l : List ℕ). IsWrittenWhole l c.args.codes.now c.put_codes.new.codes c.put_codes.new.count)
    c.deref-2.ensures.value c.put_codes.ensures)
    (status_2 outcome.Done c.in-Ok-outcome_of.outcome refl out (sym c.status-2.ensures ∙ two))

pub returns-clause-refused : goal.returns-clause-refused
returns-clause-refused c three =
    let out = survey_outcome c.deref.result.now c.in-Ok-outcome_of.outcome c.in-Ok-outcome_of.ensures in
    codes_put outcome.Refused c.in-Ok.ensures
    (subst (λ (l : List ℕ). IsOutcomeOf l c.in-Ok-outcome_of.outcome) c.deref.ensures.value c.in-Ok-outcome_of.ensures)
    (subst (λ (l : List ℕ). IsWrittenWhole l c.args.codes.now c.put_codes.new.codes c.put_codes.new.count)
    c.deref-2.ensures.value c.put_codes.ensures)
    (status_3 outcome.Done c.in-Ok-outcome_of.outcome refl out (sym c.status-2.ensures ∙ three))
