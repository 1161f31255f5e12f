use Rattle.std.proofs.Common.{ap, ◌∙◌, subst}
use Rattle.std.proofs.lemmas.Result.{IfOk-weaker}
use Rattle.std.specs.Prelude.{IfOk}
use Rattle.machine.specs.Configuration.{Configuration}
use Rattle.trials.specs.Judged.{IsEndVerdict, ran}
use Rattle.trials.proofs.judging.run_and_judge.Goals as goal

pub returns-clause-judged : goal.returns-clause-judged
returns-clause-judged c =
    subst (λ (h : Configuration). IfOk c.end_verdict.result (IsEndVerdict h))
    (c.run.ensures ∙ ap (λ (h : Configuration). ran h c.args.steps.now) c.in_ok-machine.ensures)
    c.end_verdict.ensures.judged

pub returns-clause-lawful : goal.returns-clause-lawful
returns-clause-lawful c = IfOk-weaker c.end_verdict.result _ _ (λ verdict is none. is
    (ap (λ (h : Configuration). h.fault) (c.run.ensures ∙ ap (λ (h : Configuration). ran h c.args.steps.now)
    c.in_ok-machine.ensures) ∙ none)) c.end_verdict.ensures.lawful
