use Rattle.std.proofs.Common.{subst, ap, ◌∙◌}
use Rattle.std.proofs.lemmas.Result.{IfOk-weaker}
use Rattle.machine.specs.Configuration.{Configuration}
use Rattle.trials.specs.Judged.{ran}
use Rattle.run_answers.specs.Run.{IsRunAnswer}
use Rattle.run_answers.proofs.runs.script_answer.Goals as goal

pub returns : goal.returns
returns c =
    let end = c.run.ensures ∙ ap (λ (h : Configuration). ran h c.args.steps.now) c.in_ok-machine.ensures in
    IfOk-weaker c.machine_answer.result _ _
    (λ answer is. subst (λ (h : Configuration). IsRunAnswer h.fault h.program h.state answer) end is)
    c.machine_answer.ensures
