use Rattle.std.proofs.Common.{Option, subst}
use Rattle.trials.specs.declared.judging.Judged.{Judged}
use Rattle.trials.specs.Judged.{IsJudgement, IsJudgedEnd}
use Rattle.ledger.specs.FindingLaws.{short_verdict}
use Rattle.trials.proofs.judging.end_verdict.Goals as goal

pub returns-in-Some-clause-short : goal.returns-in-Some-clause-short
returns-in-Some-clause-short c =
    let j : Judged = c.in-Some.field-0 in
    let judged : IsJudgement c.args.machine j =
    subst (λ (o : Option Judged). IsJudgedEnd c.args.machine o) c.in-Some.is c.in_ok-recording.ensures in
    short_verdict j.recording j.verdict c.sound.ensures judged.short.within.few_events judged.verdict
