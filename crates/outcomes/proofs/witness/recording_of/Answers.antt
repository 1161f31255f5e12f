use Rattle.std.proofs.Common.{ℕ, IfSome, Option}
use Rattle.std.proofs.Common.{◌≡◌, ◌∙◌, List, ap, subst, sym}
use Rattle.machine.specs.Configuration.{IsAtEnd, recording_of}
use Rattle.replay.specs.Steps.{Replaying}
use Rattle.outcomes.specs.declared.moves.Turn.{Turn}
use Rattle.outcomes.specs.Reachable.{after_moves, outcome_in}
use Rattle.outcomes.specs.Situation.{beginning}
use Rattle.outcomes.specs.Outcome.{Outcome}
use Rattle.outcomes.specs.Witness.{IsEndingAt, IsRecordingOf}
use Rattle.outcomes.proofs.Driven.{come_complete, come_recorded}
use Rattle.outcomes.proofs.witness.recording_of.Goals as goal

pub unreachable-requires-in-Err : goal.unreachable-requires-in-Err
unreachable-requires-in-Err c =
    let at = subst (λ (o : Option ℕ). IfSome o (IsEndingAt c.args.program.now.cores c.args.rows.now.keys
    c.args.outcome.now)) c.in-Some.is c.in_ok-at.ensures.some in
    let come = c.in_ok-replay.ensures at.situation
    (ap (λ (l : List Turn). after_moves c.args.program.now.cores (beginning c.args.program.now) l) c.deref.ensures.value
    ∙ (c.in_ok-turns.ensures ∙ at.there)) in
    c.in-Err.ensures.incomplete
    (subst (λ (x : Replaying). IsAtEnd x.machine) (sym c.replay.view_is)
    (come_complete c.args.program.now c.sound.ensures.lawful at.situation c.in_ok-replay.replay come at.end))

pub returns : goal.returns
returns c =
    let at = subst (λ (o : Option ℕ). IfSome o (IsEndingAt c.args.program.now.cores c.args.rows.now.keys
    c.args.outcome.now)) c.in-Some.is c.in_ok-at.ensures.some in
    let come = c.in_ok-replay.ensures at.situation
    (ap (λ (l : List Turn). after_moves c.args.program.now.cores (beginning c.args.program.now) l) c.deref.ensures.value
    ∙ (c.in_ok-turns.ensures ∙ at.there)) in
    let is : c.in-Ok.recording ≡ recording_of c.in_ok-replay.replay.machine =
    c.in-Ok.ensures.recording ∙ ap (λ (x : Replaying). recording_of x.machine) c.replay.view_is in
    subst (λ (o : Outcome). IsRecordingOf c.args.program.now o c.in-Ok.recording) at.outcome
    (subst (IsRecordingOf c.args.program.now (outcome_in at.situation)) (sym is)
    (come_recorded c.args.program.now c.sound.ensures.lawful at.situation c.in_ok-replay.replay come at.end))
