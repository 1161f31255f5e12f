use Rattle.std.proofs.Common.{◌&&◌, ap, sym, ◌∙◌}
use Rattle.recording.specs.declared.event.Event.{Event}
use Rattle.recording.specs.Event.{is_plain_store, is_plain_load}
use Rattle.recording.specs.Execution.{event_at}
use Rattle.values.specs.Refused.{events_alone}
use Rattle.completion.proofs.keeping.keep_one.Goals as goal

pub put-requires-clause-link : goal.put-requires-clause-link
put-requires-clause-link c = (
  c.is_own.ensures.holds c.if-is_own.true,
  sym (ap (λ (ev : Event). is_plain_store ev && is_plain_load c.event_at-second.result) c.event_at-first.ensures
      ∙ ap (λ (ev : Event). is_plain_store (event_at (events_alone c.args.values.now) c.args.e) && is_plain_load ev)
      c.event_at-second.ensures) ∙ c.keeps.ensures.0 c.if-keeps.true,
)
