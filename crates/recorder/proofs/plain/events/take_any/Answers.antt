use Rattle.std.proofs.Common.{◌∙◌, refl, sym}
use Rattle.recorder.specs.ReadMembers.{AreFields}
use Rattle.recorder.specs.Clipped.{clipped_event}
use Rattle.recorder.specs.ByTokens.{fresh_tokens, value_tokens, later_tokens}
use Rattle.recorder.proofs.Somes.{known}
use Rattle.recorder.proofs.ByTokens.{gives_object}
use Rattle.recorder.proofs.EventFields.{members_give}
use Rattle.recorder.proofs.SpacedTokens.{opens_object}
use Rattle.recorder.proofs.plain.events.take_any.Goals as goal

pub returns : goal.returns
returns c = known c.event.result (λ e is depth.
    gives_object AreFields clipped_event depth (value_tokens c.args.rest.now) (fresh_tokens c.take_sign.new.rest)
    (later_tokens c.take_fields.new.rest) c.in_ok-fields.fields e
    (opens_object c.args.rest.now c.take_sign.new.rest (c.if-not-take_sign.ensures.found refl))
    (c.in_ok-fields.ensures depth)
    (λ ms h. members_give c.in_ok-fields.fields c.len.result ms h c.len.ensures ∙ sym c.event.ensures ∙ is))
