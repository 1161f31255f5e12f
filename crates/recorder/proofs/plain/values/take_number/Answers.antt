use Rattle.std.proofs.Common.{ap, sym, ◌∙◌, Some, option_map}
use Rattle.recorder.specs.Reading.{natural}
use Rattle.recorder.specs.Clipped.{clip, clipped_number}
use Rattle.recorder.specs.ByTokens.{value_tokens, later_tokens}
use Rattle.recorder.proofs.ByTokens.{gives_also}
use Rattle.recorder.proofs.plain.values.take_number.Goals as goal

pub returns : goal.returns
returns c depth =
    gives_also natural clipped_number depth (value_tokens c.args.rest.now) (later_tokens c.take_natural.new.rest)
    c.in_ok-take_natural.field-0 c.clip_number.result (λ d is. ap (option_map clip) is ∙ ap Some (sym c.clip_number.ensures))
    (c.in_ok-take_natural.ensures depth)
