use Rattle.std.proofs.Common.{ap, sym, ◌∙◌, option_and_then}
use Rattle.recorder.specs.Reading.{natural, value_word, value_in}
use Rattle.recorder.specs.ByTokens.{value_tokens, later_tokens}
use Rattle.recorder.proofs.Somes.{known}
use Rattle.recorder.proofs.ByTokens.{gives_also}
use Rattle.recorder.proofs.plain.values.take_value.Goals as goal

pub returns : goal.returns
returns c = known c.word.result (λ value word depth.
    gives_also natural value_in depth (value_tokens c.args.rest.now) (later_tokens c.take_natural.new.rest)
    c.in_ok-take_natural.field-0 value (λ d is. ap (option_and_then value_word) is ∙ sym c.word.ensures ∙ word)
    (c.in_ok-take_natural.ensures depth))
