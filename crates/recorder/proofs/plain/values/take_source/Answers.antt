use Rattle.std.proofs.Common.{◌∙◌, None, Some, ap, refl, subst, List}
use Rattle.json.specs.Token.{Token}
use Rattle.json.specs.Lex.{lex, between, punctuate, after_comma}
use Rattle.recorder.specs.Clipped.{clipped_number}
use Rattle.recorder.specs.ByTokens.{GivesValue, clipped_source, value_tokens, later_tokens}
use Rattle.recorder.proofs.ByTokens.{gives_also, gives_null, source_is_number}
use Rattle.recorder.proofs.SpacedTokens.{null_value}
use Rattle.recorder.proofs.plain.values.take_source.Goals as goal

pub returns-then-ends_word : goal.returns-then-ends_word
returns-then-ends_word c depth =
    gives_null clipped_source depth (value_tokens c.args.rest.now) (later_tokens c.take.new.self) None
    (null_value c.args.rest.now c.skip_space.new.rest c.take.new.self c.skip_space.ensures
    (c.if-take.ensures.found refl) (c.if-ends_word.ensures refl)) refl

pub returns : goal.returns
returns c depth =
    let n = c.in_ok-source.source in
    let same = ap (λ t. punctuate after_comma (lex between t)) (c.if-take.ensures.kept refl)
    ∙ ap (punctuate after_comma) c.skip_space.ensures in
    gives_also clipped_number clipped_source depth (value_tokens c.args.rest.now) (later_tokens c.take_number.new.rest)
    n (Some n) (source_is_number n)
    (subst (λ (ts : List Token). GivesValue clipped_number depth ts n (later_tokens c.take_number.new.rest)) same
    (c.in_ok-source.ensures depth))
