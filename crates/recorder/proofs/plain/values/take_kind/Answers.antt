use Rattle.std.proofs.Common.{◌∷◌, [], refl}
use Rattle.serde_json.specs.Find.{as_str}
use Rattle.recorder.specs.ByTokens.{value_tokens, later_tokens}
use Rattle.recorder.proofs.ByTokens.{gives_string}
use Rattle.recorder.proofs.SpacedTokens.{string_value}
use Rattle.recorder.proofs.plain.values.take_kind.Goals as goal

pub returns : goal.returns
returns c depth =
    let kind = c.in_ok-letter.letter ∷ [] in
    gives_string as_str depth (value_tokens c.args.rest.now) (later_tokens c.ends_member.new.rest) kind kind
    (string_value c.args.rest.now c.take_letter.new.rest c.ends_member.new.rest kind c.in_ok-letter.ensures
    c.if-not-ends_member.ensures.same (c.if-not-ends_member.ensures.ends refl)) refl
