use Rattle.std.proofs.Common.{arith, decimal, refl}
use Rattle.serde_json.specs.Data.{unsigned}
use Rattle.serde_json.proofs.Numbers.{number_of-decimal}
use Rattle.recorder.specs.Reading.{natural}
use Rattle.recorder.specs.ByTokens.{value_tokens, later_tokens}
use Rattle.recorder.proofs.ByTokens.{gives_number}
use Rattle.recorder.proofs.SpacedTokens.{number_value}
use Rattle.recorder.proofs.plain.values.take_natural.Goals as goal

pub returns : goal.returns
returns c depth =
    let n = c.in_ok-n.n in
    gives_number natural depth (value_tokens c.args.rest.now) (later_tokens c.take_digits.new.rest) (decimal n)
    (unsigned n) n (number_value c.args.rest.now c.skip_space.new.rest c.take_digits.new.rest n c.skip_space.ensures
    c.in_ok-n.ensures (c.if-not-ends_word.ensures refl) (omega arith)) (number_of-decimal n (omega arith)) refl
